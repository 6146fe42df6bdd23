-- `sets::set::Set::load` meets its contract. Assumes nothing.
use Rattle.std.proofs.Common.{sym}
use Rattle.sets.proofs.SetLaws.{held_at}
use Rattle.sets.proofs.set.Set.load.Goals as goal

pub returns : goal.returns
returns c = sym (held_at c.args.cells.now c.args.i)
