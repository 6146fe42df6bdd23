-- `sets::set::Set::store` meets its contract. Assumes nothing.
use Rattle.std.proofs.Common.{arith}
use Rattle.sets.proofs.SetLaws.{stored_cell}
use Rattle.sets.proofs.set.Set.store.Goals as goal

pub returns : goal.returns
returns c = stored_cell c.args.self c.args.i c.args.cells.now (omega arith)
