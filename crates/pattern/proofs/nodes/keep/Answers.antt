-- `keep` meets its contract. Assumes nothing.
use Rattle.std.proofs.Common.{arith}
use Rattle.sets.proofs.ClassLaws.{class_fits}
use Rattle.pattern.proofs.Classes.{kept, unkept}
use Rattle.pattern.proofs.nodes.keep.Goals as goal

pub returns-then-n-lt-POSITION_LIMIT : goal.returns-then-n-lt-POSITION_LIMIT
returns-then-n-lt-POSITION_LIMIT c = kept _ _ _ (class_fits c.well_formed.1.1.0)

pub returns-else-n-lt-POSITION_LIMIT : goal.returns-else-n-lt-POSITION_LIMIT
returns-else-n-lt-POSITION_LIMIT c = unkept _ _ _ (omega (arith, c.if-n-lt-POSITION_LIMIT.false))
