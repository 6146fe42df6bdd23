-- `sets::set::Set::union` meets its contract. Assumes nothing.
use Rattle.sets.specs.Members.{has}
use Rattle.bits.proofs.Bits.{bit_or_lem}
use Rattle.sets.proofs.set.Set.union.Goals as goal

pub returns : goal.returns
unfolding has
returns c q = bit_or_lem 64 _ _ q
