-- `sets::set::Set::meet` meets its contract. Assumes nothing.
use Rattle.sets.specs.Members.{has}
use Rattle.bits.proofs.Bits.{bit_and_lem}
use Rattle.sets.proofs.set.Set.meet.Goals as goal

pub returns : goal.returns
unfolding has
returns c q = bit_and_lem 64 _ _ q
