-- `sets::set::Set::with` meets its contract. Assumes nothing.
use Rattle.sets.specs.Members.{has}
use Rattle.bits.proofs.Bits.{bit_with}
use Rattle.sets.proofs.set.Set.with.Goals as goal

pub returns : goal.returns
unfolding has
returns c q = bit_with 64 _ _ q c.requires
