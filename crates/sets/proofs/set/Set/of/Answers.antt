-- `sets::set::Set::of` meets its contract. Assumes nothing.
use Rattle.sets.specs.Members.{has}
use Rattle.bits.proofs.Bits.{bit_shl}
use Rattle.sets.proofs.set.Set.of.Goals as goal

pub returns : goal.returns
unfolding has
returns c q = bit_shl 64 _ q c.requires
