-- `sets::set::Set::without` meets its contract. Assumes nothing.
use Rattle.sets.specs.Members.{has}
use Rattle.bits.proofs.Bits.{bit_without}
use Rattle.sets.proofs.set.Set.without.Goals as goal

pub returns : goal.returns
unfolding has
returns c q = bit_without 64 _ _ q c.requires
