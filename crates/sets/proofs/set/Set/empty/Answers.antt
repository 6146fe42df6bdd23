-- `sets::set::Set::empty` meets its contract. Assumes nothing.
use Rattle.sets.specs.Members.{has}
use Rattle.bits.proofs.Bits.{bit_none}
use Rattle.sets.proofs.set.Set.empty.Goals as goal

pub returns-clause-members : goal.returns-clause-members
unfolding has
returns-clause-members c = bit_none 64
