-- `sets::class::Class::has` meets its contract. Assumes nothing.
use native.Mathlib.Omega.{arith}
use Rattle.sets.specs.Classes.{among}
use Rattle.bits.proofs.Bits.{bit_has}
use Rattle.sets.proofs.class.Class.has.Goals as goal

pub returns : goal.returns
unfolding among
returns c = bit_has 64 _ _ (omega arith)
