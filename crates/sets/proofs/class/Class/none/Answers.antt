-- `sets::class::Class::none` meets its contract. Assumes nothing.
use mathlib.Core.Path.{ap, ◌∙◌}
use Prim.Native.Nat.{ℕ, ◌/◌, ◌%◌}
use Rattle.bits.specs.Bit.{bit}
use Rattle.sets.specs.Classes.{among}
use Rattle.bits.proofs.Bits.{bit_none}
use Rattle.sets.proofs.SetLaws.{same_at}
use Rattle.sets.proofs.class.Class.none.Goals as goal

pub returns : goal.returns
unfolding among
returns c q = ap (λ (x : ℕ). bit 64 x (q % 64)) (same_at 0 4 (q / 64)) ∙ bit_none 64 (q % 64)
