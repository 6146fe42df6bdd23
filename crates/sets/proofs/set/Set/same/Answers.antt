-- `sets::set::Set::same` meets its contract. Assumes nothing.
use Rattle.std.proofs.Common.{ℕ, sym, ap, ◌∙◌}
use borrow.Author.Tests.{eqb-true, eq-eqb}
use Rattle.bits.specs.Bit.{bit}
use Rattle.sets.specs.declared.set.Set.{Set}
use Rattle.sets.specs.Members.{limit, has}
use Rattle.sets.proofs.SetLaws.{same_set}
use Rattle.sets.proofs.set.Set.same.Goals as goal

abbrev bits_of : Set → ℕ
bits_of s = s.bits

pub returns : goal.returns
unfolding has
returns c =
    let good = c.well_formed in
    let same = c.eq.ensures in
    (λ h q. ap (λ (b : ℕ). bit limit b q) (eqb-true _ _ (sym same ∙ h)), λ a. same ∙ eq-eqb _ _ (ap bits_of (same_set good.0 good.1.0 a)))
