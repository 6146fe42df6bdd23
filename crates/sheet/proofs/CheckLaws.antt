-- Whether lengths add up, by what is left of a number when they are taken from it; and the greatest of a row. Assumes nothing.
use mathlib.Core.Path.{◌≡◌, refl, sym, ◌∙◌}
use mathlib.Core.Bool.{Bool, true, false}
use mathlib.Core.List.{List, [], ◌∷◌}
use Prim.Native.Nat.{ℕ, ◌+◌, max}
use Rattle.std.specs.Prelude.{Option, unwrap_or}
use Rattle.std.specs.List.{fold, reduce}
use Rattle.meaning.specs.Night.{greatest}
use native.Mathlib.Omega.{arith}
use lib.Dec.{eqb}
use borrow.Author.Tests.{eq-eqb, ne_eqb, eqb-true, eqb-false}

pub adds_not : (s n : ℕ) → (s ≡ n → ⊥) → false ≡ eqb s n
adds_not s n d = sym (ne_eqb s n d)

-- a sum is n exactly if nothing is left of it
pub adds_as : (s n left : ℕ) → s + left ≡ n → eqb left 0 ≡ eqb s n
adds_as s n left e = go (eqb left 0) refl
  where
    go : (t : Bool) → eqb left 0 ≡ t → t ≡ eqb s n
    go true z = let y = eqb-true left 0 z in sym (eq-eqb s n (omega arith))
    go false z = let y = eqb-false left 0 z in sym (ne_eqb s n (λ w. y (omega arith)))

-- the greatest number is what a pass along the row picks; 0, where it has none
picked : (n : ℕ) (row : List ℕ) → fold max n row ≡ max n (greatest row)
unfolding greatest
picked n [] = omega arith
picked n (m ∷ row) = omega (arith, picked (max n m) row)

pub greatest_reduced : (row : List ℕ) {most : Option ℕ} {n : ℕ} → most ≡ reduce max row → n ≡ unwrap_or most 0 → n ≡ greatest row
unfolding greatest
greatest_reduced [] e d = rw e at d
greatest_reduced (m ∷ row) e d = rw e at d ∙ picked m row
