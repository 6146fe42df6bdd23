-- The numbers from c on and below b, or up to d, as a test. Assumes nothing.
use mathlib.Core.Path.{◌≡◌, refl, sym, ap, ◌∙◌}
use mathlib.Core.Bool.{Bool, true, false, ◌&&◌, ◌||◌}
use mathlib.Core.Logic.{⊎_elim}
use Prim.Native.Nat.{ℕ, ◌+◌, ◌≤◌, ◌<◌, max}
use native.Mathlib.Omega.{arith}
use lib.Dec.{eqb, ltb, leb}
use borrow.Author.Tests.{eqb-true, eq-eqb, ltb-true, ltb-false, lt-ltb, leb-true, le-leb}
use Rattle.bits.specs.Truth.{alike, both, and_both, either}

-- there is none before the first
pub range_none : (c q : ℕ) → (leb c q && ltb q c) ≡ false
range_none c q = none (leb c q && ltb q c) refl
  where
    none : (t : Bool) → (leb c q && ltb q c) ≡ t → t ≡ false
    none true e =
        let s = both (leb c q) (ltb q c) e in
        let l : c ≤ q = leb-true c q s.0 in
        let m : q < c = ltb-true q c s.1 in
        absurd (omega arith)
    none false e = refl

-- one more
pub range_more : (c b q : ℕ) → c ≤ b → (leb c q && ltb q (b + 1)) ≡ ((leb c q && ltb q b) || eqb q b)
range_more c b q h = alike _ _ there back
  where
    there : (leb c q && ltb q (b + 1)) ≡ true → ((leb c q && ltb q b) || eqb q b) ≡ true
    there e =
        let s = both (leb c q) (ltb q (b + 1)) e in
        let l : q < b + 1 = ltb-true q (b + 1) s.1 in
        pick (leb c q && ltb q b) refl s.0 l
      where
        pick : (t : Bool) → (leb c q && ltb q b) ≡ t → leb c q ≡ true → q < b + 1 → (t || eqb q b) ≡ true
        pick true r m l = refl
        pick false r m l = eq-eqb q b (let n : b ≤ q = ltb-false q b (sym (ap (λ (x : Bool). x && ltb q b) m) ∙ r) in omega arith)

    back : ((leb c q && ltb q b) || eqb q b) ≡ true → (leb c q && ltb q (b + 1)) ≡ true
    back e =
        ⊎_elim
        (λ m. let s = both (leb c q) (ltb q b) m in and_both s.0 (lt-ltb q (b + 1) (let l : q < b = ltb-true q b s.1 in omega arith)))
        (λ m. let l : q ≡ b = eqb-true q b m in and_both (le-leb c q (omega arith)) (lt-ltb q (b + 1) (omega arith)))
        (either (leb c q && ltb q b) (eqb q b) e)

-- the whole range, counted up to a b past d; or none of it, where d is before c
pub range_end : (c d b q : ℕ) → d < b → b ≤ max c (d + 1) → (leb c q && ltb q b) ≡ (leb c q && leb q d)
range_end c d b q h k =
    alike _ _
    (λ e. let s = both (leb c q) (ltb q b) e in
    let l : c ≤ q = leb-true c q s.0 in
    let m : q < b = ltb-true q b s.1 in
    and_both s.0 (le-leb q d (omega arith)))
    (λ e. let s = both (leb c q) (leb q d) e in
    let m : q ≤ d = leb-true q d s.1 in
    and_both s.0 (lt-ltb q b (omega arith)))
