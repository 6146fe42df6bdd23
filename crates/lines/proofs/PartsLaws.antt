-- Where an input parts, and how a line and a word agree. Assumes nothing.
use mathlib.Core.Path.{◌≡◌, refl, sym, ap, ◌∙◌}
use mathlib.Core.Bool.{Bool, true, false}
use mathlib.Core.List.{List, [], ◌∷◌}
use Prim.Native.Nat.{ℕ, zero, suc, ◌≤◌, ◌<◌}
use native.Mathlib.Numerals.{add-one}
use native.Mathlib.Omega.{arith}
use lib.ListN.{length, take, get_or, length-take}
use borrow.Author.Tests.{ne_eqb}
use Rattle.meaning.specs.Desk.{pattern_in, text_in}
use Rattle.lines.specs.Parts.{Split, Said, Headed}

-- ---- the first byte 10

split_here : (s : List ℕ) → Split (10 ∷ s) 0
unfolding pattern_in text_in
split_here s = record { within = omega arith; before = refl; behind = refl }

split_past : (b : ℕ) (s : List ℕ) (i : ℕ) → (b ≡ 10 → ⊥) → Split s i → Split (b ∷ s) (suc i)
unfolding pattern_in text_in
split_past b s i n p =
    record {
      within = omega (arith, p.within);
      before = rw (ne_eqb b 10 n) (ap (λ (l : List ℕ). b ∷ l) p.before);
      behind = rw (ne_eqb b 10 n, add-one) (rw add-one at p.behind);
    }

-- r is the place of a byte 10, or the length, and before it stands none
pub split_first : (s : List ℕ) (r : ℕ) → r ≤ length s → ((k : ℕ) → k < r → get_or s k 0 ≡ 10 → ⊥) → (r < length s → get_or s r 0 ≡ 10) → Split s r
unfolding pattern_in text_in
split_first [] zero h n e = record { within = omega arith; before = refl; behind = refl }
split_first [] (suc r) h n e = absurd (omega arith)
split_first (b ∷ s) zero h n e = rw (e (omega arith)) (split_here s)
split_first (b ∷ s) (suc r) h n e =
    let n' : (k : ℕ) → k < r → get_or s k 0 ≡ 10 → ⊥ = λ k g. n (suc k) (omega arith) in
    split_past b s r (n 0 (omega arith)) (split_first s r (omega arith) n' (λ g. e (omega arith)))

-- an input parts at one place
pub split_one : {s : List ℕ} {r r' : ℕ} → Split s r → Split s r' → r ≡ r'
split_one {s} {r} {r'} a b =
    let e : take r s ≡ take r' s = sym a.before ∙ b.before in
    omega (arith, simp length-take at (ap length e), a.within, b.within)

pub headed_long : (line word : List ℕ) → Headed line word → length word ≤ length line
headed_long line word e = omega (arith, simp length-take at (ap length e))

pub headed_short : (line word : List ℕ) → length line < length word → Headed line word → ⊥
headed_short line word h e = omega (arith, headed_long line word e)

-- what is said of a fact is one of the two
pub said_one : (A : Type 0) (r r' : Bool) → Said r A → Said r' A → r ≡ r'
said_one A true true a b = refl
said_one A true false a b = absurd (b a)
said_one A false true a b = absurd (a b)
said_one A false false a b = refl
