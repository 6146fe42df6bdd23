-- The turn count along a row, and one answer for each row and mark. Assumes nothing.
use mathlib.Core.Path.{◌≡◌, refl, sym, ◌∙◌, ap}
use mathlib.Core.Bool.{Bool, true, false, ◌&&◌, cond}
use mathlib.Core.List.{List, [], ◌∷◌, ◌++◌, append-nil, append_assoc}
use Prim.Native.Nat.{ℕ, ◌+◌, ◌≤◌}
use native.Mathlib.Omega.{arith}
use lib.ListN.{length, length-append}
use Rattle.std.specs.List.{push}
use Rattle.std.proofs.lemmas.List.{nil_from_length}
use Rattle.meaning.specs.Promise.{Counted, counted}
use Rattle.meaning.specs.Turns.{opens, is_counted, turn_count}
use Rattle.laws.specs.Promises.{counted_one}
use Rattle.turns.specs.declared.Behind.{Behind}
use Rattle.turns.specs.declared.NoMark.{NoMark}
use Rattle.std.specs.Prelude.{Result, Ok, Err}
use Rattle.turns.specs.Behind.{Stands, Lengthens}
use Rattle.turns.specs.Numbers.{number_of, count_of}
use Rattle.turns.proofs.Tokens.{at_end}

few_turns : (h : ℕ) (row : List ℕ) → turn_count h row ≤ length row
unfolding turn_count
few_turns h [] = omega arith
few_turns h (t ∷ row) = at_most_one (opens h t && is_counted h row) (few_turns h row)
  where
    at_most_one : (c : Bool) {n : ℕ} → n ≤ length row → cond c 1 0 + n ≤ length (t ∷ row)
    at_most_one true l = omega arith
    at_most_one false l = omega arith

-- along a row, from its end: what is left of it, and what stands behind that
pub record Left (h : ℕ) (row rest : List ℕ) (b : Behind) : Type 0 where
  pub behind : List ℕ
  pub whole : rest ++ behind ≡ row
  pub stands : Stands h behind b

pub left_all : (h : ℕ) {row rest : List ℕ} → rest ≡ row → Left h row rest (record { closed = false; counted = false; turns = 0 })
left_all h {row} {rest} e = record { behind = []; whole = append-nil rest ∙ e; stands = at_end h }

module _ {h : ℕ} {row rest : List ℕ} {b : Behind} (l : Left h row rest b) where
  pub left_fewer : (t : ℕ) {rest' : List ℕ} {b' : Behind} → rest ≡ push rest' t → Lengthens h t b b' → Left h row rest' b'
  left_fewer t {rest'} e f = record {
    behind = t ∷ l.behind;
    whole = sym (append_assoc rest' (t ∷ []) l.behind) ∙ ap (λ (front : List ℕ). front ++ l.behind) (sym e) ∙ l.whole;
    stands = f l.behind l.stands;
  }

  pub no_more : b.turns ≤ length row
  no_more = omega (arith, l.stands.turns, few_turns h l.behind, length-append rest l.behind, ap length l.whole)

  pub left_none : length rest ≡ 0 → 1 ≤ h → h ≤ 64 → Counted row h 0 b.turns
  left_none e i j = rw (l.stands.turns, ← l.whole, nil_from_length rest e) (counted i j)

-- the answer is settled
pub turns_one : {row : List ℕ} {mark : ℕ} (r r' : Result ℕ NoMark) → Counted row mark (number_of r) (count_of r) → Counted row mark (number_of r') (count_of r') → r ≡ r'
turns_one (Ok n) (Ok n') c c' = ap Ok (counted_one c c').1
turns_one (Ok n) (Err e) c c' = absurd (let z = (counted_one c c').0 in omega arith)
turns_one (Err e) (Ok n) c c' = absurd (let z = (counted_one c c').0 in omega arith)
turns_one (Err e) (Err e') c c' = refl
