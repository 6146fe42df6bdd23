-- The next closing of a mark, by the tokens in front of a row. Assumes nothing.
use mathlib.Core.Path.{◌≡◌, refl, ◌∙◌}
use mathlib.Core.Bool.{true, false}
use mathlib.Core.List.{List, ◌∷◌}
use Prim.Native.Nat.{ℕ, suc, ◌+◌, ◌-◌, ◌≤◌, ◌<◌}
use native.Mathlib.Omega.{arith}
use borrow.Author.Tests.{eq-eqb, ne_eqb}
use Rattle.meaning.specs.Turns.{closes, is_byte, up_to_closing, bytes_in}
use Rattle.positions.specs.ByteTokens.{below_bytes, a_byte}
use Rattle.positions.specs.InFront.{closed_past, closed_here, up_to_past, up_to_here, next_bytes}
use Rattle.tally.specs.Along.{never, Closed, is_closed, not_closed, Short, no_turn, one_turn}

byte_in : (t : ℕ) (row : List ℕ) → is_byte t ≡ true → bytes_in (t ∷ row) ≡ 1 + bytes_in row
byte_in t row e = unfold bytes_in in rw e

other_bytes_in : (t : ℕ) (row : List ℕ) → is_byte t ≡ false → bytes_in (t ∷ row) ≡ 0 + bytes_in row
other_bytes_in t row e = unfold bytes_in in rw e

module _ {h t : ℕ} {row : List ℕ} {seen : ℕ} where
  -- one token more, which does not close h; n of it are bytes
  past : {c : ℕ} (n : ℕ) → (t ≡ 128 + h → ⊥) → ((rest : List ℕ) → bytes_in (t ∷ rest) ≡ n + bytes_in rest) → Closed h row seen c → Closed h (t ∷ row) (seen + n) c
  past n o e (is_closed y q) =
      let z : closes h t ≡ false = ne_eqb t (128 + h) o in
      is_closed (closed_past h t row z ∙ y) (rw (up_to_past h t row z) (omega (arith, e (up_to_closing h row))))
  past n o e (not_closed y l) = not_closed (closed_past h t row (ne_eqb t (128 + h) o) ∙ y) l

  pub past_byte : {c : ℕ} → h ≤ 64 → 256 ≤ t → t ≤ 511 → Closed h row seen c → Closed h (t ∷ row) (seen + 1) c
  past_byte l m m' = past 1 (λ q. omega arith) (λ rest. byte_in t rest (a_byte t m m'))

  pub past_other : {c : ℕ} → (t ≡ 128 + h → ⊥) → is_byte t ≡ false → Closed h row seen c → Closed h (t ∷ row) seen c
  past_other o e k = let z : seen + 0 ≡ seen = omega arith in rw z at (past 0 o (λ rest. other_bytes_in t rest e) k)

pub closed_now : {h t : ℕ} {row : List ℕ} {seen : ℕ} → t ≡ 128 + h → Closed h (t ∷ row) seen seen
closed_now {h} {t} {row} q =
    let y : closes h t ≡ true = eq-eqb t (128 + h) q in
    is_closed (closed_here h t row y) (rw (up_to_here h t row y) (unfold bytes_in in omega arith))

-- what a turn reads that is opened there
pub next_is : {h seen : ℕ} {c : ℕ} {row : List ℕ} → seen < never → Closed h row seen c → next_bytes h row ≡ seen - c
next_is l (is_closed y q) = rw y (omega arith)
next_is l (not_closed y k) = rw y (omega arith)

-- turns of h, each of one byte: its next closing has one byte before it, and those of other marks are as they were
pub own_closing : {h k : ℕ} {front row : List ℕ} (seen : ℕ) → h ≤ 64 → 0 < k → Short h k front row → Closed h front (seen + 1) seen
own_closing seen l i no_turn = absurd (omega arith)
own_closing {h} seen l i (one_turn m m' s) =
    past_other (λ (q : h ≡ 128 + h). omega arith) (below_bytes h (omega arith)) (past_byte l m m' (closed_now refl))

pub other_closing : {h h' k seen : ℕ} {c : ℕ} {front row : List ℕ} → h ≤ 64 → h' ≤ 64 → (h ≡ h' → ⊥) → Short h k front row → Closed h' row seen c → Closed h' front (seen + k) c
other_closing {seen = seen} l l' o no_turn z = let e : seen + 0 ≡ seen = omega arith in rw e z
other_closing {h} {h'} {k = suc k} {seen = seen} l l' o (one_turn m m' s) z =
    let e : seen + k + 1 ≡ seen + suc k = omega arith in
    let inner = past_other (λ (q : 128 + h ≡ 128 + h'). o (omega arith)) (below_bytes (128 + h) (omega arith)) (other_closing l l' o s z) in
    past_other (λ (q : h ≡ 128 + h'). omega arith) (below_bytes h (omega arith)) (rw e at (past_byte l' m m' inner))
