-- One token in front of a row: whether a mark is closed then, what stands before its next closing, and what a turn reads that the token opens.
use Rattle.std.specs.Prelude.{◌≡◌, Bool, ◌&&◌, cond, List, [], ◌∷◌}
use Rattle.std.proofs.Math.Path.{refl}
use Rattle.std.proofs.Common.{ap, arith, zero-add}
use Rattle.std.proofs.Math.Bool.{true, false}
use Prim.Native.Nat.{ℕ, zero, suc, ◌+◌}
use Rattle.std.proofs.Math.Dec.{ltb}
use borrow.Author.Tests.{eq-eqb, ne_eqb, lt-ltb}
use Rattle.meaning.specs.Turns.{opens, closes, some_token, up_to_closing, turn_count, bytes_in, turn_bytes}
use Rattle.bits.specs.Tally.{one}
use Rattle.positions.specs.ByteTokens.{some_bytes}

-- a token that does not close h
module _ (h t : ℕ) (row : List ℕ) (n : closes h t ≡ false) where
  pub closed_past : some_token (closes h) (t ∷ row) ≡ some_token (closes h) row
  closed_past = unfold some_token in rw n

  pub up_to_past : up_to_closing h (t ∷ row) ≡ t ∷ up_to_closing h row
  up_to_past = unfold up_to_closing in rw n

-- one that does
module _ (h t : ℕ) (row : List ℕ) (y : closes h t ≡ true) where
  pub closed_here : some_token (closes h) (t ∷ row) ≡ true
  closed_here = unfold some_token in rw y

  pub up_to_here : up_to_closing h (t ∷ row) ≡ []
  up_to_here = unfold up_to_closing in rw y

-- how many bytes a turn of h reads that is opened in front of the row; 0, where it is never closed
abbrev pub next_bytes : ℕ → List ℕ → ℕ
next_bytes h row = cond (some_token (closes h) row) (bytes_in (up_to_closing h row)) 0

some_number : (n : ℕ) → cond (ltb 0 n) n 0 ≡ n
some_number zero = refl
some_number (suc n) = rw (lt-ltb 0 (suc n) (omega arith))

module _ (h t : ℕ) (row : List ℕ) where
  pub turn_opened : t ≡ h → turn_bytes h t row ≡ next_bytes h row
  turn_opened e = rw (eq-eqb t h e, some_bytes (up_to_closing h row)) (go (some_token (closes h) row) (bytes_in (up_to_closing h row)))
    where
      go : (c : Bool) (n : ℕ) → cond (c && ltb 0 n) n 0 ≡ cond c n 0
      go true n = some_number n
      go false n = refl

  pub turn_other : (t ≡ h → ⊥) → turn_bytes h t row ≡ 0
  turn_other n = rw (ne_eqb t h n)

  -- a turn is counted exactly if it read a byte
  pub turn_counted : turn_count h (t ∷ row) ≡ one (ltb 0 (turn_bytes h t row)) + turn_count h row
  turn_counted =
      unfold turn_count in
      rw (some_bytes (up_to_closing h row))
      (ap (λ (n : ℕ). n + turn_count h row) (go (opens h t) (some_token (closes h) row) (bytes_in (up_to_closing h row))))
    where
      go : (c d : Bool) (n : ℕ) → one (c && (d && ltb 0 n)) ≡ one (ltb 0 (cond (c && (d && ltb 0 n)) n 0))
      go true true zero = refl
      go true true (suc n) = rw (lt-ltb 0 (suc n) (omega arith), lt-ltb 0 (suc n) (omega arith))
      go true false n = refl
      go false d n = refl

  pub turn_count_other : (t ≡ h → ⊥) → turn_count h (t ∷ row) ≡ turn_count h row
  turn_count_other n = rw (turn_counted, turn_other n) (zero-add (turn_count h row))
