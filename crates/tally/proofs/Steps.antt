-- One step towards the front of a row, by the tokens there. Assumes nothing.
use mathlib.Core.Path.{◌≡◌, refl}
use mathlib.Core.Bool.{Bool, true, false, cond}
use mathlib.Core.List.{List, ◌∷◌}
use Prim.Native.Nat.{ℕ, suc, ◌+◌, ◌-◌, ◌≤◌, ◌<◌}
use native.Mathlib.Omega.{arith}
use lib.Dec.{eqb}
use lib.ListN.{length, get_or, get_or-replicate, drop, set, replicate}
use lib.Seq.{drop-length}
use borrow.Author.Tests.{eqb-true, eqb-false, lt-ltb}
use Rattle.meaning.specs.declared.Record.{Record}
use Rattle.meaning.specs.Limits.{mark_limit}
use Rattle.meaning.specs.Turns.{is_byte, some_token, turn_count, bytes_read, longest_turn}
use Rattle.tally.specs.Tally.{blank}
use Rattle.tally.specs.Along.{opened_at, Added, never, Closed, not_closed, Behind}
use Rattle.tally.proofs.Adding.{set_at}
use Rattle.tally.proofs.Closings.{past_byte, past_other}
use Rattle.tally.proofs.Gains.{Gains, gains_none, tallied_on, added_none}

-- the turn that an opening begins, by the next closing: it is counted if it read a byte
module _ (m seen : ℕ) (closed : List ℕ) where
  pub opened_some : get_or closed m 0 < seen → opened_at m seen closed ≡ record { turns = 1; bytes = seen - get_or closed m 0; longest = seen - get_or closed m 0 }
  opened_some l = rw (lt-ltb 0 (seen - get_or closed m 0) (omega arith)) refl

  pub opened_empty : seen ≤ get_or closed m 0 → opened_at m seen closed ≡ blank
  opened_empty l = let z : seen - get_or closed m 0 ≡ 0 = omega arith in rw z refl

-- the row behind a place grows by a front
module _ {row : List ℕ} {seen : ℕ} {closed : List ℕ} {f₀ f : List Record} (b : Behind row seen closed f₀ f) where
  pub behind_byte : (t : ℕ) → 256 ≤ t → t ≤ 511 → Behind (t ∷ row) (seen + 1) closed f₀ f
  behind_byte t l l' = record {
    few = omega (arith, b.few);
    each = λ p i. past_byte (omega arith) l l' (b.each p i);
    so_far = tallied_on (gains_none 0 t row (λ p i e. omega arith)) (added_none 0 f) b.so_far;
  }

  -- that holds no byte and closes no mark
  pub behind_other : (t : ℕ) {m : ℕ} {more : Record} {f' : List Record} → is_byte t ≡ false → ((p : ℕ) → p < mark_limit → t ≡ 128 + suc p → ⊥) → Gains m more row (t ∷ row) → Added m more f f'
      → Behind (t ∷ row) seen closed f₀ f'
  behind_other t e o g a = record {
    few = omega (arith, b.few);
    each = λ p i. past_other (o p i) e (b.each p i);
    so_far = tallied_on g a b.so_far;
  }

  -- of which the next closing of one mark changes
  pub behind_closing : {row' : List ℕ} {seen' m : ℕ} {more : Record} {f' : List Record} (c : ℕ) → m < mark_limit → mark_limit ≤ length closed → seen' ≤ length row' → Closed (suc m) row' seen' c
      → ((p : ℕ) → p < mark_limit → (p ≡ m → ⊥) → Closed (suc p) row seen (get_or closed p 0) → Closed (suc p) row' seen' (get_or closed p 0))
      → Gains m more row row' → Added m more f f' → Behind row' seen' (set closed m c) f₀ f'
  behind_closing {row'} {seen'} {m} c i w s own others g a = record {
    few = s;
    each = λ p j. rw (set_at closed m c 0 p (omega arith)) (go p j (eqb p m) refl);
    so_far = tallied_on g a b.so_far;
  }
    where
      go : (p : ℕ) → p < mark_limit → (q : Bool) → eqb p m ≡ q → Closed (suc p) row' seen' (cond q c (get_or closed p 0))
      go p j true e = rw (eqb-true p m e) own
      go p j false e = others p j (eqb-false p m e) (b.each p j)

-- nothing stands behind the end, and everything behind the front
pub behind_end : (row : List ℕ) (closed : List ℕ) (f : List Record) → closed ≡ replicate mark_limit never → Behind (drop (length row) row) 0 closed f f
behind_end row closed f e = rw (drop-length row) (record {
  few = omega arith;
  each = λ m i. rw (e, get_or-replicate {A = ℕ} mark_limit m never 0 i) (not_closed (unfold some_token in refl) (omega arith));
  so_far = unfold turn_count bytes_read longest_turn in record {
    more_turns = λ m i. omega arith;
    more_bytes = λ m i. omega arith;
    longer = λ m i. omega arith;
  };
})
