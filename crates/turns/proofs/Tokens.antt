-- One token more in front of a row: what then is closed, counted, and how many turns there are. Assumes nothing.
use mathlib.Core.Path.{◌≡◌, refl, sym, ◌∙◌}
use mathlib.Core.Bool.{Bool, true, false, cond, and-true}
use mathlib.Core.Logic.{◌⊎◌, inl, inr}
use mathlib.Core.List.{List, [], ◌∷◌}
use Prim.Native.Nat.{ℕ, ◌+◌, ◌≤◌, ◌<◌}
use native.Mathlib.Omega.{arith}
use borrow.Author.Tests.{eq-eqb, ne_eqb}
use Rattle.meaning.specs.Turns.{closes, is_byte, some_token, is_counted, turn_count}
use Rattle.positions.specs.ByteTokens.{below_bytes, above_bytes, a_byte}
use Rattle.positions.specs.InFront.{closed_past, closed_here, up_to_past, up_to_here, turn_count_other}
use Rattle.turns.specs.declared.Behind.{Behind}
use Rattle.turns.specs.Behind.{Stands}

turns_opened : (h t : ℕ) (row : List ℕ) → t ≡ h → {c : Bool} → c ≡ is_counted h row → turn_count h (t ∷ row) ≡ cond c 1 0 + turn_count h row
turns_opened h t row e k = unfold turn_count in rw (eq-eqb t h e, k)

module _ (h t : ℕ) (row : List ℕ) (n : closes h t ≡ false) where
  counted_past : is_byte t ≡ false → is_counted h (t ∷ row) ≡ is_counted h row
  counted_past e = rw (closed_past h t row n, up_to_past h t row n) (unfold some_token in rw e)

  counted_byte : is_byte t ≡ true → is_counted h (t ∷ row) ≡ some_token (closes h) row
  counted_byte e = rw (closed_past h t row n, up_to_past h t row n) (unfold some_token in rw e (and-true _))

counted_here : (h t : ℕ) (row : List ℕ) → closes h t ≡ true → is_counted h (t ∷ row) ≡ false
counted_here h t row y = rw (closed_here h t row y, up_to_here h t row y) (unfold some_token in refl)

-- what stands behind the place before, by what the token there is
module _ {h t : ℕ} {row : List ℕ} {b : Behind} (s : Stands h row b) where
  -- neither a closing of h nor a byte
  same : (t ≡ 128 + h → ⊥) → is_byte t ≡ false → (n : ℕ) → n ≡ turn_count h (t ∷ row) → Stands h (t ∷ row) (record { closed = b.closed; counted = b.counted; turns = n })
  same n u k e =
      let z : closes h t ≡ false = ne_eqb t (128 + h) n in
      record {
        closed = s.closed ∙ sym (closed_past h t row z);
        counted = s.counted ∙ sym (counted_past h t row z u);
        turns = e;
      }

  pub opened : h ≤ 64 → t ≡ h → {c : Bool} → b.counted ≡ c → (n : ℕ) → n ≡ cond c 1 0 + b.turns → Stands h (t ∷ row) (record { closed = b.closed; counted = b.counted; turns = n })
  opened l e y n k = same (λ q. omega (arith, e, q)) (below_bytes t (omega (arith, e))) n (omega (arith, k, s.turns, turns_opened h t row e (sym y ∙ s.counted)))

  pub closed : t ≡ 128 + h → Stands h (t ∷ row) (record { closed = true; counted = false; turns = b.turns })
  closed e =
      let y : closes h t ≡ true = eq-eqb t (128 + h) e in
      record {
        closed = sym (closed_here h t row y);
        counted = sym (counted_here h t row y);
        turns = s.turns ∙ sym (turn_count_other h t row (λ q. omega (arith, e, q)));
      }

  pub byte : h ≤ 64 → 256 ≤ t → t ≤ 511 → Stands h (t ∷ row) (record { closed = b.closed; counted = b.closed; turns = b.turns })
  byte l m m' =
      let z : closes h t ≡ false = ne_eqb t (128 + h) (λ q. omega (arith, q)) in
      record {
        closed = s.closed ∙ sym (closed_past h t row z);
        counted = s.closed ∙ sym (counted_byte h t row z (a_byte t m m'));
        turns = s.turns ∙ sym (turn_count_other h t row (λ q. omega (arith, q)));
      }

  pub passed : (t ≡ h → ⊥) → (t ≡ 128 + h → ⊥) → (t < 256) ⊎ (511 < t) → Stands h (t ∷ row) b
  passed n n' (inl l) = same n' (below_bytes t l) _ (s.turns ∙ sym (turn_count_other h t row n))
  passed n n' (inr l) = same n' (above_bytes t l) _ (s.turns ∙ sym (turn_count_other h t row n))

-- nothing stands behind the end
pub at_end : (h : ℕ) → Stands h [] (record { closed = false; counted = false; turns = 0 })
unfolding some_token turn_count
at_end h = record { closed = refl; counted = refl; turns = refl }
