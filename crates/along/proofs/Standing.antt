-- Rows that stand in the room for a tree, and what writing and copying leave of it. Assumes nothing.
use mathlib.Core.Path.{◌≡◌, refl, sym, ap, ◌∙◌}
use mathlib.Core.Bool.{Bool, true, false}
use mathlib.Core.List.{List, ◌++◌}
use Prim.Native.Nat.{ℕ, ◌+◌, ◌-◌, ◌≤◌, ◌<◌}
use native.Mathlib.Nat.{zero-add}
use native.Mathlib.Omega.{arith}
use borrow.Author.Tests.{ltb-true, ltb-false}
use lib.Dec.{ltb}
use lib.ListN.{length, get_or, length-append, get_or-append}
use lib.Seq.{sets, length-sets, get_or-append-add, ext_get_or}
use Rattle.bits.proofs.Writing.{sets_before, sets_inside, sets_behind}
use Rattle.along.specs.Rows.{Shows, Below, Beyond}

-- ---- a row that is written

module _ {t' : List ℕ} (t r : List ℕ) (a : ℕ) (z : t' ≡ sets t a r) where
  written_length : length t' ≡ length t
  written_length = ap length z ∙ length-sets t a r

  pub written_below : Below t t' a
  written_below = record { same_length = written_length; same = λ i h. ap (λ (x : List ℕ). get_or x i 0) z ∙ sets_before t a r i h }

  pub written_shows : Shows t' a r
  written_shows i h l = ap (λ (x : List ℕ). get_or x (a + i) 0) z ∙ sets_inside t a r i h (omega (arith, written_length))

  pub written_beyond : Beyond t t' (a + length r)
  written_beyond = record { same_length = written_length; same = λ i h. ap (λ (x : List ℕ). get_or x i 0) z ∙ sets_behind t a r i h }

-- ---- what stays

pub below_then : {t t₁ t₂ : List ℕ} {c : ℕ} (d : ℕ) → Below t t₁ c → Below t₁ t₂ d → c ≤ d → Below t t₂ c
below_then d B C h = record { same_length = C.same_length ∙ B.same_length; same = λ i k. C.same i (omega arith) ∙ B.same i k }

pub beyond_then : {t t₁ t₂ : List ℕ} {d : ℕ} (c : ℕ) → Beyond t t₁ c → Beyond t₁ t₂ d → c ≤ d → Beyond t t₂ d
beyond_then c B C h = record { same_length = C.same_length ∙ B.same_length; same = λ i k. C.same i k ∙ B.same i (omega arith) }

pub beyond_less : {t t' : List ℕ} {d : ℕ} (c : ℕ) → Beyond t t' c → c ≤ d → Beyond t t' d
beyond_less c B h = record { same_length = B.same_length; same = λ i k. B.same i (omega arith) }

-- a row before c stays
pub shows_still : {t t' : List ℕ} {c : ℕ} (a : ℕ) (r : List ℕ) → Shows t a r → Below t t' c → a + length r ≤ c → Shows t' a r
shows_still a r S B h i k l = B.same (a + i) (omega arith) ∙ S i k (omega (arith, B.same_length))

-- ---- rows in a row

pub side : (i n : ℕ) (P : Type 0) → (i < n → P) → (n ≤ i → P) → P
side i n P f g = go (ltb i n) refl
  where
    go : (b : Bool) → ltb i n ≡ b → P
    go true z = f (ltb-true i n z)
    go false z = g (ltb-false i n z)

pub shows_then : (t : List ℕ) (a : ℕ) (r s : List ℕ) → Shows t a r → Shows t (a + length r) s → Shows t a (r ++ s)
shows_then t a r s S T i h l = side i (length r) (get_or t (a + i) 0 ≡ get_or (r ++ s) i 0) first second
  where
    first : i < length r → get_or t (a + i) 0 ≡ get_or (r ++ s) i 0
    first k = S i k l ∙ sym (get_or-append r s 0 i k)

    second : length r ≤ i → get_or t (a + i) 0 ≡ get_or (r ++ s) i 0
    second k =
        let m : length r + (i - length r) ≡ i = omega arith in
        let n : a + length r + (i - length r) ≡ a + i = omega arith in
        ap (λ (x : ℕ). get_or t x 0) (sym n) ∙ T (i - length r) (omega (arith, length-append r s)) (omega arith) ∙ sym (get_or-append-add r s (i - length r) 0) ∙ ap (λ (x : ℕ). get_or (r ++ s) x 0) m

-- a row that stands at a is written, where what lies before and behind is as it was
pub shows_wrote : (t₀ t r : List ℕ) (a : ℕ) → Below t₀ t a → Shows t a r → Beyond t₀ t (a + length r) → t ≡ sets t₀ a r
shows_wrote t₀ t r a A S B = ext_get_or 0 t (sets t₀ a r) (B.same_length ∙ sym (length-sets t₀ a r)) at
  where
    inside : (i : ℕ) → i < length t → a ≤ i → i < a + length r → get_or t i 0 ≡ get_or (sets t₀ a r) i 0
    inside i h k l =
        let n : a + (i - a) ≡ i = omega arith in
        ap (λ (x : ℕ). get_or t x 0) (sym n) ∙ S (i - a) (omega arith) (omega arith) ∙ sym (sets_inside t₀ a r (i - a) (omega arith) (omega (arith, B.same_length))) ∙ ap (λ (x : ℕ). get_or (sets t₀ a r) x 0) n

    at : (i : ℕ) → i < length t → get_or t i 0 ≡ get_or (sets t₀ a r) i 0
    at i h =
        side i a (get_or t i 0 ≡ get_or (sets t₀ a r) i 0) (λ k. A.same i k ∙ sym (sets_before t₀ a r i k))
        (λ k. side i (a + length r) (get_or t i 0 ≡ get_or (sets t₀ a r) i 0) (inside i h k) (λ l. B.same i l ∙ sym (sets_behind t₀ a r i l)))

pub shows_whole : (t₀ t r : List ℕ) → Shows t 0 r → Beyond t₀ t (length r) → t ≡ sets t₀ 0 r
shows_whole t₀ t r S B = shows_wrote t₀ t r 0 (record { same_length = B.same_length; same = λ i h. absurd (omega arith) }) S (rw (zero-add (length r)) B)
