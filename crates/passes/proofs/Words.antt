-- A word of a class: a position joins the part of the table for the bytes in that word. Assumes nothing.
use mathlib.Core.Path.{◌≡◌, refl, sym, ap, ap₂, ◌∙◌}
use mathlib.Core.Bool.{Bool, true, false, ◌&&◌, ◌||◌, or-false}
use mathlib.Core.List.{List}
use Prim.Native.Nat.{ℕ, ◌+◌, ◌*◌, ◌-◌, ◌/◌, ◌%◌, ◌≤◌, ◌<◌}
use native.Mathlib.Omega.{arith}
use lib.Dec.{eqb, ltb}
use lib.ListN.{length, get_or, take, drop, length-drop}
use borrow.Author.Tests.{eqb-true, eqb-false, ltb-true, ltb-false}
use borrow.Rule.Slice.PartMut.{put_mid, same_len_mid}
use Rattle.std.proofs.lemmas.List.{length-take-le, get_or-take, get_or-drop, get_or_append_left, get_or-append_right}
use Rattle.std.proofs.lemmas.Slice.{take-put_mid_below, drop-put_mid}
use Rattle.bits.specs.Bit.{bit}
use Rattle.sets.specs.declared.set.Set.{Set}
use Rattle.sets.specs.Members.{has, none}
use Rattle.passes.specs.Masks.{in_word, Noted}
use Rattle.passes.specs.Ways.{Listed}

-- the part of xs from a on, of k entries, became ys
module _ (a k : ℕ) (xs ys : List Set) (inside : a + k ≤ length xs) (long : length ys ≡ k) where
  abbrev became : List Set
  became = put_mid a k xs ys

  before : (b : ℕ) → b < a → get_or became b none ≡ get_or xs b none
  before b h = sym (get_or-take a became b none h) ∙ ap (λ (l : List Set). get_or l b none) (take-put_mid_below a k xs ys a (omega arith) (omega arith)) ∙ get_or-take a xs b none h

  within : (b : ℕ) → a ≤ b → b < a + k → get_or became b none ≡ get_or ys (b - a) none
  within b h l =
      get_or-append_right (take a xs) _ a b none (length-take-le a xs (omega arith)) h ∙ get_or_append_left ys _ none (b - a) (omega arith)

  behind : (b : ℕ) → a + k ≤ b → get_or became b none ≡ get_or xs b none
  behind b h =
      let e : a + k + (b - (a + k)) ≡ b = omega arith in
      ap (λ (i : ℕ). get_or became i none) (sym e) ∙ sym (get_or-drop (a + k) became (b - (a + k)) none)
      ∙ ap (λ (l : List Set). get_or l (b - (a + k)) none) (drop-put_mid a k xs ys (a + k) (omega arith) (omega arith) long)
      ∙ get_or-drop (a + k) xs (b - (a + k)) none ∙ ap (λ (i : ℕ). get_or xs i none) e

-- position q joins the rows of the bytes in word w, whose value is x
module _ (x w q k : ℕ) (l part : List Set) (size : k ≡ 64) (inside : 64 * w + 64 ≤ length l) (P : Listed (record { bits = x }) q (take k (drop (64 * w) l)) part) where
  abbrev from : ℕ
  from = 64 * w

  abbrev after : List Set
  after = put_mid from k l part

  was_long : length (take k (drop from l)) ≡ k
  was_long = length-take-le k (drop from l) (omega (arith, length-drop from l))

  long : length part ≡ k
  long = P.same_rows ∙ was_long

  -- an entry outside the part stays
  outside : (b : ℕ) → (b / 64 ≡ w → ⊥) → get_or after b none ≡ get_or l b none
  outside b h = go (ltb b from) refl
    where
      le_of : (b : ℕ) → from ≤ b → (b / 64 ≡ w → ⊥) → from + k ≤ b
      le_of b g n = gap (ltb b (from + k)) refl
        where
          gap : (t : Bool) → ltb b (from + k) ≡ t → from + k ≤ b
          gap true e = let low = ltb-true b (from + k) e in let here : b / 64 ≡ w = omega arith in absurd (n here)
          gap false e = ltb-false b (from + k) e

      go : (t : Bool) → ltb b from ≡ t → get_or after b none ≡ get_or l b none
      go true e = before from k l part (omega arith) long b (ltb-true b from e)
      go false e =
          let ge : from ≤ b = ltb-false b from e in
          behind from k l part (omega arith) long b (le_of b ge h)

  pub noted_part : Noted x w q l after
  unfolding has in_word
  noted_part = record { same_rows = same_len_mid from k l part P.same_rows; joins = λ b p. go (eqb (b / 64) w) b p refl }
    where
      go : (t : Bool) (b p : ℕ) → eqb (b / 64) w ≡ t → has (get_or after b none) p ≡ (has (get_or l b none) p || ((t && bit 64 x (b % 64)) && eqb p q))
      go true b p e =
          let here : b / 64 ≡ w = eqb-true _ _ e in
          let low : b - from ≡ b % 64 = omega arith in
          let back : from + (b - from) ≡ b = omega arith in
          let there = get_or-take k (drop from l) (b - from) none (omega (arith, size)) ∙ get_or-drop from l (b - from) none ∙ ap (λ (i : ℕ). get_or l i none) back in
          ap (λ (y : Set). has y p) (within from k l part (omega arith) long b (omega arith) (omega arith)) ∙ P.joins (b - from) p
          ∙ ap₂ (λ (y : Set) (i : ℕ). has y p || (bit 64 x i && eqb p q)) there low
      go false b p e = ap (λ (y : Set). has y p) (outside b (eqb-false _ _ e)) ∙ sym (or-false _)
