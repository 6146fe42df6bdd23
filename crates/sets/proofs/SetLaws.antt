-- What a caller's proof may want of sets beside the contracts. Assumes nothing.
use mathlib.Core.Path.{◌≡◌, refl, sym, ap, ap₂, ◌∙◌}
use mathlib.Core.Bool.{Bool, true, false, ◌&&◌, not, false≢true}
use mathlib.Core.List.{List, map}
use Prim.Native.Nat.{ℕ, zero, suc, ◌-◌, ◌^◌, ◌≤◌, ◌<◌}
use native.Mathlib.Omega.{arith}
use lib.Bits.{bit_and}
use lib.Count.{count_trailing_zeros, trailing_le}
use lib.Dec.{eqb, ltb}
use Rattle.std.proofs.Math.ListN.{get_or-map}
use lib.ListN.{length, get_or, set, replicate, length-set}
use lib.Seq.{get_or-set_same, get_or-set_other}
use mir.Val.{Val}
use denote.Laws.{Is}
use borrow.Author.Tests.{ne_eqb, ltb-true, ltb-false}
use Rattle.sets.specs.declared.set.Set.{Set}
use Rattle.std.proofs.lemmas.List.{map-set, length-map}
use Rattle.sets.specs.Members.{has, limit, size, meets, Least, none, rows, row, Stored, of_word, held}
use Rattle.sets.specs.contracts.set.Set.{the_row}
use Rattle.bits.specs.Bit.{bit}
use Rattle.bits.specs.Truth.{both, and_both}
use Rattle.bits.proofs.Bits.{bit_none, bit_lt, bit_same, bit_before, bit_first, bit_drop}
use Rattle.bits.proofs.Tallies.{any_at, any_some, tally_less}

-- ---- a set's members

module _ (s : Set) where
  pub has_lt : (p : ℕ) → has s p ≡ true → p < limit
  unfolding has
  has_lt p e = bit_lt limit s.bits p e

  -- past the limit there is none
  no_member : ((q : ℕ) → q < limit → has s q ≡ false) → (q : ℕ) → has s q ≡ false
  no_member g q = go (has s q) refl
    where
      go : (t : Bool) → has s q ≡ t → has s q ≡ false
      go true e = g q (has_lt q e)
      go false e = e

  -- where the least member is the limit there is none
  pub least_none : (r : ℕ) → Least s r → limit ≤ r → (q : ℕ) → has s q ≡ false
  least_none r l h = no_member (λ q k. l.below q (omega arith))

-- ---- two sets that meet

module _ (s t : Set) where
  pub meets_at : (q : ℕ) → has s q ≡ true → has t q ≡ true → meets s t ≡ true
  unfolding meets
  meets_at q e f = any_at (λ q. has s q && has t q) limit q (has_lt s q e) (and_both e f)

  pub meets_some : meets s t ≡ true → (q : ℕ) × (has s q ≡ true) × (has t q ≡ true)
  unfolding meets
  meets_some e =
      let w = any_some (λ q. has s q && has t q) limit e in
      let b = both (has s w.0) (has t w.0) w.2 in
      (w.0, b.0, b.1)

-- ---- r is s without p: a loop over the members has `size` as its measure

module _ (s r : Set) (p : ℕ) (less : (q : ℕ) → has r q ≡ (has s q && not (eqb q p))) where
  pub without_fewer : has s p ≡ true → size r < size s
  unfolding size
  without_fewer e = tally_less (has s) (has r) limit p (has_lt s p e) e less

  pub without_was : (q : ℕ) → has r q ≡ true → has s q ≡ true
  without_was q e = (both (has s q) (not (eqb q p)) (sym (less q) ∙ e)).0

  pub without_stays : (q : ℕ) → has s q ≡ true → (q ≡ p → ⊥) → has r q ≡ true
  without_stays q e n = less q ∙ ap₂ (λ (a b : Bool). a && not b) e (ne_eqb q p n)

-- ---- a word that is not zero has a lowest digit

pub lowest_lt : (x : ℕ) → 0 < x → x < 2 ^ 64 → count_trailing_zeros 64 x < 64
lowest_lt x z f = go (ltb (count_trailing_zeros 64 x) 64) refl
  where
    go : (t : Bool) → ltb (count_trailing_zeros 64 x) 64 ≡ t → count_trailing_zeros 64 x < 64
    go true e = ltb-true _ _ e
    go false e =
        let none : x ≡ 0 = bit_same 64 x 0 f (omega arith) (λ p l. bit_before 64 x p (omega (arith, ltb-false (count_trailing_zeros 64 x) 64 e)) ∙ sym (bit_none 64 p)) in
        absurd (omega arith)

-- ---- there is one least member

pub least_one : (s : Set) (p r : ℕ) → Least s p → Least s r → p < limit → r < limit → p ≡ r
least_one s p r L M l m = go (ltb p r) (ltb r p) refl refl
  where
    go : (t u : Bool) → ltb p r ≡ t → ltb r p ≡ u → p ≡ r
    go true u e f = absurd (false≢true (sym (M.below p (ltb-true p r e)) ∙ L.here l))
    go false true e f = absurd (false≢true (sym (L.below r (ltb-true r p f)) ∙ M.here m))
    go false false e f = omega (arith, ltb-false p r e, ltb-false r p f)

-- a set with a member is no zero
pub has_bits : (s : Set) (p : ℕ) → has s p ≡ true → 0 < s.bits
unfolding has
has_bits s p e = go (ltb 0 s.bits) refl
  where
    go : (t : Bool) → ltb 0 s.bits ≡ t → 0 < s.bits
    go true h = ltb-true 0 s.bits h
    go false h =
        let zero : s.bits ≡ 0 = omega (arith, ltb-false 0 s.bits h) in
        absurd (false≢true (sym (ap (λ (x : ℕ). bit limit x p) zero ∙ bit_none limit p) ∙ e))

-- the lowest digit stands for it
pub least_digit : (x : ℕ) → 0 < x → x < 2 ^ 64 → Least (record { bits = x }) (count_trailing_zeros 64 x)
unfolding has
least_digit x z f = record { within = trailing_le 64 x; below = bit_before 64 x; here = bit_first 64 x }

pub popped : (s t : Set) (p : ℕ) → 0 < s.bits → s.bits < 2 ^ 64 → t.bits ≡ bit_and s.bits (s.bits - 1) → p < limit → Least s p
    → (q : ℕ) → has t q ≡ (has s q && not (eqb q p))
unfolding has
popped s t p z f e l L q =
    let low : p ≡ count_trailing_zeros 64 s.bits = least_one s p _ L (least_digit s.bits z f) l (lowest_lt s.bits z f) in
    ap (λ (x : ℕ). bit limit x q) e ∙ bit_drop 64 s.bits q z f ∙ ap (λ (r : ℕ). bit limit s.bits q && not (eqb q r)) (sym low)

-- ---- a row of one value

pub same_at : {A : Type 0} (x : A) (n p : ℕ) → get_or (replicate n x) p x ≡ x
same_at x zero p = refl
same_at x (suc n) zero = refl
same_at x (suc n) (suc p) = same_at x n p

-- ---- tables

pub none_empty : (q : ℕ) → has none q ≡ false
unfolding has
none_empty q = bit_none limit q

-- each of its sets is empty
pub nones_empty : (n p q : ℕ) → has (row (replicate n none) p) q ≡ false
nones_empty n p q = ap (λ (s : Set). has s q) (same_at none n p) ∙ none_empty q

-- a set is put at p
pub stored_at : (s : Set) (p : ℕ) (l : List Set) → p < length l → Stored s p l (set l p s)
stored_at s p l h = record {
  same_rows = length-set l p s;
  here = get_or-set_same l p s none h;
  other = λ q n. get_or-set_other l p q s none n;
}

-- and into a cell
pub stored_cell : (s : Set) (p : ℕ) (cells : List ℕ) → p < length cells → Stored s p (held cells) (held (set cells p s.bits))
unfolding held
stored_cell s p cells h = rw (map-set of_word cells p s.bits) (stored_at s p (map of_word cells) (simp length-map h))

pub held_long : (cells : List ℕ) → rows (held cells) ≡ length cells
unfolding held
held_long cells = length-map cells of_word

pub held_at : (cells : List ℕ) (i : ℕ) → row (held cells) i ≡ of_word (get_or cells i 0)
unfolding held
held_at cells i = get_or-map of_word cells i 0

-- ---- members settle a set that code holds: a parameter's `c.good` has the premise at its place, as `c.good.0`

fits : {s : Set} {vs : List Val} → Is the_row s vs → s.bits < 2 ^ 64
fits h = omega arith

pub same_set : {s t : Set} {vs us : List Val} → Is the_row s vs → Is the_row t us → ((q : ℕ) → has s q ≡ has t q) → s ≡ t
unfolding has
same_set {s} {t} h l e = ap made (bit_same limit s.bits t.bits (fits h) (fits l) (λ p _. e p))
  where
    made : ℕ → Set
    made n = record { bits = n }
