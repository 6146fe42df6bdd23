-- A loop over the words of a class, and one over the classes of the positions. Assumes nothing.
use mathlib.Core.Path.{◌≡◌, refl, sym, ap, ◌∙◌}
use mathlib.Core.Bool.{Bool, true, false, ◌&&◌, ◌||◌, or_assoc, or-false}
use mathlib.Core.List.{List, []}
use Prim.Native.Nat.{ℕ, ◌+◌, ◌/◌, ◌%◌}
use native.Mathlib.Omega.{arith}
use lib.Dec.{eqb, ltb}
use lib.ListN.{get_or}
use borrow.Author.Tests.{eqb-true, eqb-false, ltb-true, lt-ltb, ltb-false, le-ltb}
use Rattle.bits.specs.Bit.{bit}
use Rattle.sets.specs.declared.class.Class.{Class}
use Rattle.sets.specs.Classes.{among}
use Rattle.sets.specs.declared.set.Set.{Set}
use Rattle.sets.specs.Members.{has, row, rows}
use Rattle.passes.specs.Masks.{in_word, classed, Noted, Marked, Masked}

-- what holds of some index before i, and of i
upto_more : (F : ℕ → Bool) (j i : ℕ) → ((ltb j i && F j) || (eqb j i && F i)) ≡ (ltb j (i + 1) && F j)
upto_more F j i = go (ltb j i) (eqb j i) refl refl
  where
    go : (s t : Bool) → ltb j i ≡ s → eqb j i ≡ t → ((s && F j) || (t && F i)) ≡ (ltb j (i + 1) && F j)
    go true true d e = absurd (omega (arith, ltb-true j i d, eqb-true j i e))
    go true false d e = let f : ltb j (i + 1) ≡ true = lt-ltb _ _ (omega (arith, ltb-true j i d)) in rw f (or-false _)
    go false true d e =
        let z : j ≡ i = eqb-true j i e in
        let f : ltb j (i + 1) ≡ true = lt-ltb _ _ (omega (arith, z)) in
        rw f (ap F (sym z))
    go false false d e = let f : ltb j (i + 1) ≡ false = le-ltb _ _ (omega (arith, ltb-false j i d, eqb-false j i e)) in rw f refl

and_over : (s t e : Bool) → ((s && e) || (t && e)) ≡ ((s || t) && e)
and_over true true true = refl
and_over true true false = refl
and_over true false true = refl
and_over true false false = refl
and_over false t e = refl

and_swap : (s t : Bool) → (s && t) ≡ (t && s)
and_swap true true = refl
and_swap true false = refl
and_swap false true = refl
and_swap false false = refl

-- nothing is below 0
none_below : (j : ℕ) → ltb j 0 ≡ false
none_below j = le-ltb _ _ (omega arith)

-- ---- the words of a class

-- a table was l before position k joined the rows of the bytes in the words before word w
pub record Brought (class : Class) (k w : ℕ) (l m : List Set) : Type 0 where
  pub same_rows : rows m ≡ rows l
  pub joins : (b q : ℕ) → has (row m b) q ≡ (has (row l b) q || ((ltb (b / 64) w && among class b) && eqb q k))

module _ (class : Class) (k : ℕ) where
  pub brought_none : (l : List Set) → Brought class k 0 l l
  brought_none l = record { same_rows = refl; joins = λ b q. rw (none_below (b / 64)) (sym (or-false _)) }

  -- byte b is in one of the words up to word w
  word_more : (w b : ℕ) (e : Bool) → (((ltb (b / 64) w && among class b) && e) || (in_word (get_or class.words w 0) w b && e)) ≡ ((ltb (b / 64) (w + 1) && among class b) && e)
  unfolding in_word among
  word_more w b e =
      and_over (ltb (b / 64) w && among class b) (in_word (get_or class.words w 0) w b) e
      ∙ ap (λ (t : Bool). t && e) (upto_more (λ i. bit 64 (get_or class.words i 0) (b % 64)) (b / 64) w)

  pub brought_more : {l m m' : List Set} (w : ℕ) → Brought class k w l m → Noted (get_or class.words w 0) w k m m' → Brought class k (w + 1) l m'
  brought_more {l} w B N = record {
    same_rows = N.same_rows ∙ B.same_rows;
    joins = λ b q. N.joins b q ∙ ap (λ (t : Bool). t || (in_word (get_or class.words w 0) w b && eqb q k)) (B.joins b q)
        ∙ or_assoc (has (row l b) q) _ _ ∙ ap (λ (t : Bool). has (row l b) q || t) (word_more w b (eqb q k));
  }

  pub brought_all : {l m : List Set} → Brought class k 4 l m → Marked class k l m
  brought_all {l} B = record {
    same_rows = B.same_rows;
    joins = λ b q h. let t : ltb (b / 64) 4 ≡ true = lt-ltb _ _ (omega arith) in rw t at (B.joins b q);
    past = λ b q h. let t : ltb (b / 64) 4 ≡ false = le-ltb _ _ (omega arith) in (rw t at (B.joins b q)) ∙ or-false _;
  }

-- ---- the classes of the positions

module _ (class : List Class) where
  pub masked_none : (l : List Set) → Masked class 0 l l
  unfolding classed
  masked_none l = record { same_rows = refl; joins = λ b q h. rw (none_below q) (sym (or-false _)); past = λ b q h. refl }

  class_more : (n q b : ℕ) → (classed class n q b || (among (get_or class n (record { words = [] })) b && eqb q n)) ≡ classed class (n + 1) q b
  unfolding classed
  class_more n q b =
      ap (λ (t : Bool). classed class n q b || t) (and_swap _ (eqb q n))
      ∙ upto_more (λ i. among (get_or class i (record { words = [] })) b) q n

  pub masked_more : {l m m' : List Set} (n : ℕ) → Masked class n l m → Marked (get_or class n (record { words = [] })) n m m' → Masked class (n + 1) l m'
  masked_more {l} n M N = record {
    same_rows = N.same_rows ∙ M.same_rows;
    joins = λ b q h. N.joins b q h ∙ ap (λ (t : Bool). t || (among (get_or class n (record { words = [] })) b && eqb q n)) (M.joins b q h)
        ∙ or_assoc (has (row l b) q) _ _ ∙ ap (λ (t : Bool). has (row l b) q || t) (class_more n q b);
    past = λ b q h. N.past b q h ∙ M.past b q h;
  }
