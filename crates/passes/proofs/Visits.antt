-- A loop that takes the members out of a set one by one. Assumes nothing.
use mathlib.Core.Path.{◌≡◌, refl, sym, ap, ◌∙◌}
use mathlib.Core.Bool.{Bool, true, false, ◌&&◌, ◌||◌, not, and-true, or-false, or-true, true≢false}
use mathlib.Core.List.{List}
use mathlib.Core.Logic.{⊎_elim}
use Prim.Native.Nat.{ℕ, ◌≤◌}
use lib.Dec.{eqb}
use borrow.Author.Tests.{eqb-true, eqb-false}
use Rattle.bits.specs.Tally.{any}
use Rattle.bits.specs.Truth.{alike, both, and_both, either}
use Rattle.bits.proofs.Tallies.{any_at, any_some}
use Rattle.sets.specs.declared.set.Set.{Set}
use Rattle.sets.specs.Members.{has, limit, row, Least, Stored}
use Rattle.sets.proofs.SetLaws.{has_lt, least_none, without_was, without_stays}
use Rattle.passes.specs.Ways.{joined}

-- t: this is the member that is taken out of l; f has what was found, and gains it if m
pub moved : (t f l m : Bool) → (t ≡ true → l ≡ true) → ((f || (t && m)) || ((l && not t) && m)) ≡ (f || (l && m))
moved t true l m h = refl
moved true false l m h = rw (h refl) (or-false m)
moved false false l m h = rw (and-true l)

-- what holds of q is asked of k only where k is q
pub at_member : (P : ℕ → Bool) (q k : ℕ) → (eqb k q && P k) ≡ (eqb k q && P q)
at_member P q k = go (eqb k q) refl
  where
    go : (t : Bool) → eqb k q ≡ t → (t && P k) ≡ (t && P q)
    go true e = ap P (eqb-true k q e)
    go false e = refl

-- position k joined row r of a table
pub row_joined : (r k : ℕ) (s u : Set) (l m : List Set) → s ≡ row l r → ((q : ℕ) → has u q ≡ (has s q || eqb q k)) → Stored u r l m
    → (p q : ℕ) → has (row m p) q ≡ (has (row l p) q || (eqb p r && eqb q k))
row_joined r k s u l m i e S p q = go (eqb p r) refl
  where
    go : (t : Bool) → eqb p r ≡ t → has (row m p) q ≡ (has (row l p) q || (t && eqb q k))
    go true j =
        let h : p ≡ r = eqb-true p r j in
        ap (λ (n : ℕ). has (row m n) q) h ∙ ap (λ (v : Set). has v q) S.here ∙ e q ∙ ap (λ (v : Set). has v q || eqb q k) (i ∙ ap (row l) (sym h))
    go false j = ap (λ (v : Set). has v q) (S.other p (eqb-false p r j)) ∙ sym (or-false (has (row l p) q))

-- `rest` is `left` without its member q
module _ (left rest : Set) (q : ℕ) (here : has left q ≡ true) (less : (k : ℕ) → has rest k ≡ (has left k && not (eqb k q))) where
  member : (k : ℕ) → eqb k q ≡ true → has left k ≡ true
  member k e = ap (has left) (eqb-true k q e) ∙ here

  -- q is found if P
  pub found_more : (P f g : ℕ → Bool) → ((k : ℕ) → g k ≡ (f k || (eqb k q && P q)))
      → (k : ℕ) → (g k || (has rest k && P k)) ≡ (f k || (has left k && P k))
  found_more P f g e k = rw (e k, ← at_member P q k, less k) (moved (eqb k q) (f k) (has left k) (P k) (member k))

  -- what q brings
  pub joined_more : (follow : List Set) (k : ℕ) → joined follow (has left) k ≡ (has (row follow q) k || joined follow (has rest) k)
  unfolding joined
  joined_more follow k = alike _ _ there back
    where
      via : Set → ℕ → Bool
      via s p = has s p && has (row follow p) k

      there : any (via left) limit ≡ true → (has (row follow q) k || any (via rest) limit) ≡ true
      there e = let w = any_some (via left) limit e in let b = both (has left w.0) (has (row follow w.0) k) w.2 in go (eqb w.0 q) refl w.0 refl b
        where
          go : (t : Bool) → eqb (any_some (via left) limit e).0 q ≡ t → (p : ℕ) → (any_some (via left) limit e).0 ≡ p
              → (has left p ≡ true) × (has (row follow p) k ≡ true) → (has (row follow q) k || any (via rest) limit) ≡ true
          go true i p j (l, r) = ap (λ (x : Bool). x || any (via rest) limit) (ap (λ (x : ℕ). has (row follow x) k) (sym (eqb-true _ q i) ∙ j) ∙ r)
          go false i p j (l, r) =
              ap (λ (x : Bool). has (row follow q) k || x)
              (any_at (via rest) limit p (has_lt left p l) (and_both (without_stays left rest q less p l (λ z. eqb-false _ q i (j ∙ z))) r))
              ∙ or-true (has (row follow q) k)

      back : (has (row follow q) k || any (via rest) limit) ≡ true → any (via left) limit ≡ true
      back e =
          ⊎_elim (λ r. any_at (via left) limit q (has_lt left q here) (and_both here r))
          (λ a. let w = any_some (via rest) limit a in let b = both (has rest w.0) (has (row follow w.0) k) w.2 in
          any_at (via left) limit w.0 w.1 (and_both (without_was left rest q less w.0 b.0) b.1))
          (either (has (row follow q) k) (any (via rest) limit) e)

-- when none is left, all is found
pub found_all : (left : Set) (q : ℕ) → Least left q → limit ≤ q → (P f : ℕ → Bool) (k : ℕ) → f k ≡ (f k || (has left k && P k))
found_all left q l h P f k = rw (least_none left q l h k) (sym (or-false (f k)))

-- where a test holds of none, it holds of none below n
pub none_any : (f : ℕ → Bool) (n : ℕ) → ((q : ℕ) → f q ≡ false) → any f n ≡ false
none_any f n e = go (any f n) refl
  where
    go : (t : Bool) → any f n ≡ t → t ≡ false
    go true i = let w = any_some f n i in absurd (true≢false (sym w.2 ∙ e w.0))
    go false i = refl

-- no member, nothing joined
pub joined_none : (s : Set) → ((q : ℕ) → has s q ≡ false) → (follow : List Set) (k : ℕ) → joined follow (has s) k ≡ false
unfolding joined
joined_none s e follow k = none_any (λ p. has s p && has (row follow p) k) limit (λ p. ap (λ (t : Bool). t && has (row follow p) k) (e p))
