-- Which positions may come before: the table of those that may come after, the other way round. Assumes nothing.
use mathlib.Core.Path.{◌≡◌, refl, sym, ap, ap₂, ◌∙◌}
use mathlib.Core.Bool.{Bool, true, false, ◌&&◌, ◌||◌, and_comm, or-false}
use mathlib.Core.List.{List}
use Prim.Native.Nat.{ℕ, ◌<◌}
use native.Mathlib.Omega.{arith}
use lib.Dec.{eqb}
use borrow.Author.Tests.{lt-ltb}
use Rattle.bits.proofs.Tallies.{any_ext}
use Rattle.sets.specs.declared.set.Set.{Set}
use Rattle.sets.specs.Members.{has, limit, row, rows, Least}
use Rattle.sets.proofs.SetLaws.{has_lt}
use Rattle.passes.specs.Ways.{Listed, Reversed, leading, joined, onward}
use Rattle.passes.proofs.Visits.{found_all}

-- ---- a loop that has position k join the row of each member of s

module _ (k : ℕ) (s : Set) (l : List Set) where
  -- with the rows of the members that are left, it has joined all
  pub record Joining (m : List Set) (left : Set) : Type 0 where
    pub same_rows : rows m ≡ rows l
    pub joins : (r q : ℕ) → (has (row m r) q || (has left r && eqb q k)) ≡ (has (row l r) q || (has s r && eqb q k))

  pub joining_all : {m : List Set} {left : Set} → Joining m left → Least left limit → Listed s k l m
  joining_all {m} {left} J h = record {
    same_rows = J.same_rows;
    joins = λ r q. found_all left limit h (omega arith) (λ _. eqb q k) (λ r. has (row m r) q) r ∙ J.joins r q;
  }

-- ---- a step back by the table

-- those that may come before a position of s are those that a position of s may come after
pub leading_onward : (mask follow l pre : List Set) (ends s : Set) → ((p q : ℕ) → has (row l p) q ≡ false) → Reversed follow limit l pre
    → (b q : ℕ) → leading mask pre b (has s) q ≡ (has (row mask b) q && onward follow ends q (has s) false)
unfolding joined onward
leading_onward mask follow l pre ends s none R b q = go (has (row mask b) q) refl
  where
    turned : q < limit → (p : ℕ) → (has s p && has (row pre p) q) ≡ (has (row follow q) p && has s p)
    turned h p =
        ap (λ (t : Bool). has s p && t)
        (R.joins p q ∙ ap₂ (λ (a b : Bool). a || (b && has (row follow q) p)) (none p q) (lt-ltb q limit h)) ∙ and_comm (has s p) (has (row follow q) p)

    go : (t : Bool) → has (row mask b) q ≡ t → (t && joined pre (has s) q) ≡ (t && onward follow ends q (has s) false)
    go true e =
        any_ext (λ p. has s p && has (row pre p) q) (λ p. has (row follow q) p && has s p) limit (λ p _. turned (has_lt (row mask b) q e) p)
        ∙ sym (or-false _)
    go false e = refl
