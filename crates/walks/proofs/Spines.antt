-- The way from a node on to right parts: what is asked at its start holds at its end, and the walk from its end is that from its start.
use mathlib.Core.Path.{◌≡◌, refl}
use mathlib.Core.Bool.{Bool, true, false}
use mathlib.Core.List.{List}
use Prim.Native.Nat.{ℕ, ◌≤◌, ◌<◌}
use native.Mathlib.Omega.{arith}
use native.Mathlib.Decide.{dec_le}
use lib.Dec.{leb}
use borrow.Author.Tests.{leb-true, leb-false}
use lib.ListN.{get_or}
use Rattle.sets.specs.declared.set.Set.{Set}
use Rattle.walks.specs.declared.step.Step.{Step}
use Rattle.walks.specs.Tables.{Known, number, EndAt}
use Rattle.walks.specs.Resume.{Placed, ResumesAt, Rightward, WhetherRight, Spine, Holder, from_here, further}
use Rattle.walks.proofs.Parts.{Pair}
use Rattle.walks.proofs.Resuming.{end_read, placed_below, placed_right, resumes_right}

-- a position that is not in the right part of node i is in the left one
pub stays_left : {ks gs us : List ℕ} {i k arg j : ℕ} → Pair ks gs i k arg → (Rightward ks gs us i j → ⊥) → j < get_or us arg 0
stays_left {us = us} {arg = arg} {j} N h =
    elim (dec_le (get_or us arg 0) j) [
      | yes g ↦ absurd (h (record { two = omega (arith, N.kind, N.from_two); pair = omega (arith, N.kind, N.to_three); past = rw N.beside g }))
      | no g ↦ omega arith
    ]

-- the test whether it is in the right part
pub right_test : {ks gs : List ℕ} {i k arg : ℕ} (us : List ℕ) (j : ℕ) → Pair ks gs i k arg → WhetherRight ks gs us i j (leb (get_or us arg 0) j)
right_test {ks} {gs} {i} {arg = arg} us j N = go (leb (get_or us arg 0) j) refl
  where
    go : (b : Bool) → leb (get_or us arg 0) j ≡ b → WhetherRight ks gs us i j b
    go true z = record { two = omega (arith, N.kind, N.from_two); pair = omega (arith, N.kind, N.to_three); past = rw N.beside (leb-true (get_or us arg 0) j z) }
    go false z = λ x. let h = rw N.beside at x.past in absurd (omega (arith, h, leb-false (get_or us arg 0) j z))

-- a node that goes to its right part has two parts
pub right_pair : {ks gs us : List ℕ} {n j : ℕ} → Rightward ks gs us n j → Pair ks gs n (get_or ks n 0) (get_or gs n 0)
right_pair x = record { kind = refl; beside = refl; from_two = x.two; to_three = x.pair }

module _ {ks gs us : List ℕ} {i j : ℕ} where
  pub spine_below : {n : ℕ} → Spine ks gs us i j n → n ≤ i
  spine_below from_here = omega arith
  spine_below (further S x) = omega (arith, spine_below S)

  module _ (U : Known number (EndAt ks gs) us i) {from : ℕ} (r : Placed ks gs i j from) where
    -- where the left part of a node on the way ends
    turn_ends : {n : ℕ} → Spine ks gs us i j n → Placed ks gs n j from → Rightward ks gs us n j → EndAt ks gs (get_or gs n 0) (get_or us (get_or gs n 0) 0)
    turn_ends {n} S q x =
        let below = (placed_below q (right_pair x)).0 in
        end_read us (λ l h. U l (omega (arith, h, spine_below S))) below

    pub spine_placed : {n : ℕ} → Spine ks gs us i j n → Placed ks gs n j from
    spine_placed from_here = r
    spine_placed (further S x) = let q = spine_placed S in placed_right q (right_pair x) (turn_ends S q x) x.past

    pub spine_resumes : {n : ℕ} {goal : Set} {pass : Bool} {t t' : List ℕ} {s : Step} → Spine ks gs us i j n
        → ResumesAt ks gs n j goal pass t t' from s → ResumesAt ks gs i j goal pass t t' from s
    spine_resumes from_here E = E
    spine_resumes {goal = goal} {pass} (further S x) E =
        spine_resumes S (resumes_right goal pass (right_pair x) (turn_ends S (spine_placed S) x) x.past E)

-- what is known at the node to which the way leads
module _ {ks gs us : List ℕ} {i j from n : ℕ} (U : Known number (EndAt ks gs) us i) (r : Placed ks gs i j from) (H : Holder ks gs us i j n) where
  pub held_at : Placed ks gs n j from
  held_at = spine_placed U r H.spine

  module _ {k arg : ℕ} (N : Pair ks gs n k arg) where
    -- its left part stands below node i
    pub left_below : arg < i
    left_below = omega (arith, (placed_below held_at N).0, spine_below H.spine)

    -- and has the position
    pub left_ends : EndAt ks gs arg (get_or us arg 0)
    left_ends = end_read us U left_below

    pub left_has : j < get_or us arg 0
    left_has = stays_left N H.last
