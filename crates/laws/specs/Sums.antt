-- The sum and the greatest of a row of numbers from a place on.
use Rattle.std.specs.Prelude.{◌≡◌, List, [], length, get_or, drop}
use Rattle.std.proofs.Math.Path.{ap}
use Rattle.std.proofs.Common.{◌∙◌, drop-cons}
use Prim.Native.Nat.{ℕ, suc, ◌+◌, ◌<◌, max}
use native.Mathlib.Omega.{arith}
use Rattle.std.proofs.Math.Seq.{drop-length}
use Rattle.meaning.specs.Night.{sum, greatest}

module _ (row : List ℕ) (i : ℕ) (h : i < length row) where
  pub sum_from : sum (drop i row) ≡ get_or row i 0 + sum (drop (i + 1) row)
  unfolding sum
  sum_from = let e : suc i ≡ i + 1 = omega arith in rw (← e) (ap sum (drop-cons row i 0 h))

  pub greatest_from : greatest (drop i row) ≡ max (get_or row i 0) (greatest (drop (i + 1) row))
  unfolding greatest
  greatest_from = let e : suc i ≡ i + 1 = omega arith in rw (← e) (ap greatest (drop-cons row i 0 h))

module _ (row : List ℕ) (i : ℕ) (e : i ≡ length row) where
  at_end : drop i row ≡ []
  at_end = ap (λ (k : ℕ). drop k row) e ∙ drop-length row

  pub sum_end : sum (drop i row) ≡ 0
  unfolding sum
  sum_end = ap sum at_end

  pub greatest_end : greatest (drop i row) ≡ 0
  unfolding greatest
  greatest_end = ap greatest at_end
