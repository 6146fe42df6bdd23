-- What the counted turns of a mark read: a byte each at least, and in a tree no more than its text. The figures of a tree are those of the texts
-- that its turns read.
use Rattle.std.specs.Prelude.{◌≡◌, List, [], ◌∷◌, map, ℕ, zero, suc, ◌+◌, ◌≤◌, ltb, length}
use native.Mathlib.Omega.{arith}
use Rattle.std.proofs.Common.{lt-ltb}
use Rattle.meaning.specs.Expression.{Re, marks}
use Rattle.meaning.specs.Grammar.{Bytes}
use Rattle.meaning.specs.Night.{sum, greatest}
use Rattle.meaning.specs.Tree.{Tree}
use Rattle.meaning.specs.Turns.{turn_count, turn_bytes, bytes_read, longest_turn}
use Rattle.bits.specs.Tally.{one}
use Rattle.positions.specs.Erased.{erases}
use Rattle.positions.specs.InFront.{turn_counted}
use Rattle.positions.specs.Figures.{paired_few, paired_bytes, paired_longest}
use Rattle.positions.specs.Turns.{texts, tree_paired}

at_most : (n : ℕ) → one (ltb 0 n) ≤ n
at_most zero = omega arith
at_most (suc n) = rw (lt-ltb 0 (suc n) (omega arith)) (omega arith)

-- each counted turn read a byte, and the longest is one of them
pub turns_few : (h : ℕ) (row : List ℕ) → turn_count h row ≤ bytes_read h row
turns_few h [] = unfold turn_count bytes_read in omega arith
turns_few h (t ∷ row) = go (turns_few h row)
  where
    go : turn_count h row ≤ bytes_read h row → turn_count h (t ∷ row) ≤ bytes_read h (t ∷ row)
    go l = rw (turn_counted h t row) (unfold bytes_read in omega (arith, at_most (turn_bytes h t row)))

pub longest_few : (h : ℕ) (row : List ℕ) → longest_turn h row ≤ bytes_read h row
unfolding bytes_read longest_turn
longest_few h [] = omega arith
longest_few h (t ∷ row) = omega (arith, longest_few h row)

-- IN A TREE the counted turns of a mark read no more than the text, and the figures are those of what its turns read
module _ {h m : ℕ} {e : Re} {s r : List ℕ} (i : h ≤ 127) (j : m + marks e ≤ 127) where
  pub tree_few : Tree m e s r → bytes_read h r ≤ length s
  tree_few t = rw (erases j t) at (paired_few (tree_paired i j t))

  pub tree_bytes : Bytes s → (t : Tree m e s r) → bytes_read h r ≡ sum (map length (texts h t))
  tree_bytes b t = paired_bytes i (tree_paired i j t) (rw (erases j t) b)

  pub tree_longest : Bytes s → (t : Tree m e s r) → longest_turn h r ≡ greatest (map length (texts h t))
  tree_longest b t = paired_longest i (tree_paired i j t) (rw (erases j t) b)
