-- `passes::steps::after`, the loop's invariant: what is found, and what the members that are left bring, is the result. The measure is how
-- many are left. Assumes nothing.
use Rattle.std.proofs.Common.{◌≡◌, ◌||◌, ℕ}
use Rattle.sets.specs.Members.{has, size}
use Rattle.passes.specs.Ways.{joined}
use Rattle.passes.proofs.steps.after.Given as goal

abbrev pub invariant-loop-q : goal.invariant-loop-q
invariant-loop-q l = (k : ℕ) → (has l.found k || joined l.table (has l.left) k) ≡ joined l.table (has l.initial.left) k

abbrev pub decreases-loop-q : goal.decreases-loop-q
decreases-loop-q l = size l.left
