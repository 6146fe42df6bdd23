-- `passes::join::join`, the loop's invariant: what the table has, and what the members that are left bring, is the result. The measure is how
-- many are left. Assumes nothing.
use Rattle.sets.specs.Members.{size}
use Rattle.passes.proofs.Preceding.{Joining}
use Rattle.passes.proofs.join.join.Given as goal

abbrev pub invariant-loop-p : goal.invariant-loop-p
invariant-loop-p l = Joining l.q l.initial.left l.initial.table l.table l.left

abbrev pub decreases-loop-p : goal.decreases-loop-p
decreases-loop-p l = size l.left
