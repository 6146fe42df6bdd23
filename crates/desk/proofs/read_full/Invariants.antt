-- The loop of `desk::read_full` stays inside the buffer, and what is left of it falls.
use Rattle.std.proofs.Common.{◌-◌, ◌≤◌, length}
use Rattle.desk.proofs.read_full.Given as goal

abbrev pub invariant-loop-done : goal.invariant-loop-done
invariant-loop-done g l = l.done ≤ length l.buf

abbrev pub decreases-loop-done : goal.decreases-loop-done
decreases-loop-done g l = length l.initial.buf - l.done
