-- `scan` meets its contract. The loop's invariant: the machine has read the row up to `c`. Assumes nothing.
use Rattle.std.proofs.Common.{◌-◌, ◌≤◌, length}
use Rattle.pattern.specs.Flat.{Reaches}
use Rattle.pattern.proofs.scan.scan.Given as goal

abbrev pub invariant-loop-c : goal.invariant-loop-c
invariant-loop-c l = Reaches l.p l.c × (l.c.at ≤ length l.p)

abbrev pub decreases-loop-c : goal.decreases-loop-c
decreases-loop-c l = length l.p - l.c.at
