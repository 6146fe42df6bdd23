-- `along::walk::walk` meets its contract. The loop's invariant: whatever the root holds, the walk has come along i bytes, and what is kept is
-- right. Assumes nothing.
use Prim.Native.Nat.{◌-◌, ◌≤◌}
use lib.ListN as lists
use Rattle.meaning.specs.Expression.{Re}
use Rattle.along.specs.Along.{Along, Came}
use Rattle.along.specs.Links.{Stock}
use Rattle.along.specs.Walk.{Walkable}
use Rattle.along.proofs.walk.walk.Given as goal

abbrev pub invariant-loop-i : goal.invariant-loop-i
invariant-loop-i l =
    (l.i ≤ lists.length l.text) × ((e : Re) → Walkable e l.chart.pattern.now l.chart.root l.text l.cells → Along e l.text l.initial.tree l.initial.s 0 → Came e l.text l.initial.tree l.tree l.initial.s l.s 0 l.i) × Stock l.chart.pattern.now l.chart.root l.kept

abbrev pub decreases-loop-i : goal.decreases-loop-i
decreases-loop-i l = lists.length l.text - l.i
