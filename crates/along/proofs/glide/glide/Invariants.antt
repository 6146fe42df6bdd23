-- `along::glide::glide` meets its contract. The loop's invariant: the walk has come to where s stands. Assumes nothing.
use Prim.Native.Nat.{ℕ, ◌-◌, ◌≤◌, ◌<◌}
use lib.ListN as lists
use Rattle.meaning.specs.Expression.{Re}
use Rattle.along.specs.Along.{Goes}
use Rattle.along.specs.Glide.{Guided}
use Rattle.along.specs.Stand.{stood}
use Rattle.along.specs.Links.{KeptIn}
use Rattle.along.proofs.glide.glide.Given as goal

abbrev pub invariant-loop-s : goal.invariant-loop-s
invariant-loop-s l =
    (l.s.read < lists.length l.text) × (l.initial.s.read ≤ l.s.read) × ((e : Re) (used : ℕ) → Guided e l.text l.cells l.follow → KeptIn e l.kept.keys l.kept.links l.kept.pool used → Goes e l.text l.initial.tree l.tree (stood l.initial.s) (stood l.s) l.initial.s.read l.s.read)

abbrev pub decreases-loop-s : goal.decreases-loop-s
decreases-loop-s l = lists.length l.text - l.s.read
