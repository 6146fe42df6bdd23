-- `tally::tally`, the loop's invariant: the tokens from the place on are counted. Assumes nothing.
use mathlib.Core.Path.{◌≡◌}
use Prim.Native.Nat.{◌≤◌}
use lib.ListN.{length, drop}
use Rattle.tally.specs.Along.{Behind}
use Rattle.tally.proofs.tally.Given as goal

abbrev pub invariant-loop-place : goal.invariant-loop-place
invariant-loop-place l =
    (l.place.at ≤ length l.row) × (length l.closed ≡ 64) × (length l.figures ≡ 64) × Behind (drop l.place.at l.row) l.place.seen l.closed l.initial.figures l.figures

abbrev pub decreases-loop-place : goal.decreases-loop-place
decreases-loop-place l = l.place.at
