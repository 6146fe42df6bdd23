-- `sheet::checks::add_up`, the loop's invariant: what is left stands to the lengths from the index on as n to all of them. Assumes nothing.
use mathlib.Core.Path.{◌≡◌}
use Prim.Native.Nat.{◌+◌}
use lib.ListN.{drop}
use Rattle.meaning.specs.Night.{sum}
use Rattle.sheet.proofs.checks.add_up.Given as goal

abbrev pub invariant-loop-length : goal.invariant-loop-length
invariant-loop-length l = sum l.lengths + l.left ≡ l.n + sum (drop l.length-index l.lengths)
