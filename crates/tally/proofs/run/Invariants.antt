-- `tally::run`, the loop's invariant: only turns of one byte stand between the place and where it began. Assumes nothing.
use Rattle.tally.specs.Along.{Ran}
use Rattle.tally.proofs.run.Given as goal

abbrev pub invariant-loop-at : goal.invariant-loop-at
invariant-loop-at l = Ran l.row l.mark l.from l.at

abbrev pub decreases-loop-at : goal.decreases-loop-at
decreases-loop-at l = l.at
