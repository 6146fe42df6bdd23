-- `tally::run` meets its contract. Assumes nothing.
use native.Mathlib.Omega.{arith}
use Rattle.tally.proofs.Shorts.{ran_none, ran_more}
use Rattle.tally.proofs.run.Goals as goal

pub loop-at-init : goal.loop-at-init
loop-at-init c = ran_none _ _ _

pub ends-requires-clause-in_row : goal.ends-requires-clause-in_row
ends-requires-clause-in_row c = omega (arith, c.loop-at.invariant.no_further)

pub overflow_sub-at : goal.overflow_sub-at
overflow_sub-at c = (c.ends.ensures c.loop-at-test.true).three

pub loop-at-smaller : goal.loop-at-smaller
loop-at-smaller c = omega (arith, (c.ends.ensures c.loop-at-test.true).three)

pub loop-at-preserved : goal.loop-at-preserved
loop-at-preserved c = ran_more c.loop-at.invariant (c.ends.ensures c.loop-at-test.true)
