-- `holder`: the node of a turn has the position, in its right part where there is a turn, so the node number falls.
use Rattle.std.proofs.Common.{arith}
use Rattle.walks.specs.Resume.{from_here, further}
use Rattle.walks.proofs.Parts.{above_two}
use Rattle.walks.proofs.Spines.{right_pair, spine_placed, spine_below}
use Rattle.walks.proofs.guide.Guide.holder.Goals as goal

pub loop-n-init : goal.loop-n-init
loop-n-init c = from_here

pub is_right-requires : goal.is_right-requires
is_right-requires c = spine_placed c.requires.known c.requires.placed c.loop-n.invariant

pub overflow_sub-n : goal.overflow_sub-n
overflow_sub-n c =
    let right = rw c.loop-n-test.true at c.is_right.ensures in
    above_two (right_pair right) (spine_placed c.requires.known c.requires.placed c.loop-n.invariant).holds

pub loop-n-smaller : goal.loop-n-smaller
loop-n-smaller c =
    let right = rw c.loop-n-test.true at c.is_right.ensures in
    omega (arith, above_two (right_pair right) (spine_placed c.requires.known c.requires.placed c.loop-n.invariant).holds)

pub loop-n-preserved : goal.loop-n-preserved
loop-n-preserved c = further c.loop-n.invariant (rw c.loop-n-test.true at c.is_right.ensures)

pub returns-clause-below : goal.returns-clause-below
returns-clause-below c = spine_below c.loop-n.invariant
