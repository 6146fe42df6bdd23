-- The measure of the cycle of calls {atom, branch, item, list}: four for each byte that is left and each group that may still be opened, and
-- the member's rank. Assumes nothing.
use Rattle.std.proofs.Common.{◌+◌, ◌-◌, ◌*◌, length}
use Rattle.pattern.specs.Stores.{stores}
use Rattle.pattern.proofs.Steps.{AtBar}
use Rattle.pattern.proofs.parts.+parts.Given as goal

abbrev pub decreases-atom : goal.decreases-atom
decreases-atom l = 4 * (length l.p.now - l.c.at + l.left)

abbrev pub decreases-item : goal.decreases-item
decreases-item l = 4 * (length l.p.now - l.c.at + l.left) + 1

abbrev pub decreases-branch : goal.decreases-branch
decreases-branch l = 4 * (length l.p.now - l.c.at + l.left) + 2

abbrev pub decreases-list : goal.decreases-list
decreases-list l = 4 * (length l.p.now - l.c.at + l.left) + 3

abbrev pub invariant-list-loop-e : goal.invariant-list-loop-e
invariant-list-loop-e l = AtBar l.p l.left l.fn.c l.d (stores l.fn.read) (stores l.read)

abbrev pub decreases-list-loop-e : goal.decreases-list-loop-e
decreases-list-loop-e l = length l.p - l.d.at
