-- The walk that numbers the marks. The measure is the node's number. Assumes nothing.
use Rattle.pattern.proofs.nodes.+number.Given as goal

abbrev pub decreases-number : goal.decreases-number
decreases-number l = l.i
