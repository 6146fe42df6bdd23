-- `opens_first`: the node number falls.
use Rattle.walks.proofs.first.+opens_first.Given as goal

abbrev pub decreases-opens_first : goal.decreases-opens_first
decreases-opens_first l = l.i
