-- `may_be_empty`: the node number falls.
use Rattle.walks.proofs.null.+may_be_empty.Given as goal

abbrev pub decreases-may_be_empty : goal.decreases-may_be_empty
decreases-may_be_empty l = l.i
