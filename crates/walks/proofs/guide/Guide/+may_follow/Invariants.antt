-- `may_follow`: the node number falls.
use Rattle.walks.proofs.guide.Guide.+may_follow.Given as goal

abbrev pub decreases-may_follow : goal.decreases-may_follow
decreases-may_follow l = l.i
