-- `resume`: the node number falls.
use Rattle.walks.proofs.guide.Guide.+resume.Given as goal

abbrev pub decreases-resume : goal.decreases-resume
decreases-resume l = l.i
