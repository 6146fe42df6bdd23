-- `holder`: the way so far goes to right parts that have the position, and the node number falls.
use Rattle.kinds.specs.Nodes.{kinds_of, args_of}
use Rattle.walks.specs.Resume.{Spine}
use Rattle.walks.proofs.guide.Guide.holder.Given as goal

abbrev pub invariant-loop-n : goal.invariant-loop-n
invariant-loop-n l = Spine (kinds_of l.self.pattern.now.node) (args_of l.self.pattern.now.node) l.self.opens.now.upto l.i l.j l.n

abbrev pub decreases-loop-n : goal.decreases-loop-n
decreases-loop-n l = l.n
