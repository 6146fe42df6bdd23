-- The walk into a node: the node number falls; `enter`, and `on` and `turn` come in this order at one node.
use Rattle.std.proofs.Common.{◌+◌, ◌*◌}
use Rattle.walks.proofs.guide.Guide.+way_in.Given as goal

abbrev pub decreases-enter : goal.decreases-enter
decreases-enter l = 2 * l.i

abbrev pub decreases-on : goal.decreases-on
decreases-on l = 2 * l.i + 1

abbrev pub decreases-turn : goal.decreases-turn
decreases-turn l = 2 * l.i + 1
