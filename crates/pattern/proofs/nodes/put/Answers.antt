-- `put` meets its contract. Assumes nothing.
use Rattle.std.proofs.Common.{refl}
use Rattle.kinds.proofs.NodeLaws.{kinds_set, args_set}
use Rattle.pattern.proofs.nodes.put.Goals as goal

pub returns : goal.returns
returns c =
    record {
      kind = kinds_set c.args.read.now.node c.args.i c.args.node;
      arg = args_set c.args.read.now.node c.args.i c.args.node;
      class = refl;
    }
