-- `along::lay::eight` meets its contract. Assumes nothing.
use Rattle.std.proofs.Common.{◌-◌, ◌∙◌, take, drop, arith}
use Rattle.std.proofs.lemmas.Grind.{common_steps}
use Rattle.std.proofs.lemmas.List.{get_or-take, get_or-drop}
use Rattle.along.proofs.Copying.{laid_chunk}
use Rattle.along.proofs.lay.eight.Goals as goal

pub returns : goal.returns
returns c =
    let from = c.args.from in
    let rest = drop from c.args.pool.now in
    laid_chunk _ _ _ from c.args.at 8 (grind (arith, common_steps))
    (λ i h. get_or-take 8 (take (1024 - from) rest) i 0 h ∙ get_or-take (1024 - from) rest i 0 (omega arith) ∙ get_or-drop from c.args.pool.now i 0) c.requires.1
