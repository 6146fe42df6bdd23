-- `passes::backward::back` meets its contract. Assumes nothing.
use mathlib.Core.Path.{ap, ◌∙◌}
use mathlib.Core.Bool.{Bool, ◌&&◌}
use Rattle.sets.specs.Members.{has, row}
use Rattle.passes.proofs.backward.back.Goals as goal

pub returns : goal.returns
returns c = λ q. c.meet.ensures q ∙ ap (λ (y : Bool). has (row c.args.mask.now c.args.b) q && y) (c.after-before.ensures q)
