-- `sets::set::Set::overlaps` meets its contract. Assumes nothing.
use mathlib.Core.Path.{ap, ◌∙◌}
use mathlib.Core.Bool.{not, not-not}
use Rattle.sets.specs.Members.{limit, vacant, meets}
use Rattle.bits.proofs.Tallies.{any_ext}
use Rattle.sets.proofs.set.Set.overlaps.Goals as goal

pub returns : goal.returns
unfolding vacant meets
returns c = ap not c.is_empty.ensures ∙ not-not _ ∙ any_ext _ _ limit (λ q _. c.meet.ensures q)
