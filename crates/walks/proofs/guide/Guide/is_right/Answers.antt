-- `is_right`: the left part stands below the node, and a node without two parts has no right one.
use mathlib.Core.Logic.{⊎_elim}
use Rattle.walks.proofs.Parts.{pair_at, two_at}
use Rattle.walks.proofs.Resuming.{placed_below}
use Rattle.walks.proofs.Spines.{right_test}
use Rattle.walks.proofs.guide.Guide.is_right.Goals as goal

pub bounds-self-left : goal.bounds-self-left
bounds-self-left c = (placed_below c.requires (pair_at _ _ c.in-Cat.is)).1

pub returns-in_default : goal.returns-in_default
returns-in_default c = λ right. ⊎_elim (λ e. c.in_default.not-Cat _ e.1) (λ e. c.in_default.not-Alt _ e.1) (two_at _ _ right.two right.pair)

pub returns-in-Cat : goal.returns-in-Cat
returns-in-Cat c = right_test _ _ (pair_at _ _ c.in-Cat.is)
