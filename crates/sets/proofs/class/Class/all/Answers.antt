-- `sets::class::Class::all` meets its contract. Assumes nothing.
use mathlib.Core.Path.{◌≡◌, refl}
use mathlib.Core.Bool.{true}
use lib.ListN.{get_or-replicate}
use Rattle.meaning.specs.ReadPattern.{binary}
use Rattle.sets.proofs.ClassLaws.{word_class}
use Rattle.sets.proofs.class.Class.all.Goals as goal

full : binary 64 (λ j. true) ≡ 18446744073709551615
unfolding binary
full = refl

pub returns : goal.returns
returns c = word_class _ (λ j. true) (λ i h. rw full (get_or-replicate 4 i 18446744073709551615 0 h))
