-- `along::links::Links::empty` meets its contract. Assumes nothing.
use Rattle.std.proofs.Common.{refl, ap}
use lib.ListN.{replicate}
use Rattle.sets.specs.declared.set.Set.{Set}
use Rattle.along.proofs.Stocks.{stock_none}
use Rattle.along.proofs.links.Links.empty.Goals as goal

pub returns : goal.returns
returns c = λ pattern root. stock_none pattern root _ (ap (λ (s : Set). replicate 256 s) c.empty.ensures.is_none) refl refl refl
