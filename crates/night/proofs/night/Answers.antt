-- `night::night` meets its contract. Assumes nothing.
use Rattle.std.proofs.Common.{◌++◌, ◌∙◌, List, ℕ, ap, replicate}
use Rattle.meaning.specs.Limits.{night_cells}
use Rattle.night.proofs.night.Goals as goal

pub pass-requires-clause-prepares : goal.pass-requires-clause-prepares
pass-requires-clause-prepares c = record { e = c.requires.gives.e; prepared = c.prepare.ensures _ _ c.requires.gives.given }

pub returns : goal.returns
returns c e g =
    let p = c.pass.ensures e (c.prepare.ensures e _ g) in
    record { totals = p.totals; clear = c.clear.ensures ∙ ap (λ (l : List ℕ). replicate night_cells 0 ++ l) p.past }
