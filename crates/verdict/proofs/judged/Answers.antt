-- `verdict::judged` meets its contract. Assumes nothing.
use mathlib.Core.Path.{sym, ◌∙◌}
use Rattle.verdict.proofs.Verdicts.{verdict_several, verdict_told}
use Rattle.verdict.proofs.judged.Goals as goal

pub returns-then-flag-eq1 : goal.returns-then-flag-eq1
returns-then-flag-eq1 c = verdict_several c.requires c.search-found.ensures (sym c.flag.ensures ∙ c.if-flag-eq1.true)

pub returns-else-flag-eq1 : goal.returns-else-flag-eq1
returns-else-flag-eq1 c = verdict_told c.requires c.search-found.ensures (λ z. c.if-flag-eq1.false (c.flag.ensures ∙ z)) c.number.ensures
