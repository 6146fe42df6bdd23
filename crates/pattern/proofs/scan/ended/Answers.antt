-- `ended` meets its contract: one law for each way through it. Assumes nothing.
use Rattle.std.proofs.Common.{◌∙◌}
use Rattle.grammar.specs.Flat.{scan_whole}
use Rattle.pattern.proofs.scan.ended.Goals as goal

pub returns-then-ends_branch : goal.returns-then-ends_branch
returns-then-ends_branch c = λ s h e. scan_whole h e c.if-c-eq0.true (c.ends_branch.ensures ∙ c.if-ends_branch.true)
