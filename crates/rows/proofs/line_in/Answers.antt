-- `rows::line_in` meets its contract. Assumes nothing.
use mathlib.Core.Path.{◌≡◌}
use lib.ListN.{drop}
use borrow.Author.Rules.{rules}
use Rattle.lines.specs.Parts.{Headed}
use Rattle.rows.proofs.RowLaws.{word_tree, line_headed, found_line}
use Rattle.rows.proofs.line_in.Goals as goal

pub returns-in_err-strip_prefix : goal.returns-in_err-strip_prefix
returns-in_err-strip_prefix c =
    let none : Headed c.args.line.now word_tree → ⊥ = search rules in
    rw c.from_residual.ensures (λ row l. none (line_headed l))

pub returns : goal.returns
returns c =
    let line = c.args.line.now in
    let headed : Headed line word_tree = search rules in
    let rest : c.in_ok-strip_prefix.field-0.now ≡ drop 4 line = search rules in
    found_line line headed _ c.tokens_in.result _ (rw rest at c.tokens_in.ensures)
