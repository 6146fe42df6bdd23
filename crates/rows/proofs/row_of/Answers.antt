-- `rows::row_of` meets its contract. Assumes nothing.
use mathlib.Core.Path.{◌≡◌, sym, ap, ◌∙◌}
use borrow.Author.Rules.{rules}
use Rattle.std.proofs.Common.{Some, []}
use Rattle.std.proofs.lemmas.Result.{err_from_is_err_and}
use Rattle.std.specs.Result.{result_ok}
use Rattle.rows.specs.Front.{Put}
use Rattle.rows.specs.Rows.{Line, RowOf}
use Rattle.rows.proofs.RowLaws.{no_value, row_small, row_held}
use Rattle.rows.proofs.row_of.Goals as goal
use Rattle.rows.proofs.row_of.Goals.{In_ok-n}

-- a row is found, and counted without a room
counted : (c : In_ok-n) → Put (Line c.args.line.now) [] c.in_ok-n.n c.line_in.new.room
counted c = let e : c.line_in.result ≡ Some c.in_ok-n.n = c.ok_or.ensures.ok_part ∙ ap result_ok c.in_ok-n.was in rw e at c.line_in.ensures

pub returns-in_err-n : goal.returns-in_err-n
returns-in_err-n c =
    let p = err_from_is_err_and c.from_residual.result c.from_residual.ensures.1 in
    let none = no_value c.line_in.result _ _ (sym c.ok_or.ensures.value ∙ c.in_err-n.was) in
    rw (p.1, p.2, ← none.1) (RowOf.no_row (rw none.0 at c.line_in.ensures))

pub returns-then-room-n : goal.returns-then-room-n
returns-then-room-n c = row_small _ (counted (goal.at.returns-then-room-n c).In_ok-n) (search rules)

pub returns : goal.returns
returns c = row_held _ (counted (goal.at.returns c).In_ok-n) c.line_in-2.result _ (search rules) c.line_in-2.ensures
