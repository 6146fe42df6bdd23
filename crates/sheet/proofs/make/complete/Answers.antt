-- `sheet::make::complete` meets its contract. Assumes nothing.
use Rattle.std.proofs.Common.{◌≡◌, ◌∙◌, arith, length, take, length-take}
use Rattle.std.proofs.lemmas.Result.{err_from_is_err_and}
use Rattle.laws.specs.Nights.{night_lengths, length_reports}
use Rattle.sheet.proofs.Making.{right_lengths, objected, completed}
use Rattle.sheet.proofs.make.complete.Goals as goal
use Rattle.sheet.proofs.make.complete.Goals.{After-night}

-- each report has a number
each_number : (c : After-night) → length (take (length c.args.lengths.now) c.night.new.numbers) ≡ length c.args.lengths.now
each_number c = (night_lengths (c.night.ensures _ c.requires.gives.given).totals.night).0 ∙ length_reports c.args.lengths.now c.args.reports.now

pub returns-in_err-objection : goal.returns-in_err-objection
returns-in_err-objection c = λ e g.
    let asked = c.args in
    let lent = c.requires.lent in
    let p = err_from_is_err_and c.from_residual.result c.from_residual.ensures.1 in
    rw (p.1, p.2) (objected e asked.reports.now asked.lengths.now asked.last.now asked.cells.now asked.tree.now asked.sheet.now asked.records asked.pattern.now.marks
    g.rooted.marks_are lent.0 lent.1 c.in_err-objection.ensures)

pub night-requires-clause-lengths_right : goal.night-requires-clause-lengths_right
night-requires-clause-lengths_right c = right_lengths c.args.reports.now c.in_ok-objection.ensures

pub slice_bounds-numbers-end : goal.slice_bounds-numbers-end
slice_bounds-numbers-end c =
    omega (arith, each_number (goal.at.slice_bounds-numbers-end c).After-night, length-take (length c.args.lengths.now) c.night.new.numbers)

pub returns : goal.returns
returns c = λ e g.
    let asked = c.args in
    let lent = c.requires.lent in
    completed e asked.reports.now asked.lengths.now asked.last.now asked.cells.now asked.tree.now asked.sheet.now asked.records asked.pattern.now.marks
    g.rooted.marks_are lent.0 lent.1 g.rooted.few_marks (omega arith) (c.night.ensures e g) c.text-length.ensures c.in_ok-objection.ensures
