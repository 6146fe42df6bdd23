-- `night::report` meets its contract. Assumes nothing.
use Rattle.std.proofs.Common.{◌≤◌, arith, length, refl}
use borrow.Author.Rules.{rules}
use Rattle.std.proofs.lemmas.Result.{err_from_is_err_and}
use Rattle.meaning.specs.Expression.{Re}
use Rattle.meaning.specs.Limits.{text_limit}
use Rattle.meaning.specs.Promise.{Judged}
use Rattle.tree.specs.Judge.{Prepared}
use Rattle.tree.specs.Outcome.{number_of, value_of, flag_of}
use Rattle.tree.proofs.Answers.{told_judged, refusal_some}
use Rattle.night.proofs.Reporting.{past_night, reported_none, front_held, reported_row}
use Rattle.night.proofs.report.Goals as goal
use Rattle.night.proofs.report.Goals.{After-told}

-- the report is looked at
short : (c : After-told) → length c.args.text.now ≤ text_limit
short c = omega arith

-- and judged
answered : (c : After-told) (e : Re) → Prepared e c.args.pattern.now c.args.reader.now
    → Judged e c.args.text.now c.args.tree.now (number_of c.told.result) (value_of c.told.result) (flag_of c.told.result) c.seek.new.tree
answered c e p = told_judged c.seek.result (search rules) (c.seek.ensures.seeks e p).sought

pub returns-in_err-found-clause-reported : goal.returns-in_err-found-clause-reported
returns-in_err-found-clause-reported c e p =
    let told = (goal.at.returns-in_err-found-clause-reported c).After-told in
    let s = c.seek.ensures.seeks e p in
    let a = rw c.in_err-found.was at (answered told e p) in
    let k = err_from_is_err_and c.from_residual.result c.from_residual.ensures.1 in
    rw (k.1, k.2) (reported_none p.rooted.few_marks (short told) a (refusal_some c.in_err-found.field-0.0) (past_night s (short told)) s.same_cells)

pub tally-requires : goal.tally-requires
tally-requires c =
    let told = (goal.at.tally-requires c).After-told in
    let p = c.requires.prepares.prepared in
    let a = rw c.in_ok-found.was at (answered told _ p) in
    front_held p.rooted.few_marks (short told) a refl c.requires.spacious

pub returns-clause-reported : goal.returns-clause-reported
returns-clause-reported c e p =
    let told = (goal.at.returns-clause-reported c).After-told in
    let s = c.seek.ensures.seeks e p in
    let a = rw c.in_ok-found.was at (answered told e p) in
    reported_row p.rooted.few_marks (short told) a refl (past_night s (short told)) s.same_cells c.tally.ensures
