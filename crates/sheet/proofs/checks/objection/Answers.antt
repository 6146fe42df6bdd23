-- `sheet::checks::objection` meets its contract. Assumes nothing.
use Rattle.std.proofs.Common.{◌≡◌, ℕ, Bool, true, eqb, sym, ◌∙◌, inl, inr, arith}
use borrow.Author.Tests.{eqb-true, eqb-false}
use Rattle.sheet.specs.Checks.{to_lengths, to_marks, to_last, to_nothing}
use Rattle.sheet.proofs.checks.objection.Goals as goal
use Rattle.sheet.proofs.checks.objection.Goals.{then-lengths-gt-REPORT_LIMIT-via-then-lengths-gt-REPORT_LIMIT, then-lengths-gt-REPORT_LIMIT-via-else-lengths-gt-REPORT_LIMIT+then-not-add_up}

-- the lengths add up
added : {s n : ℕ} {b : Bool} → b ≡ eqb s n → b ≡ true → s ≡ n
added e t = eqb-true _ _ (sym e ∙ t)

pub returns-then-lengths-gt-REPORT_LIMIT : goal.returns-then-lengths-gt-REPORT_LIMIT
returns-then-lengths-gt-REPORT_LIMIT c =
    to_lengths (elim c.then-lengths-gt-REPORT_LIMIT.branch [
      | then-lengths-gt-REPORT_LIMIT-via-then-lengths-gt-REPORT_LIMIT w ↦ inl (omega arith)
      | then-lengths-gt-REPORT_LIMIT-via-else-lengths-gt-REPORT_LIMIT+then-not-add_up w ↦ inr (eqb-false _ _ (sym w.add_up.ensures ∙ w.if-not-add_up.true))
    ])

pub returns-then-records-marks : goal.returns-then-records-marks
returns-then-records-marks c = to_marks (omega arith) (added c.add_up.ensures c.if-not-add_up.false) (elim c.then-records-marks.either [ inl d ↦ inl (λ z. omega arith) | inr d ↦ inr (λ z. omega (arith, d.1)) ])

pub returns-then-greatest-gt-LAST_LIMIT : goal.returns-then-greatest-gt-LAST_LIMIT
returns-then-greatest-gt-LAST_LIMIT c = to_last (omega arith) (added c.add_up.ensures c.if-not-add_up.false) (omega arith) (omega arith) (omega arith)

pub returns : goal.returns
returns c = to_nothing (omega arith) (added c.add_up.ensures c.if-not-add_up.false) (omega arith) (omega arith) (omega arith)
