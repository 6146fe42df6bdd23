-- `sheet::make::make` meets its contract. Assumes nothing.
use Rattle.std.proofs.Common.{inl, inr, arith}
use Rattle.std.proofs.lemmas.Result.{err_from_is_err_and}
use Rattle.meaning.specs.Sheet.{SheetLent, long_pattern, little_lent, refused}
use Rattle.pattern.proofs.Held.{Held, held, refusal_of_short}
use Rattle.tree.proofs.Searching.{given_of, gives}
use Rattle.sheet.proofs.make.make.Goals as goal
use Rattle.sheet.proofs.make.make.Goals.{After-fill, In_ok-fill}

-- nothing is refused before the pattern is read
in_order : (c : After-fill) → SheetLent c.args.pattern.now c.args.cells.now c.args.sheet.now
in_order c = record { short_pattern = omega arith; cells_enough = omega arith; sheet_enough = omega arith }

-- the reader accepted the pattern, and filled the rows
a-pattern : (c : In_ok-fill) → Held c.args.pattern.now c.fill.new.read
a-pattern c = held c.fill.ensures c.in_ok-fill.was

pub returns-then-pattern-gt-PATTERN_LIMIT : goal.returns-then-pattern-gt-PATTERN_LIMIT
returns-then-pattern-gt-PATTERN_LIMIT c = λ table h. long_pattern (omega arith)

pub returns-then-cells-lt-CELLS : goal.returns-then-cells-lt-CELLS
returns-then-cells-lt-CELLS c =
    λ table h. little_lent (omega arith) (elim c.then-cells-lt-CELLS.either [ inl l ↦ inl l | inr l ↦ inr l.1 ])

pub returns-in_err-fill : goal.returns-in_err-fill
returns-in_err-fill c =
    let p = err_from_is_err_and c.from_residual.result c.from_residual.ensures.1 in
    rw (p.1, p.2) (λ table h. refused (in_order (goal.at.returns-in_err-fill c).After-fill) (refusal_of_short _ c.fill.ensures c.in_err-fill.was (omega arith)))

pub complete-requires-clause-gives : goal.complete-requires-clause-gives
complete-requires-clause-gives c = gives c.type_inv.pattern (a-pattern (goal.at.complete-requires-clause-gives c).In_ok-fill)

pub returns : goal.returns
returns c =
    let H = a-pattern (goal.at.returns c).In_ok-fill in
    c.complete.ensures H.denotes (given_of c.type_inv.pattern H) _ (in_order (goal.at.returns c).After-fill).short_pattern H.accepted
