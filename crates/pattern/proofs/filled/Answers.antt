-- `filled` meets its contract: which answer each way through it gives. Assumes nothing.
use Rattle.std.proofs.Common.{refl, arith}
use Rattle.meaning.specs.Promise.{long_pattern}
use Rattle.grammar.specs.Contract.{read_fails}
use Rattle.pattern.specs.Stores.{stores}
use Rattle.pattern.proofs.Whole.{Whole, whole, cut_short, many_positions, many_marks, numberable, read_whole}
use Rattle.pattern.proofs.filled.Goals as goal
use Rattle.pattern.proofs.filled.Goals.{In-Some}

-- a list is read from the start
listed : (c : In-Some) → Whole c.args.pattern.now c.in-Some.end (stores c.list.new.read)
listed c = whole c.requires c.start.ensures c.in-Some.ensures.0

pub returns-then-pattern-gt-PATTERN_LIMIT : goal.returns-then-pattern-gt-PATTERN_LIMIT
returns-then-pattern-gt-PATTERN_LIMIT c = (long_pattern c.if-pattern-gt-PATTERN_LIMIT.true, tt)

pub wrong-requires : goal.wrong-requires
wrong-requires c = (c.if-pattern-gt-PATTERN_LIMIT.false, read_fails (rw c.start.ensures.at at c.in_default.ensures))

pub returns-in_default : goal.returns-in_default
returns-in_default c = (c.wrong.ensures, tt)

pub returns-then-at-pattern : goal.returns-then-at-pattern
returns-then-at-pattern c =
    let h = listed (goal.at.returns-then-at-pattern c).In-Some in
    let inside = c.if-at-pattern.true in
    (cut_short c.if-pattern-gt-PATTERN_LIMIT.false h (λ i l. omega (arith, c.type_inv.pattern i)) inside (c.in-Some.ensures.1 inside), tt)

pub returns-then-end-gt-POSITION_LIMIT : goal.returns-then-end-gt-POSITION_LIMIT
returns-then-end-gt-POSITION_LIMIT c =
    let h = listed (goal.at.returns-then-end-gt-POSITION_LIMIT c).In-Some in
    (many_positions c.if-pattern-gt-PATTERN_LIMIT.false h c.if-at-pattern.false c.if-end-gt-POSITION_LIMIT.true, tt)

pub returns-then-end-gt-MARK_LIMIT : goal.returns-then-end-gt-MARK_LIMIT
returns-then-end-gt-MARK_LIMIT c =
    let h = listed (goal.at.returns-then-end-gt-MARK_LIMIT c).In-Some in
    (many_marks c.if-pattern-gt-PATTERN_LIMIT.false h c.if-at-pattern.false c.if-end-gt-POSITION_LIMIT.false c.if-end-gt-MARK_LIMIT.true, tt)

pub number-requires : goal.number-requires
number-requires c =
    let h = listed (goal.at.number-requires c).In-Some in
    numberable c.if-pattern-gt-PATTERN_LIMIT.false h c.if-at-pattern.false c.if-end-gt-POSITION_LIMIT.false c.if-end-gt-MARK_LIMIT.false

pub returns : goal.returns
returns c =
    let h = listed (goal.at.returns c).In-Some in
    let few = c.if-end-gt-POSITION_LIMIT.false in
    (read_whole c.if-pattern-gt-PATTERN_LIMIT.false h c.if-at-pattern.false few _ c.if-end-gt-MARK_LIMIT.false c.number.ensures.kinds c.number.ensures.args refl refl refl refl, h.fours)
