-- `class_item` meets its contract. Assumes nothing.
use Rattle.std.proofs.Common.{arith}
use Rattle.grammar.specs.ClassContract.{range_single, range_span, range_bad_low, range_bad_high, range_bad_order}
use Rattle.pattern.proofs.Signs.{handed_up}
use Rattle.pattern.proofs.letters.class_item.Goals as goal

pub returns-in_err-low : goal.returns-in_err-low
returns-in_err-low c = rw (handed_up _ c.from_residual.ensures) (range_bad_low c.in_err-low.ensures)

pub returns-then-not-stands : goal.returns-then-not-stands
returns-then-not-stands c =
    let l = c.in_ok-low.ensures in
    record { done = range_single l.0 (λ i e. c.if-not-stands.ensures (record { inside = i; is = e })); on = l.1 }

pub returns-in_err-high : goal.returns-in_err-high
returns-in_err-high c =
    let dash = c.if-not-stands.ensures in
    rw (handed_up _ c.from_residual-in_err-high.ensures) (range_bad_high c.in_ok-low.ensures.0 dash.inside dash.is c.in_err-high.ensures)

pub returns-then-high-low : goal.returns-then-high-low
returns-then-high-low c =
    let dash = c.if-not-stands.ensures in
    let h = c.in_ok-high.ensures in
    range_bad_order c.in_ok-low.ensures.0 dash.inside dash.is h.0 c.if-high-low.true (omega (arith, h.1))

pub returns : goal.returns
returns c =
    let l = c.in_ok-low.ensures in
    let h = c.in_ok-high.ensures in
    let dash = c.if-not-stands.ensures in
    record {
      done = range_span l.0 dash.inside dash.is h.0 c.if-high-low.false;
      on = record { on = omega (arith, h.1, l.1); inside = h.1.inside };
    }
