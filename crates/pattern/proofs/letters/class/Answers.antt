-- `class` meets its contract. The loop's invariant: ranges were read from `from` up to `at`, and the class holds their bytes. Assumes nothing.
use Rattle.std.proofs.Common.{arith}
use Rattle.grammar.specs.ClassContract.{class_done, class_open, class_first_bad, class_more_bad}
use Rattle.pattern.proofs.Classes.{first_range, next_range}
use Rattle.pattern.proofs.Signs.{handed_up}
use Rattle.pattern.proofs.letters.class.Goals as goal

pub returns-in_err-first : goal.returns-in_err-first
returns-in_err-first c = rw (handed_up _ c.from_residual.ensures) (class_first_bad c.requires c.in_err-first.ensures)

pub loop-at-init : goal.loop-at-init
loop-at-init c = first_range _ _ c.in_ok-first.ensures c.none.ensures c.with_range-class.ensures

pub returns-then-p-at-eq93 : goal.returns-then-p-at-eq93
returns-then-p-at-eq93 c =
    let h = c.loop-at.invariant in
    record { test = h.test; done = class_done h.done c.loop-at-test.true c.if-p-at-eq93.true; says = h.says; on = omega (arith, h.on) }

pub returns-in_err-item : goal.returns-in_err-item
returns-in_err-item c =
    rw (handed_up _ c.from_residual-in_err-item.ensures) (class_more_bad c.loop-at.invariant.done c.loop-at-test.true c.if-p-at-eq93.false c.in_err-item.ensures)

pub loop-at-preserved : goal.loop-at-preserved
loop-at-preserved c = next_range _ _ c.loop-at.invariant c.in_ok-item.ensures c.with_range-class-in-loop-at.ensures

pub returns : goal.returns
returns c = let inv = c.loop-at.invariant in class_open inv.done (omega (arith, inv.on, c.loop-at-test.false))
