-- `passes::masks::masks` meets its contract. Assumes nothing.
use mathlib.Core.Path.{◌≡◌}
use mathlib.Core.List.{[]}
use native.Mathlib.Omega.{arith}
use Rattle.std.proofs.lemmas.List.{get_or-take, length-take-le}
use Rattle.passes.proofs.Upto.{masked_none, masked_more}
use Rattle.passes.proofs.masks.masks.Goals as goal

pub loop-q-init : goal.loop-q-init
loop-q-init c = masked_none _ _

pub loop-q-preserved : goal.loop-q-preserved
loop-q-preserved c =
    let a = c.args in
    let q = c.loop-q.q in
    let here = get_or-take a.positions a.class.now q (record { words = [] }) (omega (arith, length-take-le a.positions a.class.now)) in
    masked_more _ q c.loop-q.invariant (rw here at c.mark.ensures)

pub returns : goal.returns
returns c =
    let a = c.args in
    let end : c.loop-q.q ≡ a.positions = omega (arith, length-take-le a.positions a.class.now) in
    rw end at c.loop-q.invariant
