-- `passes::place::place` meets its contract. Assumes nothing.
use mathlib.Core.Path.{◌≡◌, sym, ap, ◌∙◌}
use mathlib.Core.Bool.{◌&&◌}
use Prim.Native.Nat.{ℕ, ◌+◌, ◌<◌}
use native.Mathlib.Omega.{arith}
use native.Mathlib.Nat.{add-zero}
use lib.ListN.{length, get_or}
use Rattle.sets.specs.Members.{has, row}
use Rattle.passes.proofs.Reach.{readable_stops, readable_more, readable_end}
use Rattle.passes.proofs.place.place.Goals as goal
use Rattle.passes.proofs.place.place.Goals.{After-meet-reading}

-- the positions that read it
reading : (c : After-meet-reading) (q : ℕ)
    → let now = c.loop-i in
    let asked = c.args in
    has c.meet-reading.result q ≡ (has now.next q && has (row asked.mask.now (get_or asked.text.now now.i 0)) q)
reading c q = c.meet-reading.ensures q

pub returns-then-is_empty : goal.returns-then-is_empty
returns-then-is_empty c =
    let read = (goal.at.returns-then-is_empty c).After-meet-reading in
    let turn = read.loop-i in
    let asked = read.args in
    let none = sym c.is_empty.ensures ∙ c.if-is_empty.true in
    let stops =
    readable_stops asked.mask.now asked.follow.now asked.text.now (has turn.next) turn.i (omega arith) read.meet-reading.result
    (reading read) none in
    sym (turn.invariant ∙ ap (λ (n : ℕ). turn.i + n) stops ∙ add-zero _)

pub loop-i-preserved : goal.loop-i-preserved
loop-i-preserved c =
    let read = (goal.at.loop-i-preserved c).After-meet-reading in
    let turn = read.loop-i in
    let asked = read.args in
    let left : turn.i < length asked.text.now = omega arith in
    let some = sym c.is_empty.ensures ∙ c.if-is_empty.false in
    let more =
    readable_more asked.mask.now asked.follow.now asked.text.now (has turn.next) turn.i left read.meet-reading.result (reading read) some
    c.after-next.result c.after-next.ensures in
    omega (arith, more, turn.invariant)

pub returns : goal.returns
returns c =
    let turn = c.loop-i in
    let asked = c.args in
    let end = readable_end asked.mask.now asked.follow.now asked.text.now (has turn.next) turn.i (omega arith) in
    omega (arith, end, turn.invariant)
