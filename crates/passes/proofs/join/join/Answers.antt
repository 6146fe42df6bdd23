-- `passes::join::join` meets its contract. Assumes nothing.
use Rattle.sets.proofs.SetLaws.{without_fewer}
use Rattle.passes.proofs.Preceding.{joining_all}
use Rattle.passes.proofs.join.join.Goals as goal

pub loop-p-smaller : goal.loop-p-smaller
loop-p-smaller c =
    let some = c.in-Some.ensures in
    without_fewer _ _ c.in-Some.p some.2 (some.1.here some.0)

pub returns : goal.returns
returns c = joining_all _ _ _ c.loop-p.invariant c.in_default.ensures.0
