-- `passes::steps::after` meets its contract. Assumes nothing.
use mathlib.Core.Path.{sym, ap, ◌∙◌}
use mathlib.Core.Bool.{Bool, ◌||◌, or_assoc, or-false}
use native.Mathlib.Omega.{arith}
use Rattle.sets.specs.Members.{has}
use Rattle.sets.proofs.SetLaws.{least_none, without_fewer}
use Rattle.passes.proofs.Visits.{joined_more, joined_none}
use Rattle.passes.proofs.steps.after.Goals as goal

pub loop-q-smaller : goal.loop-q-smaller
loop-q-smaller c =
    let some = c.in-Some.ensures in
    without_fewer _ _ c.in-Some.q some.2 (some.1.here some.0)

pub loop-q-preserved : goal.loop-q-preserved
loop-q-preserved c = λ k.
    let some = c.in-Some.ensures in
    let here = c.loop-q in
    let more = joined_more here.left c.pop_first.new.self c.in-Some.q (some.1.here some.0) some.2 _ k in
    let regrouped = or_assoc (has here.found k) _ _ ∙ ap (λ (t : Bool). has here.found k || t) (sym more) in
    rw (c.union-found.ensures k) (regrouped ∙ here.invariant k)

pub returns : goal.returns
returns c = λ k.
    let here = c.loop-q in
    let none = joined_none here.left (least_none _ _ c.in_default.ensures.0 (omega arith)) _ k in
    sym (or-false _) ∙ ap (λ (t : Bool). has here.found k || t) (sym none) ∙ here.invariant k
