-- `passes::backward::backward` meets its contract. Assumes nothing.
use mathlib.Core.Path.{refl}
use Prim.Native.Nat.{◌-◌, ◌≤◌, ◌<◌}
use native.Mathlib.Omega.{arith}
use lib.ListN.{length, get_or}
use Rattle.sets.specs.Members.{held}
use Rattle.sets.proofs.SetLaws.{nones_empty}
use Rattle.passes.proofs.Rests.{going_none, going_last, going_more, going_all, made_more}
use Rattle.passes.proofs.backward.backward.Goals as goal

pub returns-then-n-eq0-clause-backed : goal.returns-then-n-eq0-clause-backed
returns-then-n-eq0-clause-backed c follow P =
    let stored = c.store.ensures in
    let none = c.empty.ensures.members in
    going_all _ _ _ _ _ _ _ none stored _ _ _ (going_none _ _ _ _ _ _ _ none stored) (omega arith)

pub loop-i-preserved : goal.loop-i-preserved
loop-i-preserved c =
    let kept = c.store-in-loop-i.ensures in
    let turn = c.loop-i in
    let text = c.args.text.now in
    let left : 0 < turn.i = omega arith in (
      omega (arith, turn.invariant.0),
      c.recall-next.ensures.kept,
      λ follow ends k P G.
          going_more _ _ _ _ _ (held turn.cells) _ turn.next c.recall-next.result turn.i (turn.invariant.2 follow ends k P G) left
          (made_more c.args.mask.now follow ends text _ _ turn.next _ (get_or text (turn.i - 1) 0) turn.i (nones_empty 64) P (omega arith) c.recall-next.ensures.found) kept,
    )

pub returns-clause-backed : goal.returns-clause-backed
returns-clause-backed c follow P =
    let stored = c.store.ensures in
    let none = c.empty.ensures.members in
    let some : 0 < length c.args.text.now = omega arith in
    let done : c.loop-i.i ≤ 0 = omega arith in
    going_all _ _ _ _ _ _ _ none stored _ _ _
    (c.loop-i.invariant.2 follow _ _ P (going_last _ _ _ _ _ _ _ none stored _ _ _ some refl c.meet-next.ensures c.store-2.ensures))
    done
