-- `passes::masks::mark` meets its contract. Assumes nothing.
use mathlib.Core.Path.{◌≡◌}
use native.Mathlib.Omega.{arith}
use Rattle.passes.proofs.Words.{noted_part}
use Rattle.passes.proofs.Upto.{brought_none, brought_more, brought_all}
use Rattle.passes.proofs.masks.mark.Goals as goal

pub loop-w-init : goal.loop-w-init
loop-w-init c = brought_none _ _ _

pub loop-w-preserved : goal.loop-w-preserved
loop-w-preserved c =
    let turn = c.loop-w in
    brought_more _ _ turn.w turn.invariant (noted_part _ turn.w _ _ _ _ (omega arith) (omega (arith, turn.auto.mask, c.requires.0)) c.join.ensures)

pub returns : goal.returns
returns c = let end : c.loop-w.w ≡ 4 = omega arith in brought_all _ _ (rw end at c.loop-w.invariant)
