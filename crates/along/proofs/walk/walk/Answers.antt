-- `along::walk::walk` meets its contract. Assumes nothing.
use Rattle.std.proofs.Common.{◌<◌, arith, length}
use Rattle.meaning.specs.Expression.{Re}
use Rattle.along.specs.Along.{Along}
use Rattle.along.specs.Walk.{Walkable}
use Rattle.along.proofs.Coming.{came_then}
use Rattle.along.proofs.Advance.{ended_zero, walk_start, start_beyond, walk_glides, walk_glided, walk_linked, walk_end}
use Rattle.along.proofs.walk.walk.Goals as goal
use Rattle.along.proofs.walk.walk.Goals.{After-enter-s, In-loop-i}

-- the way into the root
started : (c : After-enter-s) (e : Re) → Walkable e c.args.chart.pattern.now c.args.chart.root c.args.text.now c.args.cells.now
    → Along e c.args.text.now c.enter-s.new.tree c.enter-s.result 0
started c e w = walk_start w _ c.load-goal.ensures (ended_zero c.args.text.now) (rw c.guide.ensures.pattern at c.enter-s.ensures)

-- a byte is left
more : (c : In-loop-i) → c.loop-i.i < length c.args.text.now
more c = omega arith

pub glide-g-requires : goal.glide-g-requires
glide-g-requires c =
    let place = goal.at.glide-g-requires c in
    let w = c.requires.walks.walkable in
    walk_glides w c.requires.charted (c.loop-i.invariant.1 _ w (started place.After-enter-s _ w)) (more place.In-loop-i) c.after.ensures c.loop-i.invariant.2

pub advance-s-requires-clause-advances : goal.advance-s-requires-clause-advances
advance-s-requires-clause-advances c =
    let place = goal.at.advance-s-requires-clause-advances c in
    let w = c.requires.walks.walkable in
    let gone = c.glide-g.ensures in
    let came = c.loop-i.invariant.1 _ w (started place.After-enter-s _ w) in
    let x = walk_glided w c.requires.charted came (more place.In-loop-i) c.after.ensures c.loop-i.invariant.2 gone in
    record { linked = walk_linked w gone.left x.along; left = gone.left; enough = w.enough }

pub loop-i-preserved : goal.loop-i-preserved
loop-i-preserved c =
    let left = more (goal.at.loop-i-preserved c).In-loop-i in
    let on = c.advance-s.ensures in
    let gone = c.glide-g.ensures in (
      omega (arith, gone.left),
      λ e w a.
          let x = walk_glided w c.requires.charted (c.loop-i.invariant.1 e w a) left c.after.ensures c.loop-i.invariant.2 gone in
          came_then x (on.advanced.goes e w x.along),
      on.stocked,
    )

pub returns-clause-writes : goal.returns-clause-writes
returns-clause-writes c e w =
    let start = started (goal.at.returns-clause-writes c).After-enter-s e w in
    let end = c.after-end.ensures in
    walk_end w (start_beyond w (rw c.guide.ensures.pattern at c.enter-s.ensures)) (c.loop-i.invariant.1 e w start) (omega arith) end.counted end.other
