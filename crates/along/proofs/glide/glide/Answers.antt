-- `along::glide::glide` meets its contract. Assumes nothing.
use Rattle.std.proofs.Common.{◌+◌, ◌<◌, arith, length}
use Rattle.sets.specs.Members.{limit}
use Rattle.along.specs.Along.{Came}
use Rattle.along.specs.Stand.{stood}
use Rattle.along.proofs.Coming.{came_then}
use Rattle.along.proofs.Gliding.{Turn, glide_inside, glide_recalls, glide_came}
use Rattle.along.proofs.Linking.{place_of, place_within}
use Rattle.along.proofs.glide.glide.Goals as goal
use Rattle.along.proofs.glide.glide.Goals.{In-loop-s, Else-not-same}

-- the walk that is asked for has come here
came : (c : In-loop-s)
    → let now = c.loop-s in
    Came c.requires.e c.args.text.now c.args.tree.now now.tree (stood c.args.s) (stood now.s) c.args.s.read now.s.read
came c = let asked = c.requires in c.loop-s.invariant.2 asked.e asked.used asked.guided asked.kept asked.along

-- the position where it stands
inside : (c : In-loop-s) → c.loop-s.s.position < limit
inside c = glide_inside c.requires.guided (came c).along

-- a byte behind the next is left
more : (c : In-loop-s) → c.loop-s.s.read + 1 < length c.args.text.now
more c = omega arith

-- the place has the same goal
turn : (c : Else-not-same) → Turn c.args.cells.now c.args.follow.now c.args.kept.now c.loop-s.s c.load-goal.result c.meet-near.result c.kept_at-p.result
turn c =
    record {
      goal_is = c.load-goal.ensures;
      near_is = c.meet-near.ensures;
      place = place_of c.kept_at-p.ensures;
      same = c.same.ensures.0 c.if-not-same.false;
    }

pub bounds-follow-q : goal.bounds-follow-q
bounds-follow-q c = inside (goal.at.bounds-follow-q c).In-loop-s

pub offset_bounds-follow-q : goal.offset_bounds-follow-q
offset_bounds-follow-q c = omega (arith, inside (goal.at.offset_bounds-follow-q c).In-loop-s)

pub kept_at-p-requires : goal.kept_at-p-requires
kept_at-p-requires c = inside (goal.at.kept_at-p-requires c).In-loop-s

pub recall-s-requires : goal.recall-s-requires
recall-s-requires c =
    let place = goal.at.recall-s-requires c in
    let asked = c.requires in
    glide_recalls asked.guided (came place.In-loop-s).along (turn place.Else-not-same) (more place.In-loop-s) asked.kept asked.few asked.all_tokens

pub loop-s-preserved : goal.loop-s-preserved
loop-s-preserved c =
    let place = goal.at.loop-s-preserved c in
    let recalled = c.recall-s.ensures in
    let came-to = c.loop-s.invariant in (
      omega (arith, recalled.read),
      omega (arith, recalled.read, came-to.1),
      λ e u g k a.
          let x = came-to.2 e u g k a in
          came_then x (glide_came g x.along (turn place.Else-not-same) (more place.In-loop-s) k recalled (omega arith)),
    )

pub bounds-kept-p-in-loop-s : goal.bounds-kept-p-in-loop-s
bounds-kept-p-in-loop-s c = place_within c.kept_at-p.ensures (inside (goal.at.bounds-kept-p-in-loop-s c).In-loop-s)

pub offset_bounds-kept-p-in-loop-s : goal.offset_bounds-kept-p-in-loop-s
offset_bounds-kept-p-in-loop-s c = omega (arith, place_within c.kept_at-p.ensures (inside (goal.at.offset_bounds-kept-p-in-loop-s c).In-loop-s))

pub bounds-kept-p : goal.bounds-kept-p
bounds-kept-p c = place_within c.kept_at-p.ensures (inside (goal.at.bounds-kept-p c).In-loop-s)

pub offset_bounds-kept-p : goal.offset_bounds-kept-p
offset_bounds-kept-p c = omega (arith, place_within c.kept_at-p.ensures (inside (goal.at.offset_bounds-kept-p c).In-loop-s))
