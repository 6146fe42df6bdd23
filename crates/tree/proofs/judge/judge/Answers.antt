-- `tree::judge::judge` meets its contract. Where the root is open, a tree exists; it is written at once, or measured first. Assumes nothing.
use Rattle.std.proofs.Common.{◌≡◌, ◌∙◌, ◌-◌, true, sym, arith}
use Rattle.meaning.specs.Expression.{Re}
use Rattle.positions.specs.Theorem.{found, first_row}
use Rattle.along.specs.Walk.{Walks}
use Rattle.tree.specs.Judge.{Judgeable}
use Rattle.tree.proofs.Judging.{found_is, judge_walkable, judge_tree, judge_fits, judge_none, kept_whole, kept_none}
use Rattle.tree.proofs.judge.judge.Goals as goal
use Rattle.tree.proofs.judge.judge.Goals.{Else-not-open_to}

-- the test says yes, whatever the root holds
yes : (c : Else-not-open_to) (e : Re) → Judgeable e c.args.pattern.now c.args.reader.now c.args.text.now c.args.cells.now → found e c.args.text.now ≡ true
yes c e j = sym (found_is j c.load.ensures c.if-not-open_to.ensures)

-- so there is a walk
walks : (c : Else-not-open_to) → Walks c.args.pattern.now (c.args.pattern.now.nodes - 1) c.args.text.now c.args.cells.now
walks c = let j = c.requires.judges.judgeable in record { e = c.requires.judges.e; walkable = judge_walkable j (yes c _ j) }

pub returns-then-not-open_to-clause-sought_as : goal.returns-then-not-open_to-clause-sought_as
returns-then-not-open_to-clause-sought_as c e j =
    judge_none j (sym (found_is j c.load.ensures c.if-not-open_to.ensures)) c.place.ensures

pub walk-w-requires-clause-walks : goal.walk-w-requires-clause-walks
walk-w-requires-clause-walks c = walks (goal.at.walk-w-requires-clause-walks c).Else-not-open_to

-- at once, into a room for every tree
pub returns-then-room_for-tree-clause-sought_as : goal.returns-then-room_for-tree-clause-sought_as
returns-then-room_for-tree-clause-sought_as c e j =
    let y = yes (goal.at.returns-then-room_for-tree-clause-sought_as c).Else-not-open_to e j in
    let w = c.walk-w.ensures.writes e (judge_walkable j y) in
    let fits = judge_fits j y c.room_for.ensures c.if-room_for-tree.true in
    judge_tree j y w.measures (w.row ∙ kept_whole (first_row e c.args.text.now) c.args.tree.now fits)

pub measure-w-requires-clause-walks : goal.measure-w-requires-clause-walks
measure-w-requires-clause-walks c = walks (goal.at.measure-w-requires-clause-walks c).Else-not-open_to

pub walk-requires-clause-walks : goal.walk-requires-clause-walks
walk-requires-clause-walks c = walks (goal.at.walk-requires-clause-walks c).Else-not-open_to

-- measured first, and then written if it fits
pub returns-then-w-tree-clause-sought_as : goal.returns-then-w-tree-clause-sought_as
returns-then-w-tree-clause-sought_as c e j =
    let y = yes (goal.at.returns-then-w-tree-clause-sought_as c).Else-not-open_to e j in
    let w = judge_walkable j y in
    let m = c.measure-w.ensures.measures e w in
    judge_tree j y m ((c.walk.ensures.writes e w).row ∙ kept_whole (first_row e c.args.text.now) c.args.tree.now (omega (arith, m.long, c.if-w-tree.true)))

pub returns-else-w-tree-clause-sought_as : goal.returns-else-w-tree-clause-sought_as
returns-else-w-tree-clause-sought_as c e j =
    let y = yes (goal.at.returns-else-w-tree-clause-sought_as c).Else-not-open_to e j in
    let m = c.measure-w.ensures.measures e (judge_walkable j y) in
    judge_tree j y m (kept_none (first_row e c.args.text.now) c.args.tree.now (omega (arith, m.long, c.if-w-tree.false)))
