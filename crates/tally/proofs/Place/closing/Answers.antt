-- `tally::Place::closing` meets its contract: a law for each of its two ways. Assumes nothing.
use Rattle.std.proofs.Common.{◌≡◌}
use native.Mathlib.Omega.{arith}
use Rattle.tally.specs.Along.{Ran}
use Rattle.tally.proofs.Adding.{added}
use Rattle.tally.proofs.Shorts.{ran_first}
use Rattle.tally.proofs.Moves.{moved_plain, short_takes, moved_short}
use Rattle.tally.proofs.Place.closing.Goals as goal
use Rattle.tally.proofs.Place.closing.Goals.{After-run-at}

-- all the turns that end there
ran : (c : After-run-at) → Ran c.args.row.now c.args.mark c.args.self.at c.run-at.result
ran c = ran_first (c.wraps.ensures c.if-not-wraps.false c.requires.closes) c.run-at.ensures

-- one at least
moves : (c : After-run-at) → c.run-at.result ≡ c.args.self.at → ⊥
moves c = λ e. omega (arith, (c.wraps.ensures c.if-not-wraps.false c.requires.closes).three, c.run-at.ensures.no_further)

pub returns-then-not-wraps : goal.returns-then-not-wraps
returns-then-not-wraps c = moved_plain c.requires.underway c.requires.closes

pub overflow_sub-self : goal.overflow_sub-self
overflow_sub-self c = (c.wraps.ensures c.if-not-wraps.false c.requires.closes).three

pub add-requires : goal.add-requires
add-requires c =
    let ran_at = ran (goal.at.add-requires c).After-run-at in
    (short_takes c.requires.underway c.requires.closes ran_at (moves (goal.at.add-requires c).After-run-at)).fits

pub returns : goal.returns
returns c =
    let u = c.requires.underway in
    let z = c.requires.closes in
    let place = (goal.at.returns c).After-run-at in
    let takes = short_takes u z (ran place) (moves place) in
    moved_short u z (ran place) (moves place) (added takes.in_figures c.add.ensures)
