-- `tally::Place::opening` meets its contract. Assumes nothing.
use Rattle.tally.proofs.Adding.{added}
use Rattle.tally.proofs.Gains.{added_none}
use Rattle.tally.proofs.Steps.{opened_some, opened_empty}
use Rattle.tally.proofs.Place.opening.Goals as goal

pub add-requires : goal.add-requires
add-requires c =
    let e = opened_some c.args.m c.args.self.seen c.args.closed.now c.if-behind-self.true in
    rw e at c.requires.takes.fits

pub returns-then-behind-self : goal.returns-then-behind-self
returns-then-behind-self c =
    rw (opened_some c.args.m c.args.self.seen c.args.closed.now c.if-behind-self.true) (added c.requires.takes.in_figures c.add.ensures)

pub returns-else-behind-self : goal.returns-else-behind-self
returns-else-behind-self c = rw (opened_empty c.args.m c.args.self.seen c.args.closed.now c.if-behind-self.false) (added_none c.args.m _)
