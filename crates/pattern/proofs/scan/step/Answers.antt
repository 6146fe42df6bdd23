-- `step` meets its contract: one law for each way through it. Assumes nothing.
use Rattle.std.proofs.Common.{◌∙◌, arith}
use Rattle.grammar.specs.Flat.{scan_open, scan_close, scan_close_behind_bar, scan_close_alone, scan_bar, scan_bar_early, scan_sign, scan_sign_early}
use Rattle.pattern.proofs.Signs.{some_sign}
use Rattle.pattern.proofs.scan.step.Goals as goal
use Rattle.pattern.proofs.scan.step.Goals.{then-groups-eq0-via-then-groups-eq0, then-groups-eq0-via-else-groups-eq0+then-not-ends_group}

pub returns-in-40 : goal.returns-in-40
returns-in-40 c = rw c.past.ensures (scan_open c.requires.0 c.requires.1 c.in-40.is, omega arith)

pub returns-then-groups-eq0 : goal.returns-then-groups-eq0
returns-then-groups-eq0 c =
    elim c.then-groups-eq0.branch [
      | then-groups-eq0-via-then-groups-eq0 w ↦ scan_close_alone c.requires.0 c.requires.1 c.in-41.is w.if-groups-eq0.true
      | then-groups-eq0-via-else-groups-eq0+then-not-ends_group w ↦
          scan_close_behind_bar c.requires.0 c.requires.1 c.in-41.is (w.ends_group.ensures ∙ w.if-not-ends_group.true)
    ]

pub returns-else-not-ends_group : goal.returns-else-not-ends_group
returns-else-not-ends_group c =
    let group = scan_close c.requires.0 c.requires.1 c.in-41.is (omega arith) (c.ends_group.ensures ∙ c.if-not-ends_group.false) in
    rw c.past-in-41.ensures (group, omega arith)

pub returns-then-not-ends_branch : goal.returns-then-not-ends_branch
returns-then-not-ends_branch c = scan_bar_early c.requires.0 c.requires.1 c.in-124.is (c.ends_branch.ensures ∙ c.if-not-ends_branch.true)

pub returns-else-not-ends_branch : goal.returns-else-not-ends_branch
returns-else-not-ends_branch c =
    let branch = scan_bar c.requires.0 c.requires.1 c.in-124.is (c.ends_branch.ensures ∙ c.if-not-ends_branch.false) in
    rw c.past-in-124.ensures (branch, omega arith)

pub returns-then-not-takes_sign : goal.returns-then-not-takes_sign
returns-then-not-takes_sign c =
    let sign = some_sign c.sign.ensures c.if-is_none.ensures in
    scan_sign_early c.requires.0 c.requires.1 sign.is (c.takes_sign.ensures ∙ c.if-not-takes_sign.true)

pub returns-else-not-takes_sign : goal.returns-else-not-takes_sign
returns-else-not-takes_sign c =
    let sign = some_sign c.sign.ensures c.if-is_none.ensures in
    let item = scan_sign c.requires.0 c.requires.1 sign.is (c.takes_sign.ensures ∙ c.if-not-takes_sign.false) in
    rw c.past-in_default.ensures (item, omega arith)
