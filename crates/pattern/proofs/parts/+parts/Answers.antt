-- The cycle of calls {atom, branch, item, list} meets its contracts: one law for each way through each member. Assumes nothing.
use Rattle.std.proofs.Common.{◌∙◌, refl, arith}
use Rattle.grammar.specs.Contract.{list_first_fails}
use Rattle.pattern.proofs.Steps.{
  within,
  unit_read,
  group_read,
  no_group,
  no_group_left,
  open_group,
  bare_read,
  signed_read,
  one_item,
  item_and_rest,
  no_rest,
  first_front,
  turned,
  turned_front,
  turned_list,
  lone_list,
  list_end,
  list_open,
  no_next,
  byte_there,
}
use Rattle.pattern.proofs.parts.+parts.Goals as goal

-- ---- atom

pub atom-returns-then-not-stands : goal.atom-returns-then-not-stands
atom-returns-then-not-stands t c = c.single.ensures c.args.left

pub atom-returns-then-left-eq0 : goal.atom-returns-then-left-eq0
atom-returns-then-left-eq0 t c = no_group_left c.if-left-eq0.true c.if-not-stands.ensures

pub atom-returns-then-stands : goal.atom-returns-then-stands
atom-returns-then-stands t c = unit_read (omega arith) c.if-not-stands.ensures (rw c.past-inner.ensures.at at c.if-stands.ensures) c.empty.ensures.became c.empty.ensures.put

pub atom-returns-in_err-d : goal.atom-returns-in_err-d
atom-returns-in_err-d t c =
    rw c.from_residual.ensures
    (no_group (omega arith) c.if-not-stands.ensures (rw c.past-inner.ensures.at at c.if-stands.ensures) c.past-inner.ensures c.in_err-d.ensures)

pub atom-returns-then-stands-2 : goal.atom-returns-then-stands-2
atom-returns-then-stands-2 t c = group_read (omega arith) c.if-not-stands.ensures c.past-inner.ensures c.in_ok-d.ensures.0 c.if-stands-2.ensures c.past.ensures

pub atom-returns-else-stands-2 : goal.atom-returns-else-stands-2
atom-returns-else-stands-2 t c =
    let h = c.in_ok-d.ensures in
    open_group c.if-not-stands.ensures c.past-inner.ensures h.0 (list_open h.1 c.if-stands-2.ensures)

-- ---- item

pub item-returns-in-Some : goal.item-returns-in-Some
item-returns-in-Some t c = signed_read c.in_ok-d.ensures c.in-Some.ensures c.marked.ensures.became c.marked.ensures.put

pub item-returns-in-None : goal.item-returns-in-None
item-returns-in-None t c = bare_read c.in_ok-d.ensures c.in-None.ensures

-- ---- branch

pub branch-returns-then-not-goes_on : goal.branch-returns-then-not-goes_on
branch-returns-then-not-goes_on t c = (one_item c.in_ok-first.ensures, c.if-not-goes_on.ensures)

pub branch-returns-in_err-rest : goal.branch-returns-in_err-rest
branch-returns-in_err-rest t c = rw c.from_residual-in_err-rest.ensures (no_rest c.in_ok-first.ensures c.if-not-goes_on.ensures c.in_err-rest.ensures)

pub branch-returns : goal.branch-returns
branch-returns t c =
    let rest = c.in_ok-rest.ensures in
    let joint = c.joined.ensures in
    (item_and_rest c.in_ok-first.ensures rest.0 joint.became joint.put, rw joint.became.at rest.1)

-- ---- list

pub list-returns-in_err-first : goal.list-returns-in_err-first
list-returns-in_err-first t c = rw c.from_residual.ensures (list_first_fails c.requires.inside c.in_err-first.ensures)

pub list-returns-then-not-stands : goal.list-returns-then-not-stands
list-returns-then-not-stands t c = let h = c.in_ok-first.ensures in (lone_list h.0, list_end h.1 refl c.if-not-stands.ensures)

-- the first branch was read, and its mark written
pub list-loop-e-init : goal.list-loop-e-init
list-loop-e-init t c =
    let mark = c.marked-d.ensures in
    let reads = first_front c.in_ok-first.ensures.0 c.if-not-stands.ensures mark.became mark.put in
    record { inside = within c.requires reads.moved; bar = byte_there mark.became.at c.if-not-stands.ensures; reads = reads }

pub list-returns-in_err-e : goal.list-returns-in_err-e
list-returns-in_err-e t c =
    let inv = c.loop-e.invariant in
    rw c.from_residual-in_err-e.ensures (no_next inv.reads inv.bar c.past.ensures c.in_err-e.ensures)

-- one more branch was read, its mark written, and it is joined to those before
pub list-returns-then-not-stands-2 : goal.list-returns-then-not-stands-2
list-returns-then-not-stands-2 t c =
    let more = c.in_ok-e.ensures in
    let mark = c.marked-m.ensures in
    let joint = c.joined-d.ensures in
    let h = turned c.loop-e.invariant.reads c.past.ensures more.0 mark.became mark.put joint.became joint.put in
    (turned_list h, list_end more.1 (joint.became.at ∙ mark.became.at) c.if-not-stands-2.ensures)

pub list-loop-e-preserved : goal.list-loop-e-preserved
list-loop-e-preserved t c =
    let mark = c.marked-m.ensures in
    let joint = c.joined-d.ensures in
    let h = turned c.loop-e.invariant.reads c.past.ensures c.in_ok-e.ensures.0 mark.became mark.put joint.became joint.put in
    record { inside = within c.requires h.moved; bar = c.if-not-stands-2.ensures; reads = turned_front h c.if-not-stands-2.ensures }
