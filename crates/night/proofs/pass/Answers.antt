-- `night::pass` meets its contract. The loop's invariant: i reports are passed, which end at byte `at`, and what is kept is right. Assumes nothing.
use Rattle.std.proofs.Common.{refl, ◌∙◌, ◌<◌, arith, length, slice_index_or}
use Rattle.std.proofs.Math.Nat.{add-sub_cancel_left}
use Rattle.night.proofs.Going.{going_none, going_more, going_all, along_none, next_end, along_more}
use Rattle.night.proofs.pass.Goals as goal

pub loop-i-init : goal.loop-i-init
loop-i-init c =
    let asked = c.requires in
    record { along = along_none asked.zero asked.lengths_right.adds_up; going = λ e p. going_none asked.zero; past = refl; serves = c.empty-kept.ensures _ _ }

pub overflow_add-end : goal.overflow_add-end
overflow_add-end c = omega (arith, next_end c.loop-i.invariant.along (omega arith))

pub slice_bounds-text-end : goal.slice_bounds-text-end
slice_bounds-text-end c = omega (arith, next_end c.loop-i.invariant.along (omega arith))

pub loop-i-preserved : goal.loop-i-preserved
loop-i-preserved c =
    let more : c.loop-i.i < length c.args.lengths.now = omega arith in
    let asked = c.requires in
    let given = c.args in
    let here = c.loop-i.invariant in
    let first = c.report-answer.ensures.reported _ asked.prepares.prepared in
    record {
      along = rw c.number.ensures (along_more here.along more first);
      going = λ e p.
          let r = c.report-answer.ensures.reported e p in
          rw c.number.ensures (going_more (here.going e p) more (omega (arith, more, here.along.each_number, asked.lengths_right.few_reports))
          (rw (add-sub_cancel_left c.loop-i.at (slice_index_or given.lengths.now c.loop-i.i 0)) at r.report) r.tallied);
      past = first.past ∙ here.past;
      serves = c.report-answer.ensures.still_serves;
    }

pub returns : goal.returns
returns c e p =
    let here = c.loop-i.invariant in
    let g = here.going e p in
    record {
      totals = record { rows = g.rows; night = going_all g (omega (arith, here.along.within)); counts = g.counts };
      past = here.past;
      same_cells = here.along.same_cells;
    }
