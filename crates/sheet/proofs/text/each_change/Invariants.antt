-- `sheet::text::each_change`, the loop's invariant: the change is put of each mark that the iterator has given. Assumes nothing.
use Prim.Native.Nat.{◌+◌, ◌*◌, ◌≤◌}
use lib.ListN.{length, take}
use Rattle.meaning.specs.Sheet.{change_lines}
use Rattle.lines.specs.Puts.{Puts}
use Rattle.sheet.proofs.text.each_change.Given as goal

abbrev pub invariant-loop-tonight : goal.invariant-loop-tonight
invariant-loop-tonight l =
    let n = length l.yielded in
    record { puts : Puts l.initial.w (change_lines (take n l.figures) (take n l.last)) l.w; upper_bound : l.w.at ≤ l.initial.w.at + 22 * n }
