-- `sheet::text::each_mark`, the loop's invariant: the lines are put of each mark before the index. Assumes nothing.
use Prim.Native.Nat.{◌+◌, ◌*◌, ◌≤◌}
use lib.ListN.{take}
use Rattle.meaning.specs.Sheet.{mark_lines}
use Rattle.lines.specs.Puts.{Puts}
use Rattle.sheet.proofs.text.each_mark.Given as goal

abbrev pub invariant-loop-of_mark : goal.invariant-loop-of_mark
invariant-loop-of_mark l = record { puts : Puts l.initial.w (mark_lines (take l.of_mark-index l.figures)) l.w; upper_bound : l.w.at ≤ l.initial.w.at + 63 * l.of_mark-index }
