-- `sheet::text::each_line`, the loop's invariant: a line is put for each number before the index. Assumes nothing.
use Prim.Native.Nat.{◌+◌, ◌*◌, ◌≤◌}
use lib.ListN.{take}
use Rattle.meaning.specs.Sheet.{lines}
use Rattle.lines.specs.Puts.{Puts}
use Rattle.sheet.proofs.text.each_line.Given as goal

abbrev pub invariant-loop-n : goal.invariant-loop-n
invariant-loop-n l = record { puts : Puts l.initial.w (lines (take l.n-index l.row)) l.w; upper_bound : l.w.at ≤ l.initial.w.at + 21 * l.n-index }
