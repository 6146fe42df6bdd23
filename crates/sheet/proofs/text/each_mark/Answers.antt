-- `sheet::text::each_mark` meets its contract. Assumes nothing.
use native.Mathlib.Omega.{arith}
use Rattle.meaning.specs.Sheet.{mark_lines}
use Rattle.lines.proofs.PutsLaws.{puts_none}
use Rattle.sheet.proofs.TextLaws.{puts_more, marks_more}
use Rattle.sheet.proofs.text.each_mark.Goals as goal

pub loop-of_mark-init : goal.loop-of_mark-init
unfolding mark_lines
loop-of_mark-init c = record { puts = puts_none _; upper_bound = omega arith }

pub loop-of_mark-preserved : goal.loop-of_mark-preserved
loop-of_mark-preserved c =
    let l = c.loop-of_mark in
    record {
      puts = puts_more (marks_more c.args.figures.now l.of_mark-index (omega arith)) l.invariant.puts c.mark_lines.ensures.puts;
      upper_bound = omega arith;
    }
