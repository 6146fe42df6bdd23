-- `sheet::text::each_line` meets its contract. Assumes nothing.
use native.Mathlib.Omega.{arith}
use Rattle.meaning.specs.Sheet.{lines}
use Rattle.lines.proofs.PutsLaws.{puts_none}
use Rattle.sheet.proofs.TextLaws.{puts_more, lines_more}
use Rattle.sheet.proofs.text.each_line.Goals as goal

pub loop-n-init : goal.loop-n-init
unfolding lines
loop-n-init c = record { puts = puts_none _; upper_bound = omega arith }

pub loop-n-preserved : goal.loop-n-preserved
loop-n-preserved c =
    let l = c.loop-n in
    record {
      puts = puts_more (lines_more c.args.row.now l.n-index (omega arith)) l.invariant.puts (rw c.from.ensures at c.line.ensures.puts);
      upper_bound = omega arith;
    }
