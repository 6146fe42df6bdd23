-- `lines::print::Writer::word` meets its contract. Assumes nothing.
use borrow.Author.Rules.{rules}
use Rattle.lines.proofs.PutsLaws.{puts_more}
use Rattle.lines.proofs.print.Writer.word.Goals as goal

pub loop-b-preserved : goal.loop-b-preserved
loop-b-preserved c = puts_more c.args.w.now c.loop-b.b-index (search rules) c.loop-b.invariant c.put.ensures
