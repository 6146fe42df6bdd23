-- `lines::print::Writer::tree_line` meets its contract. Assumes nothing.
use Rattle.meaning.specs.Desk.{tree_line}
use Rattle.lines.proofs.PutsLaws.{puts_then}
use Rattle.lines.proofs.print.Writer.tree_line.Goals as goal

pub returns-clause-puts : goal.returns-clause-puts
unfolding tree_line
returns-clause-puts c = puts_then c.word.ensures (puts_then c.tokens.ensures.puts c.put.ensures)
