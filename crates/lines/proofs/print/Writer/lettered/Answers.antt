-- `lines::print::Writer::lettered` meets its contract. Assumes nothing.
use Rattle.lines.proofs.PutsLaws.{puts_then}
use Rattle.lines.proofs.print.Writer.lettered.Goals as goal

pub returns : goal.returns
returns c = puts_then c.put.ensures (puts_then c.put-2.ensures c.decimal.ensures)
