-- `sheet::text::mark_lines` meets its contract. Assumes nothing.
use Rattle.lines.proofs.PutsLaws.{puts_then}
use Rattle.sheet.proofs.text.mark_lines.Goals as goal

pub returns-clause-puts : goal.returns-clause-puts
returns-clause-puts c = puts_then c.line.ensures.puts (puts_then c.line-2.ensures.puts c.line-3.ensures.puts)
