-- `lines::print::Writer::answer_line` meets its contract. Assumes nothing.
use Rattle.meaning.specs.Desk.{answer_line}
use Rattle.lines.proofs.PutsLaws.{puts_then}
use Rattle.lines.proofs.print.Writer.answer_line.Goals as goal

pub returns-clause-puts : goal.returns-clause-puts
unfolding answer_line
returns-clause-puts c =
    let from-flag = puts_then c.spaced-3.ensures.puts c.put.ensures in
    puts_then c.word.ensures (puts_then c.spaced.ensures.puts (puts_then c.spaced-2.ensures.puts from-flag))
