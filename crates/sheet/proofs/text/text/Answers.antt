-- `sheet::text::text` meets its contract. Assumes nothing.
use borrow.Author.Rules.{rules}
use Rattle.lines.proofs.PutsLaws.{puts_wrote}
use Rattle.sheet.proofs.TextLaws.{puts_sheet}
use Rattle.sheet.proofs.text.text.Goals as goal

pub returns : goal.returns
returns c =
    let put =
    puts_sheet c.args.numbers.now c.args.figures.now c.args.last.now c.line.ensures.puts c.each_line.ensures.puts c.line-2.ensures.puts c.each_mark.ensures.puts c.line-3.ensures.puts
    c.each_change.ensures in
    let wrote = puts_wrote c.new-w.ensures.row c.new-w.ensures.front put (search rules) in
    rw c.len.ensures wrote
