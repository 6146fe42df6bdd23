-- `lines::desk::desk_lines` meets its contract. Assumes nothing.
use borrow.Author.Rules.{rules}
use Rattle.lines.proofs.AnswerLaws.{desked}
use Rattle.lines.proofs.desk.desk_lines.Goals as goal

pub returns : goal.returns
returns c = desked c.args.input.now c.min-n.result c.min-n.ensures c.parted.ensures (search rules)
