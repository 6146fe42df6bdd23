-- `lines::print::Writer::tokens` meets its contract. Assumes nothing.
use borrow.Author.Rules.{rules}
use Rattle.meaning.specs.Desk.{tokens}
use Rattle.lines.proofs.PutsLaws.{puts_none, puts_tokens}
use Rattle.lines.proofs.print.Writer.tokens.Goals as goal

pub loop-t-init : goal.loop-t-init
unfolding tokens
loop-t-init c = record { puts = puts_none _; upper_bound = search rules }

pub loop-t-preserved : goal.loop-t-preserved
loop-t-preserved c = record {
  puts = puts_tokens c.args.row.now c.loop-t.t-index (search rules) c.loop-t.invariant.puts c.token.ensures.puts;
  upper_bound = search rules;
}
