-- `tally::wraps` meets its contract. Assumes nothing.
use borrow.Author.Tests.{eqb-true}
use Rattle.tally.proofs.Shorts.{short_turn}
use Rattle.tally.proofs.wraps.Goals as goal

pub returns-then-byte-eq1 : goal.returns-then-byte-eq1
returns-then-byte-eq1 c = λ e z. short_turn c.args.row.now c.args.at c.args.mark c.requires c.in-len3-up.len_at_least c.if-byte-eq1.true (eqb-true _ _ e) z
