-- `turns::turns`, the loop's invariant: what is left, and what stands behind it. Assumes nothing.
use Rattle.turns.proofs.Counts.{Left}
use Rattle.turns.proofs.turns.Given as goal

abbrev pub invariant-loop-token : goal.invariant-loop-token
invariant-loop-token l = Left l.mark l.row l.token-iterator.iter.rest.now l.behind
