-- `along::lay::copy` meets its contract. The loop's invariant: the first i tokens are copied. Assumes nothing.
use Rattle.along.specs.Rows.{Laid}
use Rattle.along.proofs.lay.copy.Given as goal

abbrev pub invariant-loop-i : goal.invariant-loop-i
invariant-loop-i l = Laid l.pool l.initial.tree l.tree l.from l.i l.at 0
