-- `rows::number_in`: what the loop keeps.
use Rattle.rows.proofs.NumberLaws.{Sofar}
use Rattle.rows.proofs.number_in.Given as goal

abbrev pub invariant-loop-b : goal.invariant-loop-b
invariant-loop-b l = Sofar l.s l.v l.b-index
