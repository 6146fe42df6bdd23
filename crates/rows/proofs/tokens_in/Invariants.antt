-- `rows::tokens_in`: what the loop keeps, and what falls in it.
use lib.ListN.{length}
use Rattle.rows.proofs.RowLaws.{Past}
use Rattle.rows.proofs.tokens_in.Given as goal

abbrev pub invariant-loop-t : goal.invariant-loop-t
invariant-loop-t l = Past l.s l.initial.room l.rest l.n l.room

abbrev pub decreases-loop-t : goal.decreases-loop-t
decreases-loop-t l = length l.rest
