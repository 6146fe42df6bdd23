-- `rows::tokens_in` meets its contract. Assumes nothing.
use Rattle.rows.proofs.FrontLaws.{from_on}
use Rattle.rows.proofs.RowLaws.{past_none, past_more}
use Rattle.rows.proofs.tokens_in.Goals as goal

pub loop-t-init : goal.loop-t-init
loop-t-init c = past_none _ _

pub loop-t-preserved : goal.loop-t-preserved
loop-t-preserved c =
    let token = c.in-Token in
    rw (c.put-n.ensures.0, from_on c.loop-t.rest.now token.k) (past_more c.loop-t.invariant token.t token.k (rw token.is at c.in_ok-t.ensures) c.put-n.ensures.1)
