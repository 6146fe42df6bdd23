-- `single` meets its contract. Assumes nothing.
use Rattle.pattern.proofs.Steps.{letter_read}
use Rattle.pattern.proofs.parts.single.Goals as goal

pub returns-in_err-next : goal.returns-in_err-next
returns-in_err-next c = λ left. rw c.from_residual.ensures (c.in_err-next.ensures left)

pub returns : goal.returns
returns c = λ left. letter_read c.in_ok-next.ensures c.position.ensures.became c.position.ensures.put
