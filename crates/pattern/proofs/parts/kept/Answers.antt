-- `kept` meets its contract. Assumes nothing.
use Rattle.pattern.proofs.Classes.{letter_some, letter_none, letter_kept}
use Rattle.pattern.proofs.parts.kept.Goals as goal

pub returns-in_err-letter : goal.returns-in_err-letter
returns-in_err-letter c = rw c.from_residual.ensures (λ left. letter_none _ c.letter.ensures c.in_err-letter.ensures.value)

pub returns : goal.returns
returns c = letter_kept (letter_some _ c.letter.ensures c.in_ok-letter.ensures.value) c.keep.ensures
