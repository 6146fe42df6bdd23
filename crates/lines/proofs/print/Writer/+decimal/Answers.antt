-- A number in decimal: the measure is the number. Assumes nothing.
use native.Mathlib.Omega.{arith}
use Rattle.lines.proofs.DeskLaws.{digits_tenth}
use Rattle.lines.proofs.PutsLaws.{puts_digit, puts_digits}
use Rattle.lines.proofs.print.Writer.+decimal.Goals as goal
use Rattle.lines.proofs.print.Writer.+decimal.Goals.{then-n-ge10, else-n-ge10}

pub put-requires : goal.put-requires
put-requires t c = elim c.if-n-ge10.branch [
  | then-n-ge10 w ↦ rw w.self-is (omega (arith, digits_tenth c.args.n (omega arith), w.decimal.ensures.wrote.moved))
  | else-n-ge10 w ↦ rw w.self-is (omega arith)
]

pub returns : goal.returns
returns t c = elim c.if-n-ge10.branch [
  | then-n-ge10 w ↦ puts_digits c.args.n (omega arith) (omega arith) w.decimal.ensures (rw w.self-is at c.put.ensures)
  | else-n-ge10 w ↦ puts_digit c.args.n (omega arith) (rw w.self-is at c.put.ensures)
]
