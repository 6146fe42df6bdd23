-- A number in decimal: the measure is the number.
use Rattle.lines.proofs.print.Writer.+decimal.Given as goal

abbrev pub decreases-decimal : goal.decreases-decimal
decreases-decimal l = l.n
