-- `sheet::text::line` meets its contract. Assumes nothing.
use native.Mathlib.Omega.{arith}
use Rattle.laws.specs.Digits.{digits_length}
use Rattle.lines.proofs.PutsLaws.{puts_then}
use Rattle.sheet.proofs.text.line.Goals as goal

pub put-requires : goal.put-requires
put-requires c = omega (arith, digits_length 20 c.args.n, c.decimal.ensures.wrote.moved)

pub returns-clause-puts : goal.returns-clause-puts
returns-clause-puts c = puts_then c.decimal.ensures c.put.ensures

pub returns-clause-upper_bound : goal.returns-clause-upper_bound
returns-clause-upper_bound c = omega (arith, digits_length 20 c.args.n, c.decimal.ensures.wrote.moved, c.put.ensures.wrote.moved)
