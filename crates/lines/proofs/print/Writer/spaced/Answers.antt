-- `lines::print::Writer::spaced` meets its contract. Assumes nothing.
use native.Mathlib.Omega.{arith}
use Rattle.laws.specs.Digits.{digits_length}
use Rattle.lines.proofs.PutsLaws.{puts_then}
use Rattle.lines.proofs.print.Writer.spaced.Goals as goal

pub returns-clause-puts : goal.returns-clause-puts
returns-clause-puts c = puts_then c.put.ensures c.decimal.ensures

pub returns-clause-upper_bound : goal.returns-clause-upper_bound
returns-clause-upper_bound c = omega (arith, digits_length 20 c.args.n)
