-- `lines::print::Writer::word`: what the loop keeps.
use lib.ListN.{take}
use Rattle.lines.specs.Puts.{Puts}
use Rattle.lines.proofs.print.Writer.word.Given as goal

abbrev pub invariant-loop-b : goal.invariant-loop-b
invariant-loop-b l = Puts l.initial.self (take l.b-index l.w) l.self
