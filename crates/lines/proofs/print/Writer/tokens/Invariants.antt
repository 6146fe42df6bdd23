-- `lines::print::Writer::tokens`: what the loop keeps.
use Prim.Native.Nat.{◌+◌, ◌*◌, ◌≤◌}
use lib.ListN.{take}
use Rattle.meaning.specs.Desk.{tokens}
use Rattle.lines.specs.Puts.{Puts}
use Rattle.lines.proofs.print.Writer.tokens.Given as goal

abbrev pub invariant-loop-t : goal.invariant-loop-t
invariant-loop-t l = record {
  puts : Puts l.initial.self (tokens (take l.t-index l.row)) l.self;
  upper_bound : l.self.at ≤ l.initial.self.at + 7 * l.t-index;
}
