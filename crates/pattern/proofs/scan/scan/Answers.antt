-- `scan` meets its contract. The loop's invariant: the machine has read the row up to `c`. Assumes nothing.
use Rattle.std.proofs.Common.{arith}
use Rattle.grammar.specs.Flat.{scan_start}
use Rattle.pattern.proofs.scan.scan.Goals as goal

pub loop-c-init : goal.loop-c-init
loop-c-init c = (scan_start, omega arith)
