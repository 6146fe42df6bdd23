-- `wrong` meets its contract. Assumes nothing.
use Rattle.std.proofs.Common.{arith}
use Rattle.pattern.proofs.Whole.{no_pattern, too_deep}
use Rattle.pattern.proofs.wrong.Goals as goal

pub returns-in-Ok : goal.returns-in-Ok
returns-in-Ok c = too_deep c.requires.0 c.in-Ok.ensures c.requires.1

pub returns-in-Err : goal.returns-in-Err
returns-in-Err c = no_pattern c.requires.0 (λ i l. omega (arith, c.type_inv.pattern i)) c.in-Err.ensures
