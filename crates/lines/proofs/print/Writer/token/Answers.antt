-- `lines::print::Writer::token` meets its contract. Assumes nothing.
use native.Mathlib.Omega.{arith}
use Rattle.lines.proofs.DeskLaws.{token_opens, token_closes, token_byte}
use Rattle.lines.proofs.PutsLaws.{puts_token}
use Rattle.lines.proofs.print.Writer.token.Goals as goal

pub returns-in-0-to-127 : goal.returns-in-0-to-127
returns-in-0-to-127 c =
    let t = c.args.t in
    let p = puts_token t _ (omega arith) (token_opens t (omega arith)) c.lettered.ensures in
    record { puts = p.0; upper_bound = p.1 }

pub returns-in-128-to-255 : goal.returns-in-128-to-255
returns-in-128-to-255 c =
    let t = c.args.t in
    let p = puts_token t _ (omega arith) (token_closes t (omega arith) (omega arith)) c.lettered-in-128-to-255.ensures in
    record { puts = p.0; upper_bound = p.1 }

pub returns-in_default : goal.returns-in_default
returns-in_default c =
    let t = c.args.t in
    let p = puts_token t _ (omega arith) (token_byte t (omega arith)) c.lettered-in_default.ensures in
    record { puts = p.0; upper_bound = p.1 }
