-- `lettered` meets its contract. Assumes nothing.
use Rattle.std.proofs.Common.{arith}
use Rattle.meaning.specs.Expression.{pos}
use Rattle.grammar.specs.Flat.{scan_bad, scan_letter}
use Rattle.pattern.proofs.Signs.{handed_up}
use Rattle.pattern.proofs.scan.lettered.Goals as goal

pub returns-in_err-letter : goal.returns-in_err-letter
returns-in_err-letter c =
    let due = c.requires.2 in
    rw (handed_up _ c.from_residual.ensures) (scan_bad c.requires.0 c.requires.1 due.no_close due.no_bar due.no_sign c.in_err-letter.ensures)

pub returns : goal.returns
returns c =
    let h = c.in_ok-letter.ensures in
    (scan_letter c.requires.0 {e = pos h.test} (omega (arith, h.on)) h.done, h.on)
