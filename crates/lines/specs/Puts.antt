-- Bytes put behind those that a writer has put. Assumes nothing: these are definitions.
use Rattle.std.specs.Prelude.{◌≡◌, List, ℕ}
use Rattle.lines.specs.declared.print.Writer.{Writer}
use Rattle.lines.specs.Wrote.{Wrote}

-- w became w': l is put behind what was put before, into the same lent row
pub record Puts (w : Writer) (l : List ℕ) (w' : Writer) : Type 0 where
  pub wrote : Wrote w.out.now w.at l w'.out.now w'.at
  pub same : w'.out.ghost_name ≡ w.out.ghost_name
