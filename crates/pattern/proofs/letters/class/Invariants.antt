-- `class` meets its contract. The loop's invariant: ranges were read from `from` up to `at`, and the class holds their bytes. Assumes nothing.
use Prim.Native.Nat.{◌-◌}
use lib.ListN.{length}
use Rattle.grammar.specs.ClassContract.{RangesDone}
use Rattle.pattern.specs.Letters.{LetterTo}
use Rattle.pattern.proofs.letters.class.Given as goal

abbrev pub invariant-loop-at : goal.invariant-loop-at
invariant-loop-at l = LetterTo RangesDone l.p l.from l.at l.class

abbrev pub decreases-loop-at : goal.decreases-loop-at
decreases-loop-at l = length l.p - l.at
