-- `passes::reverse::reverse`, the loop's invariant: the positions below q joined. Assumes nothing.
use Rattle.passes.specs.Ways.{Reversed}
use Rattle.passes.proofs.reverse.reverse.Given as goal

abbrev pub invariant-loop-q : goal.invariant-loop-q
invariant-loop-q l = Reversed l.follow l.q l.initial.pre l.pre
