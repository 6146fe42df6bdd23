-- `passes::masks::mark`, the loop's invariant: the position joined the rows of the bytes in the words before word w. Assumes nothing.
use Rattle.passes.proofs.Upto.{Brought}
use Rattle.passes.proofs.masks.mark.Given as goal

abbrev pub invariant-loop-w : goal.invariant-loop-w
invariant-loop-w l = Brought l.class l.q l.w l.initial.mask l.mask
