-- `passes::masks::masks`, the loop's invariant: the positions before position q joined the rows of their bytes. Assumes nothing.
use Rattle.passes.specs.Masks.{Masked}
use Rattle.passes.proofs.masks.masks.Given as goal

abbrev pub invariant-loop-q : goal.invariant-loop-q
invariant-loop-q l = Masked l.fn.class l.q l.initial.mask l.mask
