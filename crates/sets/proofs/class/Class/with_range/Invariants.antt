-- `sets::class::Class::with_range`, the loop's invariant: the class has the bytes from c on that are below b. Assumes nothing.
use Rattle.std.proofs.Common.{◌≡◌, ◌&&◌, ◌||◌, ℕ, ◌+◌, ◌≤◌, max, leb, ltb}
use Rattle.sets.specs.Classes.{among}
use Rattle.sets.proofs.class.Class.with_range.Given as goal

abbrev pub invariant-loop-b : goal.invariant-loop-b
invariant-loop-b l = (l.b ≤ max l.c (l.d + 1)) × ((q : ℕ) → among l.r q ≡ (among l.initial.r q || (leb l.c q && ltb q l.b)))
