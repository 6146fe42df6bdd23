-- `passes::place::place`, the loop's invariant: i bytes, and those that can be read from `next` on, are the result. Assumes nothing.
use Rattle.std.proofs.Common.{◌≡◌, ◌+◌, drop}
use Rattle.sets.specs.Members.{has}
use Rattle.passes.specs.Ways.{readable}
use Rattle.passes.proofs.place.place.Given as goal

abbrev pub invariant-loop-i : goal.invariant-loop-i
invariant-loop-i l = readable l.mask l.follow (has l.initial.next) l.text ≡ l.i + readable l.mask l.follow (has l.next) (drop l.i l.text)
