-- `passes::backward::backward`, the loop's invariant: the cells from i on are done, whatever positions may be the last, and what is kept is
-- right. Assumes nothing.
use Rattle.std.proofs.Common.{length, ◌≡◌, List}
use Rattle.sets.specs.declared.set.Set.{Set}
use Rattle.sets.specs.Members.{held}
use Rattle.passes.specs.Ways.{Memo, Preceding}
use Rattle.passes.proofs.Rests.{Going}
use Rattle.passes.proofs.backward.backward.Given as goal

abbrev pub invariant-loop-i : goal.invariant-loop-i
invariant-loop-i l =
    (length l.cells ≡ length l.initial.cells) × Memo l.mask l.pre l.memo
    × ((follow : List Set) (ends : Set) (first : List Set) → Preceding follow l.pre → Going l.mask follow ends l.text first (held l.initial.cells) l.initial.next l.last → Going l.mask follow ends l.text first (held l.cells) l.next l.i)
