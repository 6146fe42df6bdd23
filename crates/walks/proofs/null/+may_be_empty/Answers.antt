-- `may_be_empty`: each part of a node stands below it, and the entry of a node comes from those of its parts.
use Rattle.std.proofs.Common.{refl, arith}
use Rattle.walks.specs.Tables.{leaf_null}
use Rattle.walks.proofs.Parts.{above_one, above_two, eight_kinds, empty_at, pos_at, pair_at, any_at, held_part, held_left, held_right}
use Rattle.walks.proofs.Fill.{set_put, walked_zero, walked_one, walked_two, right_one, right_left, right_right}
use Rattle.walks.proofs.Nulls.{flagged, null_at_zero, null_at_one, null_at_two}
use Rattle.walks.proofs.null.+may_be_empty.Goals as goal

pub returns-in-Eps : goal.returns-in-Eps
unfolding leaf_null
returns-in-Eps t c =
    let none = empty_at _ _ c.in-Eps.is (eight_kinds c.requires.held.holds) in
    walked_zero none (set_put _ _ _ _ (omega (arith, c.requires.held.within, c.told-null))) (null_at_zero none refl)

pub returns-in-Pos : goal.returns-in-Pos
unfolding leaf_null
returns-in-Pos t c =
    let none = pos_at _ _ c.in-Pos.is in
    walked_zero none (set_put _ _ _ _ (omega (arith, c.requires.held.within, c.told-null))) (null_at_zero none refl)

pub overflow_sub-right : goal.overflow_sub-right
overflow_sub-right t c = above_two (pair_at _ _ c.in-Cat.is) c.requires.held.holds

pub may_be_empty-requires-in-Cat : goal.may_be_empty-requires-in-Cat
may_be_empty-requires-in-Cat t c =
    let left = held_left c.requires.held (pair_at _ _ c.in-Cat.is) in
    (omega (arith, c.decreases, left.0), left.1)

pub may_be_empty-requires-in-Cat-2 : goal.may_be_empty-requires-in-Cat-2
may_be_empty-requires-in-Cat-2 t c =
    let right = held_right c.requires.held (pair_at _ _ c.in-Cat.is) in
    (omega (arith, c.decreases, right.0), right.1)

pub bounds-null-left : goal.bounds-null-left
bounds-null-left t c = omega (arith, (held_left c.requires.held (pair_at _ _ c.in-Cat.is)).1.within)

pub returns-in-Cat : goal.returns-in-Cat
returns-in-Cat t c =
    let held = c.requires.held in
    let pair = pair_at _ _ c.in-Cat.is in
    let by_left = c.may_be_empty-in-Cat.ensures in
    let by_right = c.may_be_empty-in-Cat-2.ensures in
    walked_two pair by_left by_right
    (set_put _ _ _ _ (omega (arith, held.within, c.may_be_empty-in-Cat-2.array_long)))
    (null_at_two pair
    (right_left held pair by_left by_right)
    (right_right held pair by_left by_right)
    (flagged c.from-in-Cat.ensures c.null_two.ensures))

pub overflow_sub-part : goal.overflow_sub-part
overflow_sub-part t c = above_one (any_at _ _ c.in-Branch.is) c.requires.held.holds

pub may_be_empty-requires : goal.may_be_empty-requires
may_be_empty-requires t c =
    let part = held_part c.requires.held (any_at _ _ c.in-Branch.is) in
    (omega (arith, c.decreases, part.0), part.1)

pub returns-in-Branch : goal.returns-in-Branch
returns-in-Branch t c =
    let held = c.requires.held in
    let one = any_at _ _ c.in-Branch.is in
    let by_part = c.may_be_empty.ensures in
    walked_one one by_part
    (set_put _ _ _ _ (omega (arith, held.within, c.may_be_empty.array_long)))
    (null_at_one one (right_one held one by_part) (flagged c.from.ensures c.null_one.ensures))
