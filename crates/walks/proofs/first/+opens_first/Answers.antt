-- `opens_first`: each part of a node stands below it, and both entries of a node come from those of its parts.
use Rattle.std.proofs.Common.{refl, arith}
use Rattle.sets.specs.Members.{none}
use Rattle.walks.specs.Tables.{leaf_first, leaf_end}
use Rattle.walks.proofs.Parts.{above_one, above_two, eight_kinds, empty_at, pos_at, pair_at, any_at, held_place, held_part, held_left, held_right}
use Rattle.walks.proofs.Fill.{set_put, walked_zero, walked_one, walked_two, right_one, right_left, right_right}
use Rattle.walks.proofs.Firsts.{first_at_zero, first_at_one, first_at_two, end_at_zero, end_at_one, end_at_two}
use Rattle.walks.proofs.first.+opens_first.Goals as goal

pub of-requires : goal.of-requires
of-requires t c = held_place c.requires.held (pos_at _ _ c.in-Pos.is)

pub returns-in-Eps-clause-walked_first : goal.returns-in-Eps-clause-walked_first
unfolding leaf_first
returns-in-Eps-clause-walked_first t c =
    let bare = empty_at _ _ c.in-Eps.is (eight_kinds c.requires.held.holds) in
    walked_zero bare (set_put none _ _ _ (omega (arith, c.requires.held.within, c.told-first))) (first_at_zero bare c.empty.ensures.members)

pub returns-in-Eps-clause-walked_upto : goal.returns-in-Eps-clause-walked_upto
unfolding leaf_end
returns-in-Eps-clause-walked_upto t c =
    let bare = empty_at _ _ c.in-Eps.is (eight_kinds c.requires.held.holds) in
    walked_zero bare (set_put _ _ _ _ (omega (arith, c.requires.held.within, c.told-upto))) (end_at_zero bare refl)

pub returns-in-Pos-clause-walked_first : goal.returns-in-Pos-clause-walked_first
unfolding leaf_first
returns-in-Pos-clause-walked_first t c =
    let bare = pos_at _ _ c.in-Pos.is in
    walked_zero bare (set_put none _ _ _ (omega (arith, c.requires.held.within, c.told-first))) (first_at_zero bare c.of.ensures)

pub returns-in-Pos-clause-walked_upto : goal.returns-in-Pos-clause-walked_upto
unfolding leaf_end
returns-in-Pos-clause-walked_upto t c =
    let bare = pos_at _ _ c.in-Pos.is in
    walked_zero bare (set_put _ _ _ _ (omega (arith, c.requires.held.within, c.told-upto))) (end_at_zero bare refl)

pub overflow_sub-right : goal.overflow_sub-right
overflow_sub-right t c = above_two (pair_at _ _ c.in-Cat.is) c.requires.held.holds

pub overflow_sub-i : goal.overflow_sub-i
overflow_sub-i t c = above_one (any_at _ _ c.in-Branch.is) c.requires.held.holds

pub overflow_sub-first : goal.overflow_sub-first
overflow_sub-first t c = above_one (any_at _ _ c.in-Branch.is) c.requires.held.holds

pub overflow_sub-upto : goal.overflow_sub-upto
overflow_sub-upto t c = above_one (any_at _ _ c.in-Branch.is) c.requires.held.holds

pub overflow_add-upto : goal.overflow_add-upto
overflow_add-upto t c = omega (arith, held_place c.requires.held (pos_at _ _ c.in-Pos.is))

pub opens_first-requires-in-Cat : goal.opens_first-requires-in-Cat
opens_first-requires-in-Cat t c =
    let left = held_left c.requires.held (pair_at _ _ c.in-Cat.is) in
    (omega (arith, c.decreases, left.0), (left.1, λ j h. c.requires.known j (omega (arith, left.0))))

pub opens_first-requires-in-Cat-2 : goal.opens_first-requires-in-Cat-2
opens_first-requires-in-Cat-2 t c =
    let right = held_right c.requires.held (pair_at _ _ c.in-Cat.is) in
    (omega (arith, c.decreases, right.0), (right.1, λ j h. c.requires.known j (omega (arith, right.0))))

pub bounds-first-left : goal.bounds-first-left
bounds-first-left t c = (held_left c.requires.held (pair_at _ _ c.in-Cat.is)).1.within

pub bounds-null-left : goal.bounds-null-left
bounds-null-left t c = (held_left c.requires.held (pair_at _ _ c.in-Cat.is)).1.within

pub bounds-upto-left : goal.bounds-upto-left
bounds-upto-left t c = (held_left c.requires.held (pair_at _ _ c.in-Cat.is)).1.within

pub returns-in-Cat-clause-walked_first : goal.returns-in-Cat-clause-walked_first
returns-in-Cat-clause-walked_first t c =
    let held = c.requires.held in
    let pair = pair_at _ _ c.in-Cat.is in
    let by_left = c.opens_first-in-Cat.ensures.walked_first in
    let by_right = c.opens_first-in-Cat-2.ensures.walked_first in
    walked_two pair by_left by_right
    (set_put none _ _ _ (omega (arith, c.opens_first-in-Cat-2.ensures.long, held.within)))
    (first_at_two pair
    (c.requires.known _ (omega (arith, (held_left held pair).0)))
    (right_left held pair by_left by_right)
    (right_right held pair by_left by_right)
    c.first_two.ensures)

pub returns-in-Cat-clause-walked_upto : goal.returns-in-Cat-clause-walked_upto
returns-in-Cat-clause-walked_upto t c =
    let held = c.requires.held in
    let pair = pair_at _ _ c.in-Cat.is in
    let by_left = c.opens_first-in-Cat.ensures.walked_upto in
    let by_right = c.opens_first-in-Cat-2.ensures.walked_upto in
    walked_two pair by_left by_right
    (set_put _ _ _ _ (omega (arith, held.within, c.opens_first-in-Cat-2.array_long2)))
    (end_at_two pair
    (right_left held pair by_left by_right)
    (right_right held pair by_left by_right)
    c.end_two.ensures)

pub opens_first-requires : goal.opens_first-requires
opens_first-requires t c =
    let part = held_part c.requires.held (any_at _ _ c.in-Branch.is) in
    (omega (arith, c.decreases, part.0), (part.1, λ j h. c.requires.known j (omega (arith, part.0))))

pub returns-in-Branch-clause-walked_first : goal.returns-in-Branch-clause-walked_first
returns-in-Branch-clause-walked_first t c =
    let one = any_at _ _ c.in-Branch.is in
    let firsts = c.opens_first.ensures.walked_first in
    walked_one one firsts (set_put none _ _ _ (omega (arith, c.opens_first.ensures.long, c.requires.held.within))) (first_at_one one (right_one c.requires.held one firsts))

pub returns-in-Branch-clause-walked_upto : goal.returns-in-Branch-clause-walked_upto
returns-in-Branch-clause-walked_upto t c =
    let held = c.requires.held in
    let one = any_at _ _ c.in-Branch.is in
    let ends = c.opens_first.ensures.walked_upto in
    walked_one one ends (set_put _ _ _ _ (omega (arith, held.within, c.opens_first.array_long2))) (end_at_one one (right_one held one ends))
