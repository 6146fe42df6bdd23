-- `may_follow`: each part of a node stands below it, and what follows in a node comes from what follows in its parts.
use Rattle.std.proofs.Common.{◌≡◌, ℕ, ◌-◌, true, false, sym, ◌∙◌, get_or, arith}
use mathlib.Core.Bool.{or-false, and-true, and-false}
use Rattle.sets.specs.Members.{none}
use Rattle.walks.specs.Tables.{yes}
use Rattle.walks.specs.Follow.{last_of}
use Rattle.walks.proofs.Parts.{above_one, above_two, eight_kinds, empty_at, pos_at, cat_at, alt_at, star_plus_at, branch_opt_at, held_place, held_part, held_left, held_right}
use Rattle.walks.proofs.Fill.{set_put}
use Rattle.walks.proofs.Nulls.{yes_some, yes_none}
use Rattle.walks.proofs.Looks.{scanned_to}
use Rattle.walks.proofs.Follows.{follows_eps, follows_pos, follows_one, follows_two, next_cat, next_alt, next_again, next_once, last_cat, last_alt}
use Rattle.walks.proofs.guide.Guide.+may_follow.Goals as goal
use Rattle.walks.proofs.guide.Guide.+may_follow.Goals.{After-may_follow, then-self-right-ne0, else-self-right-ne0}

pub returns-in-Eps-clause-follows : goal.returns-in-Eps-clause-follows
returns-in-Eps-clause-follows t c = follows_eps (empty_at _ _ c.in-Eps.is (eight_kinds c.requires.held.holds))

pub bounds-follow-q : goal.bounds-follow-q
bounds-follow-q t c = held_place c.requires.held (pos_at _ _ c.in-Pos.is)

pub with-requires : goal.with-requires
with-requires t c = held_place c.requires.held (pos_at _ _ c.in-Pos.is)

pub returns-then-end-clause-follows : goal.returns-then-end-clause-follows
returns-then-end-clause-follows t c = follows_pos (pos_at _ _ c.in-Pos.is) (set_put none _ _ _ (omega (arith, held_place c.requires.held (pos_at _ _ c.in-Pos.is), c.told-follow))) (λ j. rw (c.if-end.true, and-true) (c.with.ensures j))

pub returns-else-end-clause-follows : goal.returns-else-end-clause-follows
returns-else-end-clause-follows t c = follows_pos (pos_at _ _ c.in-Pos.is) (set_put none _ _ _ (omega (arith, held_place c.requires.held (pos_at _ _ c.in-Pos.is), c.told-follow))) (λ j. rw (c.if-end.false, and-false) (sym (or-false _)))

pub overflow_sub-right : goal.overflow_sub-right
overflow_sub-right t c = above_two (cat_at _ _ c.in-Cat.is) c.requires.held.holds

pub may_follow-seen-requires : goal.may_follow-seen-requires
may_follow-seen-requires t c =
    let left = held_left c.requires.held (cat_at _ _ c.in-Cat.is) in
    (omega (arith, c.decreases, left.0), (left.1, scanned_to c.requires.scanned (omega (arith, left.0))))

pub may_follow-requires : goal.may_follow-requires
may_follow-requires t c =
    let right = held_right c.requires.held (cat_at _ _ c.in-Cat.is) in
    (omega (arith, c.decreases, right.0), (right.1, scanned_to c.requires.scanned (omega arith)))

-- the end may come after the left part where the right one may be passed
last_is : (t : ℕ) (c : After-may_follow t) → c.if-self-right-ne0.last ≡ last_of 2 (yes (get_or c.args.self.opens.now.null (c.args.i - 1) 0)) c.args.end
last_is t c =
    elim c.if-self-right-ne0.branch [
      | then-self-right-ne0 w ↦ w.last-is ∙ rw (yes_some w.if-self-right-ne0.true) (last_cat true c.args.end)
      | else-self-right-ne0 w ↦ w.last-is ∙ rw (yes_none w.if-self-right-ne0.false) (last_cat false c.args.end)
    ]

pub returns-after-self-right-ne0-clause-follows : goal.returns-after-self-right-ne0-clause-follows
returns-after-self-right-ne0-clause-follows t c =
    follows_two c.requires.scanned (λ q. c.coming-next.ensures q ∙ next_cat _ _ _) (cat_at _ _ c.in-Cat.is) (last_is t c)
    c.may_follow-seen.ensures.follows c.may_follow.ensures.follows

pub may_follow-seen-requires-in-Alt : goal.may_follow-seen-requires-in-Alt
may_follow-seen-requires-in-Alt t c =
    let left = held_left c.requires.held (alt_at _ _ c.in-Alt.is) in
    (omega (arith, c.decreases, left.0), (left.1, scanned_to c.requires.scanned (omega (arith, left.0))))

pub overflow_sub-i : goal.overflow_sub-i
overflow_sub-i t c = above_two (alt_at _ _ c.in-Alt.is) c.requires.held.holds

pub may_follow-requires-in-Alt : goal.may_follow-requires-in-Alt
may_follow-requires-in-Alt t c =
    let right = held_right c.requires.held (alt_at _ _ c.in-Alt.is) in
    (omega (arith, c.decreases, right.0), (right.1, scanned_to c.requires.scanned (omega arith)))

pub returns-in-Alt-clause-follows : goal.returns-in-Alt-clause-follows
returns-in-Alt-clause-follows t c =
    follows_two c.requires.scanned (λ q. next_alt _ _ _) (alt_at _ _ c.in-Alt.is) (last_alt _ _)
    c.may_follow-seen-in-Alt.ensures.follows c.may_follow-in-Alt.ensures.follows

pub overflow_sub-i-in-Star : goal.overflow_sub-i-in-Star
overflow_sub-i-in-Star t c = above_one (star_plus_at _ _ c.in-Star.is).0 c.requires.held.holds

pub overflow_sub-i-in-Star-2 : goal.overflow_sub-i-in-Star-2
overflow_sub-i-in-Star-2 t c = above_one (star_plus_at _ _ c.in-Star.is).0 c.requires.held.holds

pub may_follow-requires-in-Star : goal.may_follow-requires-in-Star
may_follow-requires-in-Star t c =
    let part = held_part c.requires.held (star_plus_at _ _ c.in-Star.is).0 in
    (omega (arith, c.decreases, part.0), (part.1, scanned_to c.requires.scanned (omega arith)))

pub returns-in-Star-clause-follows : goal.returns-in-Star-clause-follows
returns-in-Star-clause-follows t c =
    let again = star_plus_at _ _ c.in-Star.is in
    follows_one c.requires.scanned (λ q. c.union-next.ensures q ∙ next_again _ _ _ again.1) again.0 c.may_follow-in-Star.ensures.follows

pub overflow_sub-i-in-Branch : goal.overflow_sub-i-in-Branch
overflow_sub-i-in-Branch t c = above_one (branch_opt_at _ _ c.in-Branch.is).0 c.requires.held.holds

pub may_follow-requires-in-Branch : goal.may_follow-requires-in-Branch
may_follow-requires-in-Branch t c =
    let part = held_part c.requires.held (branch_opt_at _ _ c.in-Branch.is).0 in
    (omega (arith, c.decreases, part.0), (part.1, scanned_to c.requires.scanned (omega arith)))

pub returns-in-Branch-clause-follows : goal.returns-in-Branch-clause-follows
returns-in-Branch-clause-follows t c =
    let once = branch_opt_at _ _ c.in-Branch.is in
    follows_one c.requires.scanned (λ q. next_once _ _ _ once.1) once.0 c.may_follow-in-Branch.ensures.follows
