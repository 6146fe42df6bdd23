-- The walk on from a position: the part that has it stands below its node, and the run of a node comes from the runs of its parts.
use Rattle.std.proofs.Common.{refl, arith}
use Rattle.walks.proofs.Parts.{above_one, above_two, eight_kinds, leaf_of_eight, cat_at, alt_at, star_plus_of, branch_opt_of}
use Rattle.walks.proofs.Resuming.{asked_to, placed_mark, placed_part, placed_close, placed_again, placed_left, placed_on}
use Rattle.walks.proofs.Resuming.{resumes_leaf, resumes_again, resumes_close, resumes_left, resumes_cat}
use Rattle.walks.proofs.Spines.{spine_resumes, held_at, left_below, left_ends, left_has}
use Rattle.walks.proofs.guide.Guide.+resume.Goals as goal

pub returns-in-Eps : goal.returns-in-Eps
returns-in-Eps t c =
    let r = c.requires in
    let h = c.holder-n.ensures.holder in
    spine_resumes r.known r.placed h.spine (resumes_leaf _ _ (leaf_of_eight _ _ c.in-Eps.is (eight_kinds (held_at r.known r.placed h).holds)))

pub overflow_sub-right : goal.overflow_sub-right
overflow_sub-right t c = above_two (cat_at _ _ c.in-Cat.is) (held_at c.requires.known c.requires.placed c.holder-n.ensures.holder).holds

pub resume-s-requires : goal.resume-s-requires
resume-s-requires t c =
    let r = c.requires in
    let h = c.holder-n.ensures.holder in
    let pair = cat_at _ _ c.in-Cat.is in
    let below = left_below r.known r.placed h pair in (
      omega (arith, c.decreases, below),
      (
        placed_left (held_at r.known r.placed h) pair (left_ends r.known r.placed h pair) (left_has r.known r.placed h pair),
        asked_to _ r.scanned r.known (omega (arith, below)),
      ),
    )

pub on-requires-clause-ready : goal.on-requires-clause-ready
on-requires-clause-ready t c =
    let r = c.requires in
    let h = c.holder-n.ensures.holder in
    let pair = cat_at _ _ c.in-Cat.is in
    placed_on (held_at r.known r.placed h) pair (left_ends r.known r.placed h pair) (left_has r.known r.placed h pair) c.resume-s.ensures

pub on-requires-clause-scanned : goal.on-requires-clause-scanned
on-requires-clause-scanned t c = (asked_to _ c.requires.scanned c.requires.known (omega (arith, c.holder-n.ensures.below))).0

pub returns-in-Cat : goal.returns-in-Cat
returns-in-Cat t c =
    let r = c.requires in
    let h = c.holder-n.ensures.holder in
    let pair = cat_at _ _ c.in-Cat.is in
    spine_resumes r.known r.placed h.spine
    (resumes_cat _ _ pair (left_ends r.known r.placed h pair) (left_has r.known r.placed h pair)
    (asked_to _ r.scanned r.known c.holder-n.ensures.below).0
    refl
    c.open_to-more.ensures
    c.resume-s.ensures
    c.on.ensures)

pub resume-requires : goal.resume-requires
resume-requires t c =
    let r = c.requires in
    let h = c.holder-n.ensures.holder in
    let pair = alt_at _ _ c.in-Alt.is in
    let below = left_below r.known r.placed h pair in (
      omega (arith, c.decreases, below),
      (
        placed_left (held_at r.known r.placed h) pair (left_ends r.known r.placed h pair) (left_has r.known r.placed h pair),
        asked_to _ r.scanned r.known (omega (arith, below)),
      ),
    )

pub returns-in-Alt : goal.returns-in-Alt
returns-in-Alt t c =
    let r = c.requires in
    let h = c.holder-n.ensures.holder in
    let pair = alt_at _ _ c.in-Alt.is in
    spine_resumes r.known r.placed h.spine (resumes_left _ _ pair (left_ends r.known r.placed h pair) (left_has r.known r.placed h pair) refl c.resume.ensures)

pub overflow_sub-n : goal.overflow_sub-n
overflow_sub-n t c =
    above_one (branch_opt_of _ _ c.in-Branch.is).0 (held_at c.requires.known c.requires.placed c.holder-n.ensures.holder).holds

pub resume-s-requires-in-Branch : goal.resume-s-requires-in-Branch
resume-s-requires-in-Branch t c =
    let r = c.requires in
    let held = held_at r.known r.placed c.holder-n.ensures.holder in
    let one = (branch_opt_of _ _ c.in-Branch.is).0 in (
      omega (arith, c.decreases, above_one one held.holds, c.holder-n.ensures.below),
      (placed_part held one, asked_to _ r.scanned r.known (omega (arith, c.holder-n.ensures.below))),
    )

pub close-requires : goal.close-requires
close-requires t c =
    let held = held_at c.requires.known c.requires.placed c.holder-n.ensures.holder in
    let one = (branch_opt_of _ _ c.in-Branch.is).0 in
    (placed_close held one c.resume-s-in-Branch.ensures, placed_mark held one)

pub returns-in-Branch : goal.returns-in-Branch
returns-in-Branch t c =
    let one = branch_opt_of _ _ c.in-Branch.is in
    spine_resumes c.requires.known c.requires.placed c.holder-n.ensures.holder.spine (resumes_close _ _ one.0 one.1 c.resume-s-in-Branch.ensures c.close.ensures)

pub overflow_sub-part : goal.overflow_sub-part
overflow_sub-part t c =
    above_one (star_plus_of _ _ c.in-Star.is).0 (held_at c.requires.known c.requires.placed c.holder-n.ensures.holder).holds

pub resume-s-requires-in-Star : goal.resume-s-requires-in-Star
resume-s-requires-in-Star t c =
    let r = c.requires in
    let held = held_at r.known r.placed c.holder-n.ensures.holder in
    let one = (star_plus_of _ _ c.in-Star.is).0 in (
      omega (arith, c.decreases, above_one one held.holds, c.holder-n.ensures.below),
      (placed_part held one, asked_to _ r.scanned r.known (omega (arith, c.holder-n.ensures.below))),
    )

pub again-requires-clause-ready : goal.again-requires-clause-ready
again-requires-clause-ready t c =
    let held = held_at c.requires.known c.requires.placed c.holder-n.ensures.holder in
    let one = (star_plus_of _ _ c.in-Star.is).0 in
    (placed_again held one c.resume-s-in-Star.ensures, placed_mark held one)

pub again-requires-clause-scanned : goal.again-requires-clause-scanned
again-requires-clause-scanned t c = (asked_to _ c.requires.scanned c.requires.known (omega (arith, c.holder-n.ensures.below))).0

pub returns-in-Star : goal.returns-in-Star
returns-in-Star t c =
    let r = c.requires in
    let one = star_plus_of _ _ c.in-Star.is in
    spine_resumes r.known r.placed c.holder-n.ensures.holder.spine
    (resumes_again _ _ one.0 one.1 (asked_to _ r.scanned r.known c.holder-n.ensures.below).0 c.goes_or-more.ensures c.resume-s-in-Star.ensures c.again.ensures)
