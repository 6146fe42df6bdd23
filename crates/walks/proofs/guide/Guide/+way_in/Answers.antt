-- The walk into a node: each part stands below it, and the run of a node comes from the runs of its parts.
use Rattle.std.proofs.Common.{refl, arith}
use borrow.Author.Rules.{rules}
use Rattle.walks.proofs.Parts.{above_one, above_two, eight_kinds, empty_at, pos_at, cat_at, alt_at, star_opt_of, branch_plus_of}
use Rattle.walks.proofs.Looks.{scanned_to}
use Rattle.walks.proofs.Entering.{ready_mark, ready_put, ready_part, ready_close, ready_left, ready_alt, ready_on}
use Rattle.walks.proofs.Entering.{enters_eps, enters_pos, enters_loop, enters_turn, enters_cat, enters_left, enters_right, turns_in, turns_none}
use Rattle.walks.proofs.guide.Guide.+way_in.Goals as goal

pub enter-returns-in-Eps : goal.enter-returns-in-Eps
enter-returns-in-Eps t c = enters_eps _ _ c.requires.scanned (empty_at _ _ c.in-Eps.is (eight_kinds c.requires.ready.holds))

pub enter-returns-in-Pos : goal.enter-returns-in-Pos
enter-returns-in-Pos t c = enters_pos _ _ c.requires.scanned (pos_at _ _ c.in-Pos.is)

pub enter-overflow_sub-i : goal.enter-overflow_sub-i
enter-overflow_sub-i t c = above_two (cat_at _ _ c.in-Cat.is) c.requires.ready.holds

pub enter-overflow_sub-i-in-Cat : goal.enter-overflow_sub-i-in-Cat
enter-overflow_sub-i-in-Cat t c = above_two (cat_at _ _ c.in-Cat.is) c.requires.ready.holds

pub enter-enter-s-requires : goal.enter-enter-s-requires
enter-enter-s-requires t c =
    let left = ready_left c.requires.ready (cat_at _ _ c.in-Cat.is) in
    (omega (arith, c.decreases, left.0), (left.1, scanned_to c.requires.scanned (omega (arith, left.0))))

pub enter-on-requires : goal.enter-on-requires
enter-on-requires t c =
    let ready = c.requires.ready in
    let pair = cat_at _ _ c.in-Cat.is in (
      omega (arith, c.decreases, above_two pair ready.holds),
      (ready_on ready pair c.enter-s.ensures, scanned_to c.requires.scanned (omega arith)),
    )

pub enter-returns-in-Cat : goal.enter-returns-in-Cat
enter-returns-in-Cat t c =
    enters_cat _ _ c.requires.scanned (cat_at _ _ c.in-Cat.is) c.open_to-more.ensures refl c.enter-s.ensures c.on.ensures

pub enter-overflow_sub-right : goal.enter-overflow_sub-right
enter-overflow_sub-right t c = above_two (alt_at _ _ c.in-Alt.is) c.requires.ready.holds

pub enter-open_to-requires : goal.enter-open_to-requires
enter-open_to-requires t c =
    let left = ready_left c.requires.ready (alt_at _ _ c.in-Alt.is) in
    (omega (arith, left.1.within, c.requires.scanned.long), left.1.within)

pub enter-enter-requires : goal.enter-enter-requires
enter-enter-requires t c =
    let left = ready_left c.requires.ready (alt_at _ _ c.in-Alt.is) in
    (omega (arith, c.decreases, left.0), (left.1, scanned_to c.requires.scanned (omega (arith, left.0))))

pub enter-returns-then-open_to : goal.enter-returns-then-open_to
enter-returns-then-open_to t c =
    enters_left _ _ c.requires.scanned (alt_at _ _ c.in-Alt.is) c.open_to-other.ensures refl
    c.open_to.ensures c.if-open_to.true c.enter.ensures c.also.ensures

pub enter-enter-requires-else-open_to : goal.enter-enter-requires-else-open_to
enter-enter-requires-else-open_to t c =
    let ready = c.requires.ready in
    let pair = alt_at _ _ c.in-Alt.is in (
      omega (arith, c.decreases, above_two pair ready.holds),
      (ready_alt ready pair, scanned_to c.requires.scanned (omega arith)),
    )

pub enter-returns-else-open_to : goal.enter-returns-else-open_to
enter-returns-else-open_to t c =
    enters_right _ _ c.requires.scanned (alt_at _ _ c.in-Alt.is) c.open_to-other.ensures refl
    c.open_to.ensures c.if-open_to.false c.enter-else-open_to.ensures

pub enter-overflow_sub-i-in-Star : goal.enter-overflow_sub-i-in-Star
enter-overflow_sub-i-in-Star t c = above_one (star_opt_of c.args.self.pattern.now.node c.args.i {mark = c.in-Star.mark} (search rules)).0 c.requires.ready.holds

pub enter-turn-requires : goal.enter-turn-requires
enter-turn-requires t c =
    let ready = c.requires.ready in
    let one = (star_opt_of c.args.self.pattern.now.node c.args.i {mark = c.in-Star.mark} (search rules)).0 in (
      omega (arith, c.decreases, above_one one ready.holds),
      (ready_part ready one _ refl, scanned_to c.requires.scanned (omega arith)),
    )

pub enter-returns-in-Star : goal.enter-returns-in-Star
enter-returns-in-Star t c =
    let one = star_opt_of c.args.self.pattern.now.node c.args.i {mark = c.in-Star.mark} (search rules) in
    enters_loop _ _ c.requires.scanned one.0 one.1 c.turn.ensures

pub enter-put-b-requires : goal.enter-put-b-requires
enter-put-b-requires t c = ready_put c.requires.ready (branch_plus_of _ _ c.in-Branch.is).0

pub enter-overflow_sub-i-in-Branch : goal.enter-overflow_sub-i-in-Branch
enter-overflow_sub-i-in-Branch t c = above_one (branch_plus_of _ _ c.in-Branch.is).0 c.requires.ready.holds

pub enter-enter-s-requires-in-Branch : goal.enter-enter-s-requires-in-Branch
enter-enter-s-requires-in-Branch t c =
    let ready = c.requires.ready in
    let one = (branch_plus_of _ _ c.in-Branch.is).0 in (
      omega (arith, c.decreases, above_one one ready.holds),
      (ready_part ready one _ c.put-b.ensures.0, scanned_to c.requires.scanned (omega arith)),
    )

pub enter-close-requires : goal.enter-close-requires
enter-close-requires t c =
    let one = (branch_plus_of _ _ c.in-Branch.is).0 in
    (ready_close c.requires.ready one c.put-b.ensures.0 c.enter-s-in-Branch.ensures, ready_mark c.requires.ready one)

pub enter-returns-in-Branch : goal.enter-returns-in-Branch
enter-returns-in-Branch t c =
    let one = branch_plus_of _ _ c.in-Branch.is in
    enters_turn _ _ c.requires.scanned one.0 one.1 c.put-b.ensures.0 c.put-b.ensures.1 c.enter-s-in-Branch.ensures c.close.ensures

pub turn-returns-then-goes : goal.turn-returns-then-goes
turn-returns-then-goes t c =
    turns_in _ _ c.requires.scanned c.goes.ensures c.if-goes.true c.put-b.ensures.0 c.put-b.ensures.1 c.enter.ensures c.also.ensures

pub turn-returns-else-goes : goal.turn-returns-else-goes
turn-returns-else-goes t c = turns_none _ _ c.requires.scanned c.goes.ensures c.if-goes.false
