-- How many tokens a tree has, and how many stand between two letters.
use Rattle.std.specs.Prelude.{◌≡◌, List, ℕ, suc, ◌+◌, ◌*◌, ◌≤◌, ◌<◌, max, length}
use Rattle.std.proofs.Common.{arith, mul-add, add-mul, suc-mul, mul-le-mul_left, length-append}
use Rattle.meaning.specs.Expression.{Re, eps, pos, cat, alt, branch, star, plus, opt, marks}
use Rattle.meaning.specs.Tree.{Some, some, Tree, t_eps, t_pos, t_cat, t_left, t_right, t_branch, t_none, t_turn, t_once, t_more, t_skip, t_take}
use Rattle.meaning.specs.Limits.{room_for}
use Rattle.positions.specs.Positions.{Out, pass, at}
use Rattle.positions.specs.Positions.{Enter, e_eps, e_pos, e_cat_in, e_cat_over, e_left, e_right}
use Rattle.positions.specs.Positions.{e_branch_in, e_branch_over, e_star_in, e_star_over, e_plus_in, e_plus_over, e_opt_in, e_opt_over}
use Rattle.positions.specs.Positions.{Resume, r_pos, r_cat_in, r_cat_over, r_cat_right, r_left, r_right}
use Rattle.positions.specs.Positions.{r_branch_in, r_branch_out, r_star_in, r_star_out, r_star_again, r_plus_in, r_plus_out, r_plus_again, r_opt_in, r_opt_out}

-- the length of a row
most_cat : (k k' l l' n n' : ℕ) → n ≤ room_for k l → n' ≤ room_for k' l' → n + n' ≤ room_for (k + k') (l + l')
most_cat k k' l l' n n' h h' =
    let left = mul-le-mul_left {m = max l 1} {n = max (l + l') 1} k (omega arith) in
    let right = mul-le-mul_left {m = max l' 1} {n = max (l + l') 1} k' (omega arith) in
    omega (arith, add-mul k k' (max (l + l') 1), left, right)

most_alt : (k k' l n : ℕ) → n ≤ room_for k l → n ≤ room_for (k + k') l
most_alt k k' l n h = omega (arith, add-mul k k' (max l 1))

most_alt' : (k k' l n : ℕ) → n ≤ room_for k' l → n ≤ room_for (k + k') l
most_alt' k k' l n h = omega (arith, add-mul k k' (max l 1))

most_turn : (k l n : ℕ) → n ≤ room_for k l → suc n + 1 ≤ room_for (suc k) l
most_turn k l n h = omega (arith, suc-mul k (max l 1))

-- in turns each of which has text, `max l 1` is `l`
most_turns : (k l l' n n' : ℕ) → 0 < l → n ≤ room_for k l → n' ≤ l' + 2 * (suc k * l') → suc n + 1 + n' ≤ (l + l') + 2 * (suc k * (l + l'))
most_turns k l l' n n' p h h' =
    let e : max l 1 ≡ l = omega arith in
    omega (arith, mul-add (suc k) l l', suc-mul k l, rw e at h)

most_star : (k l n : ℕ) → n ≤ l + 2 * (suc k * l) → n ≤ room_for (suc k) l
most_star k l n h = omega (arith, mul-le-mul_left {m = l} {n = max l 1} (suc k) (omega arith))

some_length : {s : List ℕ} → Some s → 0 < length s
some_length some = omega arith

star_length : {m : ℕ} {x : Re} (f : (s r : List ℕ) → Tree (suc m) x s r → length r ≤ room_for (marks x) (length s)) {s r : List ℕ}
    → Tree m (star x) s r → length r ≤ length s + 2 * (suc (marks x) * length s)
star_length f t_none = omega arith
star_length {x = x} f (t_turn {s₁ = s} {s₂ = s'} {r₁ = r} {r₂ = r'} n t u) =
    simp length-append (most_turns (marks x) (length s) (length s') (length r) (length r') (some_length n) (f _ _ t) (star_length f u))

pub row_length : (e : Re) (m : ℕ) (s r : List ℕ) → Tree m e s r → length r ≤ room_for (marks e) (length s)
unfolding marks
row_length eps m s r t_eps = omega arith
row_length (pos c) m s r (t_pos _) = omega arith
row_length (cat x y) m s r (t_cat {s₁ = s₁} {s₂ = s₂} {r₁ = r₁} {r₂ = r₂} t u) =
    let left = row_length x m s₁ r₁ t in
    let right = row_length y (m + marks x) s₂ r₂ u in
    simp length-append (most_cat (marks x) (marks y) (length s₁) (length s₂) (length r₁) (length r₂) left right)
row_length (alt x y) m s r (t_left t) = most_alt (marks x) (marks y) _ _ (row_length x _ _ _ t)
row_length (alt x y) m s r (t_right t) = most_alt' (marks x) (marks y) _ _ (row_length y _ _ _ t)
row_length (branch x) m s _ (t_branch {r = r} t) = simp length-append (most_turn (marks x) (length s) (length r) (row_length x _ _ _ t))
row_length (star x) m s r t = most_star (marks x) _ _ (star_length (row_length x (suc m)) t)
row_length (plus x) m s r (t_once t) = simp length-append (most_turn (marks x) (length s) _ (row_length x _ _ _ t))
row_length (plus x) m s r (t_more n t n' u) = most_star (marks x) _ _ (star_length (row_length x (suc m)) (t_turn n t u))
row_length (opt x) m s r t_skip = omega arith
row_length (opt x) m s r (t_take n t) = simp length-append (most_turn (marks x) (length s) _ (row_length x _ _ _ t))

-- between two letters: a mark is opened and closed at most once on the way into e, and on the way out of it; a way on to a position may go
-- out of a turn and into the next one
abbrev pub spare : Out → ℕ → ℕ
spare pass k = 2 * k
spare (at q) k = 4 * k

spare_of : (o : Out) (k : ℕ) {n : ℕ} → n ≤ 2 * k → n ≤ spare o k
spare_of pass k h = h
spare_of (at q) k h = omega arith

pub spare_most : (o : Out) (k : ℕ) → spare o k ≤ 4 * k
spare_most pass k = omega arith
spare_most (at q) k = omega arith

spare_wider : (o : Out) {n k k' : ℕ} → n ≤ spare o k → k ≤ k' → n ≤ spare o k'
spare_wider pass h l = omega arith
spare_wider (at q) h l = omega arith

pub enter_room : {m p : ℕ} {e : Re} {ρ : List ℕ} {o : Out} → Enter m p e ρ o → length ρ ≤ 2 * marks e
unfolding marks
enter_room e_eps = omega arith
enter_room e_pos = omega arith
enter_room (e_cat_in w) = let h = enter_room w in omega arith
enter_room (e_cat_over w u) = let h = enter_room w in let i = enter_room u in simp length-append (omega arith)
enter_room (e_left w) = let h = enter_room w in omega arith
enter_room (e_right w) = let h = enter_room w in omega arith
enter_room (e_branch_in w) = let h = enter_room w in omega arith
enter_room (e_branch_over w) = let h = enter_room w in simp length-append (omega arith)
enter_room (e_star_in w) = let h = enter_room w in omega arith
enter_room e_star_over = omega arith
enter_room (e_plus_in w) = let h = enter_room w in omega arith
enter_room (e_plus_over w) = let h = enter_room w in simp length-append (omega arith)
enter_room (e_opt_in w) = let h = enter_room w in omega arith
enter_room e_opt_over = omega arith

pub resume_room : {m p j : ℕ} {e : Re} {ρ : List ℕ} {o : Out} → Resume m p e j ρ o → length ρ ≤ spare o (marks e)
unfolding marks
resume_room r_pos = omega arith
resume_room (r_cat_in w) = let h = resume_room w in omega arith
resume_room (r_cat_over {o = o} w u) = let h = resume_room w in let i = enter_room u in simp length-append (spare_of o _ (omega arith))
resume_room (r_cat_right {o = o} w) = spare_wider o (resume_room w) (omega arith)
resume_room (r_left {o = o} w) = spare_wider o (resume_room w) (omega arith)
resume_room (r_right {o = o} w) = spare_wider o (resume_room w) (omega arith)
resume_room (r_branch_in w) = let h = resume_room w in omega arith
resume_room (r_branch_out w) = let h = resume_room w in simp length-append (omega arith)
resume_room (r_star_in w) = let h = resume_room w in omega arith
resume_room (r_star_out w) = let h = resume_room w in simp length-append (omega arith)
resume_room (r_star_again w u) = let h = resume_room w in let i = enter_room u in simp length-append (omega arith)
resume_room (r_plus_in w) = let h = resume_room w in omega arith
resume_room (r_plus_out w) = let h = resume_room w in simp length-append (omega arith)
resume_room (r_plus_again w u) = let h = resume_room w in let i = enter_room u in simp length-append (omega arith)
resume_room (r_opt_in w) = let h = resume_room w in omega arith
resume_room (r_opt_out w) = let h = resume_room w in simp length-append (omega arith)
