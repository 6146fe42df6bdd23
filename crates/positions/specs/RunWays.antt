-- Each run is a way, whether or not its goal can be reached, and so has no more tokens than one.
use Rattle.std.specs.Prelude.{◌≡◌, refl, Bool, true, false, ◌||◌, cond, List, ℕ, suc, ◌+◌, ◌*◌, ◌≤◌, ◌<◌, ltb, length}
use Rattle.std.proofs.lemmas.Bool.{false≢true}
use Rattle.std.proofs.Common.{arith, lt-ltb, le-ltb}
use Rattle.std.proofs.Math.Decide.{dec_lt}
use Rattle.meaning.specs.Expression.{Re, eps, pos, cat, alt, branch, star, plus, opt, marks, size}
use Rattle.meaning.specs.Tree.{opening, closing}
use Rattle.positions.specs.Parts.{Then, stay, over, Put, puts, into, past, close, Again, Opens, Turns}
use Rattle.positions.specs.Parts.{enter_cat_to, enter_branch_to, enter_plus_to, enter_star_to, enter_opt_to}
use Rattle.positions.specs.Parts.{resume_cat_to, resume_branch_to, resume_opt_to, resume_star_to, resume_plus_to}
use Rattle.positions.specs.Places.{In}
use Rattle.positions.specs.Positions.{Out, pass, at, Enter, e_eps, e_pos, e_left, e_right, Resume, r_pos, r_cat_right, r_left, r_right, at_pass}
use Rattle.positions.specs.Room.{spare, enter_room, resume_room}
use Rattle.positions.specs.Runs.{Run, run, row_of, out_of, and_then, put, also, closes, loop, enter_run, resume_run}
use Rattle.positions.specs.Tests.{nullable, leads, feasible, feasible_cat, feasible_right}
use Rattle.bits.specs.Truth.{or_left, or_else}

-- a run that can reach the goal passes only if it may
both_pass : (r s : Run) → out_of (and_then r s) ≡ pass → (out_of r ≡ pass) × (out_of s ≡ pass)
both_pass (run ρ (at q) w) s z = absurd (at_pass z)
both_pass (run ρ pass w) (run σ o v) z = (refl, z)

put_pass : (t : ℕ) (r : Run) → out_of (put t r) ≡ pass → out_of r ≡ pass
put_pass t (run ρ o w) z = z

also_pass : (c : Bool) (r : Run) → out_of (also c r) ≡ pass → out_of r ≡ pass
also_pass c (run ρ o w) z = z

loop_allowed : (m p : ℕ) (x : Re) (g : ℕ → Bool) (b : Bool) → (feasible p x g false ≡ true → out_of (enter_run (suc m) p x g false) ≡ pass → false ≡ true)
    → (leads p x g || b) ≡ true → out_of (loop m (leads p x g) b (enter_run (suc m) p x g false)) ≡ pass → b ≡ true
loop_allowed m p x g b r f z = go (leads p x g) refl z
  where
    go : (l : Bool) → leads p x g ≡ l → out_of (loop m l b (enter_run (suc m) p x g false)) ≡ pass → b ≡ true
    go true i z = absurd (false≢true (r (or_left _ i) (put_pass _ (enter_run (suc m) p x g false) (also_pass b (put (opening m) (enter_run (suc m) p x g false)) z))))
    go false i z = or_else (leads p x g) b f i

choice_allowed : (m p : ℕ) (x y : Re) (g : ℕ → Bool) (b : Bool) → feasible p (alt x y) g b ≡ true
    → (feasible p x g b ≡ true → out_of (enter_run m p x g b) ≡ pass → b ≡ true) → (feasible (p + size x) y g b ≡ true → out_of (enter_run (m + marks x) (p + size x) y g b) ≡ pass → b ≡ true)
    → out_of (cond (feasible p x g b) (also (feasible (p + size x) y g b) (enter_run m p x g b)) (enter_run (m + marks x) (p + size x) y g b)) ≡ pass → b ≡ true
choice_allowed m p x y g b f r s z = go (feasible p x g b) refl z
  where
    go : (l : Bool) → feasible p x g b ≡ l → out_of (cond l (also (feasible (p + size x) y g b) (enter_run m p x g b)) (enter_run (m + marks x) (p + size x) y g b)) ≡ pass → b ≡ true
    go true i z = r i (also_pass _ (enter_run m p x g b) z)
    go false i z = s (feasible_right p x y g b f i) z

pub pass_allowed : (m p : ℕ) (e : Re) (g : ℕ → Bool) (b : Bool) → feasible p e g b ≡ true → out_of (enter_run m p e g b) ≡ pass → b ≡ true
unfolding enter_run leads nullable
pass_allowed m p eps g b f z = f
pass_allowed m p (pos c) g b f z = absurd (at_pass z)
pass_allowed m p (cat x y) g b f z =
    let k = both_pass (enter_run m p x g (feasible (p + size x) y g b)) _ z in
    pass_allowed _ _ y g b (pass_allowed m p x g _ (feasible_cat p x y g b f) k.0) k.1
pass_allowed m p (alt x y) g b f z = choice_allowed m p x y g b f (pass_allowed m p x g b) (pass_allowed _ _ y g b) z
pass_allowed m p (branch x) g b f z = pass_allowed (suc m) p x g b f (put_pass _ (enter_run (suc m) p x g b) (both_pass (put (opening m) (enter_run (suc m) p x g b)) _ z).0)
pass_allowed m p (star x) g b f z = loop_allowed m p x g b (pass_allowed (suc m) p x g false) f z
pass_allowed m p (plus x) g b f z = pass_allowed (suc m) p x g b f (put_pass _ (enter_run (suc m) p x g b) (both_pass (put (opening m) (enter_run (suc m) p x g b)) _ z).0)
pass_allowed m p (opt x) g b f z = loop_allowed m p x g b (pass_allowed (suc m) p x g false) f z

-- runs put together are ways put together
then_way : {R S : List ℕ → Out → Type 0} (r s : Run) → R (row_of r) (out_of r) → S (row_of s) (out_of s) → Then R S (row_of (and_then r s)) (out_of (and_then r s))
then_way (run ρ (at q) w) s h i = stay h
then_way (run ρ pass w) (run σ o v) h i = over h i

put_way : {R : List ℕ → Out → Type 0} (t : ℕ) (r : Run) → R (row_of r) (out_of r) → Put t R (row_of (put t r)) (out_of (put t r))
put_way t (run ρ o w) h = puts h

loop_way : (m p : ℕ) (x : Re) (g : ℕ → Bool) (b : Bool) → Enter (suc m) p x (row_of (enter_run (suc m) p x g false)) (out_of (enter_run (suc m) p x g false))
    → Turns m p x (row_of (loop m (leads p x g) b (enter_run (suc m) p x g false))) (out_of (loop m (leads p x g) b (enter_run (suc m) p x g false)))
loop_way m p x g b h = go (leads p x g) refl (enter_run (suc m) p x g false) h (pass_allowed (suc m) p x g false)
  where
    go : (l : Bool) → leads p x g ≡ l → (r : Run) → Enter (suc m) p x (row_of r) (out_of r)
        → (feasible p x g false ≡ true → out_of r ≡ pass → false ≡ true) → Turns m p x (row_of (loop m l b r)) (out_of (loop m l b r))
    go true i (run ρ pass w) h z = absurd (false≢true (z (or_left _ i) refl))
    go true i (run ρ (at q) w) h z = into h
    go false i r h z = past

choice_way : (l c : Bool) (m p : ℕ) (x y : Re) (r s : Run) → Enter m p x (row_of r) (out_of r) → Enter (m + marks x) (p + size x) y (row_of s) (out_of s)
    → Enter m p (alt x y) (row_of (cond l (also c r) s)) (out_of (cond l (also c r) s))
choice_way true c m p x y (run ρ o w) s h i = e_left h
choice_way false c m p x y r s h i = e_right i

opens_way : (m p : ℕ) (x : Re) (r : Run) → Enter (suc m) p x (row_of r) (out_of r)
    → let turn = and_then (put (opening m) r) (closes m) in
    Opens m p x (row_of turn) (out_of turn)
opens_way m p x r h = then_way (put (opening m) r) (closes m) (put_way (opening m) r h) close

pub enter_run_way : (m p : ℕ) (e : Re) (g : ℕ → Bool) (b : Bool) → Enter m p e (row_of (enter_run m p e g b)) (out_of (enter_run m p e g b))
unfolding enter_run
enter_run_way m p eps g b = e_eps
enter_run_way m p (pos c) g b = e_pos
enter_run_way m p (cat x y) g b =
    let left = enter_run m p x g (feasible (p + size x) y g b) in
    let right = enter_run (m + marks x) (p + size x) y g b in
    enter_cat_to (then_way left right (enter_run_way m p x g _) (enter_run_way _ _ y g b))
enter_run_way m p (alt x y) g b =
    let left = enter_run m p x g b in
    let right = enter_run (m + marks x) (p + size x) y g b in
    choice_way (feasible p x g b) (feasible (p + size x) y g b) m p x y left right (enter_run_way m p x g b) (enter_run_way _ _ y g b)
enter_run_way m p (branch x) g b = enter_branch_to (opens_way m p x (enter_run (suc m) p x g b) (enter_run_way (suc m) p x g b))
enter_run_way m p (star x) g b = enter_star_to (loop_way m p x g b (enter_run_way (suc m) p x g false))
enter_run_way m p (plus x) g b = enter_plus_to (opens_way m p x (enter_run (suc m) p x g b) (enter_run_way (suc m) p x g b))
enter_run_way m p (opt x) g b = enter_opt_to (loop_way m p x g b (enter_run_way (suc m) p x g false))

again_way : (m p : ℕ) (x : Re) (g : ℕ → Bool) (b : Bool)
    → let again = put (closing m) (loop m (leads p x g) b (enter_run (suc m) p x g false)) in
    Again m p x (row_of again) (out_of again)
again_way m p x g b = put_way (closing m) (loop m (leads p x g) b (enter_run (suc m) p x g false)) (loop_way m p x g b (enter_run_way (suc m) p x g false))

-- from position j of x or of y
sides_way : (j n : ℕ) (R : List ℕ → Out → Type 0) (r s : Run) → (j < n → R (row_of r) (out_of r)) → (n ≤ j → R (row_of s) (out_of s)) → R (row_of (cond (ltb j n) r s)) (out_of (cond (ltb j n) r s))
sides_way j n R r s h i = elim (dec_lt j n) [ yes l ↦ rw (lt-ltb j n l) (h l) | no l ↦ let k : n ≤ j = omega arith in rw (le-ltb j n k) (i k) ]

pub resume_run_way : (m p : ℕ) (e : Re) (j : ℕ) (g : ℕ → Bool) (b : Bool) → In p e j → Resume m p e j (row_of (resume_run m p e j g b)) (out_of (resume_run m p e j g b))
unfolding resume_run size
resume_run_way m p eps j g b i = absurd (omega arith)
resume_run_way m p (pos c) j g b i = let k : j ≡ p = omega arith in rw k r_pos
resume_run_way m p (cat x y) j g b i = sides_way j (p + size x) (Resume m p (cat x y) j) _ (resume_run (m + marks x) (p + size x) y j g b)
    (λ l. resume_cat_to (then_way (resume_run m p x j g (feasible (p + size x) y g b)) (enter_run (m + marks x) (p + size x) y g b) (resume_run_way m p x j g _ (omega arith)) (enter_run_way _ _ y g b)))
    (λ l. r_cat_right (resume_run_way _ _ y j g b (omega arith)))
resume_run_way m p (alt x y) j g b i = sides_way j (p + size x) (Resume m p (alt x y) j) (resume_run m p x j g b) (resume_run (m + marks x) (p + size x) y j g b)
    (λ l. r_left (resume_run_way m p x j g b (omega arith))) (λ l. r_right (resume_run_way _ _ y j g b (omega arith)))
resume_run_way m p (branch x) j g b i = resume_branch_to (then_way (resume_run (suc m) p x j g b) (closes m) (resume_run_way (suc m) p x j g b i) close)
resume_run_way m p (star x) j g b i = resume_star_to (then_way (resume_run (suc m) p x j g (leads p x g || b)) _ (resume_run_way (suc m) p x j g _ i) (again_way m p x g b))
resume_run_way m p (plus x) j g b i = resume_plus_to (then_way (resume_run (suc m) p x j g (leads p x g || b)) _ (resume_run_way (suc m) p x j g _ i) (again_way m p x g b))
resume_run_way m p (opt x) j g b i = resume_opt_to (then_way (resume_run (suc m) p x j g b) (closes m) (resume_run_way (suc m) p x j g b i) close)

pub enter_run_room : (m p : ℕ) (e : Re) (g : ℕ → Bool) (b : Bool) → length (row_of (enter_run m p e g b)) ≤ 2 * marks e
enter_run_room m p e g b = enter_room (enter_run_way m p e g b)

pub resume_run_room : (m p : ℕ) (e : Re) (j : ℕ) (g : ℕ → Bool) (b : Bool) → In p e j → length (row_of (resume_run m p e j g b)) ≤ spare (out_of (resume_run m p e j g b)) (marks e)
resume_run_room m p e j g b i = resume_room (resume_run_way m p e j g b i)
