-- The runs that the walks of the code make: what they write, where they end, and whether there was another way.
use Rattle.std.specs.Prelude.{◌≡◌, refl, Bool, false, ◌||◌, cond, List, [], ◌∷◌, ◌++◌, ℕ, suc, ◌+◌, ltb}
use Rattle.meaning.specs.Expression.{Re, eps, pos, cat, alt, branch, star, plus, opt, marks, size}
use Rattle.meaning.specs.Tree.{opening, closing}
use Rattle.positions.specs.Positions.{Out, pass, at}
use Rattle.positions.specs.Sets.{leads_same}
use Rattle.positions.specs.Tests.{leads, feasible}

-- what a walk writes, where it ends, and whether there was another way
pub data Run : Type 0 where
  run : List ℕ → Out → Bool → Run

abbrev pub row_of : Run → List ℕ
row_of (run ρ o w) = ρ

abbrev pub out_of : Run → Out
out_of (run ρ o w) = o

abbrev pub other_of : Run → Bool
other_of (run ρ o w) = w

-- s, where r passed
abbrev pub and_then : Run → Run → Run
and_then (run ρ (at q) w) s = run ρ (at q) w
and_then (run ρ pass w) (run σ o v) = run (ρ ++ σ) o (w || v)

-- the token t, and then r
abbrev pub put : ℕ → Run → Run
put t (run ρ o w) = run (t ∷ ρ) o w

-- there is another way too if c
abbrev pub also : Bool → Run → Run
also c (run ρ o w) = run ρ o (w || c)

-- the end of a turn; nothing
abbrev pub closes : ℕ → Run
closes m = run (closing m ∷ []) pass false

abbrev pub through : Run
through = run [] pass false

-- a turn if l, and if b there is the way without it too
abbrev pub loop : ℕ → Bool → Bool → Run → Run
loop m l b r = cond l (also b (put (opening m) r)) through

-- into e, to a position of the goal g or, if b, past e
unfoldable pub enter_run : ℕ → ℕ → Re → (ℕ → Bool) → Bool → Run
enter_run m p eps g b = through
enter_run m p (pos c) g b = run [] (at p) false
enter_run m p (cat x y) g b = and_then (enter_run m p x g (feasible (p + size x) y g b)) (enter_run (m + marks x) (p + size x) y g b)
enter_run m p (alt x y) g b = cond (feasible p x g b) (also (feasible (p + size x) y g b) (enter_run m p x g b)) (enter_run (m + marks x) (p + size x) y g b)
enter_run m p (branch x) g b = and_then (put (opening m) (enter_run (suc m) p x g b)) (closes m)
enter_run m p (star x) g b = loop m (leads p x g) b (enter_run (suc m) p x g false)
enter_run m p (plus x) g b = and_then (put (opening m) (enter_run (suc m) p x g b)) (closes m)
enter_run m p (opt x) g b = loop m (leads p x g) b (enter_run (suc m) p x g false)

-- on from position j of e
unfoldable pub resume_run : ℕ → ℕ → Re → ℕ → (ℕ → Bool) → Bool → Run
resume_run m p eps j g b = through
resume_run m p (pos c) j g b = through
resume_run m p (cat x y) j g b =
    cond (ltb j (p + size x))
    (and_then (resume_run m p x j g (feasible (p + size x) y g b)) (enter_run (m + marks x) (p + size x) y g b))
    (resume_run (m + marks x) (p + size x) y j g b)
resume_run m p (alt x y) j g b = cond (ltb j (p + size x)) (resume_run m p x j g b) (resume_run (m + marks x) (p + size x) y j g b)
resume_run m p (branch x) j g b = and_then (resume_run (suc m) p x j g b) (closes m)
resume_run m p (star x) j g b = and_then (resume_run (suc m) p x j g (leads p x g || b)) (put (closing m) (loop m (leads p x g) b (enter_run (suc m) p x g false)))
resume_run m p (plus x) j g b = and_then (resume_run (suc m) p x j g (leads p x g || b)) (put (closing m) (loop m (leads p x g) b (enter_run (suc m) p x g false)))
resume_run m p (opt x) j g b = and_then (resume_run (suc m) p x j g b) (closes m)

-- runs to the same goal
pub enter_run_same : (m p : ℕ) (e : Re) (g g' : ℕ → Bool) (b : Bool) → ((q : ℕ) → g q ≡ g' q) → enter_run m p e g b ≡ enter_run m p e g' b
unfolding enter_run
enter_run_same m p eps g g' b s = refl
enter_run_same m p (pos c) g g' b s = refl
enter_run_same m p (cat x y) g g' b s = rw (leads_same (p + size x) y g g' s, enter_run_same m p x g g' (feasible (p + size x) y g' b) s, enter_run_same (m + marks x) (p + size x) y g g' b s)
enter_run_same m p (alt x y) g g' b s = rw (leads_same p x g g' s, leads_same (p + size x) y g g' s, enter_run_same m p x g g' b s, enter_run_same (m + marks x) (p + size x) y g g' b s)
enter_run_same m p (branch x) g g' b s = rw (enter_run_same (suc m) p x g g' b s)
enter_run_same m p (star x) g g' b s = rw (leads_same p x g g' s, enter_run_same (suc m) p x g g' false s)
enter_run_same m p (plus x) g g' b s = rw (enter_run_same (suc m) p x g g' b s)
enter_run_same m p (opt x) g g' b s = rw (leads_same p x g g' s, enter_run_same (suc m) p x g g' false s)

pub resume_run_same : (m p : ℕ) (e : Re) (j : ℕ) (g g' : ℕ → Bool) (b : Bool) → ((q : ℕ) → g q ≡ g' q) → resume_run m p e j g b ≡ resume_run m p e j g' b
unfolding resume_run
resume_run_same m p eps j g g' b s = refl
resume_run_same m p (pos c) j g g' b s = refl
resume_run_same m p (cat x y) j g g' b s =
    let left = resume_run_same m p x j g g' (feasible (p + size x) y g' b) s in
    let entered = enter_run_same (m + marks x) (p + size x) y g g' b s in
    let right = resume_run_same (m + marks x) (p + size x) y j g g' b s in
    rw (leads_same (p + size x) y g g' s, left, entered, right)
resume_run_same m p (alt x y) j g g' b s = rw (resume_run_same m p x j g g' b s, resume_run_same (m + marks x) (p + size x) y j g g' b s)
resume_run_same m p (branch x) j g g' b s = rw (resume_run_same (suc m) p x j g g' b s)
resume_run_same m p (star x) j g g' b s = rw (leads_same p x g g' s, resume_run_same (suc m) p x j g g' (leads p x g' || b) s, enter_run_same (suc m) p x g g' false s)
resume_run_same m p (plus x) j g g' b s = rw (leads_same p x g g' s, resume_run_same (suc m) p x j g g' (leads p x g' || b) s, enter_run_same (suc m) p x g g' false s)
resume_run_same m p (opt x) j g g' b s = rw (resume_run_same (suc m) p x j g g' b s)
