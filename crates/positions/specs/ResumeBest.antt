-- The run that goes on from a position is the first of the ways on, and says exactly whether there is another.
use Rattle.std.specs.Prelude.{◌≡◌, Bool, true, false, ◌||◌, List, [], ℕ, suc, ◌+◌, ◌≤◌, ◌<◌}
use Rattle.std.proofs.Math.Logic.{inl, inr}
use Rattle.std.proofs.Common.{arith, lt-ltb, le-ltb}
use Rattle.meaning.specs.Expression.{Re, pos, cat, alt, marks, size}
use Rattle.meaning.specs.Tree.{closing}
use Rattle.grammar.specs.Fair.{Fair, f_eps, f_pos, f_cat, f_alt, f_branch, f_star, f_plus, f_opt}
use Rattle.positions.specs.Best.{Above, v_cons, Best, best_ways, best_put, best_wider, best_then}
use Rattle.positions.specs.EnterBest.{enter_above, only, best_close, close_above, close_full, Entered, loop_best, enter_best}
use Rattle.positions.specs.Parts.{Then, stay, over, Put, puts, into, past, Again, Closes, Repeats, Leaves}
use Rattle.positions.specs.Parts.{resume_cat_to, resume_cat_of, resume_cat_right, resume_left, resume_right, cat_side, alt_side, no_eps, pos_one}
use Rattle.positions.specs.Parts.{resume_branch_to, resume_branch_of, resume_opt_to, resume_opt_of, resume_star_to, resume_star_of, resume_plus_to, resume_plus_of}
use Rattle.positions.specs.Positions.{Out, pass, Resume, r_pos, r_cat_right, r_left, r_right}
use Rattle.positions.specs.Runs.{Run, and_then, put, closes, loop, enter_run, resume_run}
use Rattle.positions.specs.Tests.{Ok, ok_at, ok_pass, ok_stays, Can, leads, feasible, leads_full, feasible_full}
use Rattle.bits.specs.Truth.{or_left, or_right}

can_ways : {R S : List ℕ → Out → Type 0} {g : ℕ → Bool} {b : Bool} → ((ρ : List ℕ) (o : Out) → R ρ o → S ρ o) → Can R g b → Can S g b
can_ways to (ρ, o, w, h) = (ρ, o, to ρ o w, h)

then_can : {R S : List ℕ → Out → Type 0} {g : ℕ → Bool} {b f : Bool} → ((τ : List ℕ) (o : Out) → S τ o → Ok g b o → f ≡ true) → Can (Then R S) g b → Can R g f
then_can {R} {S} {g} {b} {f} full s = go s.2 s.3
  where
    go : {ρ : List ℕ} {o : Out} → Then R S ρ o → Ok g b o → Can R g f
    go (stay w) h = (_, _, w, ok_stays f h)
    go (over w u) h = (_, _, w, ok_pass (full _ _ u h))

-- the best of the same ways
like : {m k : ℕ} {R S : List ℕ → Out → Type 0} {g : ℕ → Bool} {b : Bool} {r : Run} → ((ρ : List ℕ) (o : Out) → R ρ o → S ρ o) → ((ρ : List ℕ) (o : Out) → S ρ o → R ρ o)
    → (Can R g b → Best m k R g b r) → Can S g b → Best m k S g b r
like to from B s = best_ways to from (B (can_ways from s))

put_above : {t n : ℕ} {R : List ℕ → Out → Type 0} {τ : List ℕ} {o : Out} → n < t → Put t R τ o → Above n τ
put_above h (puts w) = v_cons h

again_full : {m p : ℕ} {x : Re} {τ : List ℕ} {o : Out} {g : ℕ → Bool} {b : Bool} → Again m p x τ o → Ok g b o → (leads p x g || b) ≡ true
again_full {g = g} (puts (into w)) (ok_at h) = or_left _ (leads_full g w h)
again_full {p = p} {x = x} {g = g} (puts past) (ok_pass h) = or_right (leads p x g) h

-- what is to be shown of e
abbrev pub Resumed : ℕ → ℕ → Re → Type 0
Resumed m p e = (j : ℕ) (g : ℕ → Bool) (b : Bool) → Can (Resume m p e j) g b → Best m (marks e) (Resume m p e j) g b (resume_run m p e j g b)

module _ (m p : ℕ) (x y : Re) (h : m + (marks x + marks y) ≤ 127) (f : Resumed m p x) (f' : Resumed (m + marks x) (p + size x) y) (j : ℕ) (g : ℕ → Bool) (b : Bool) where
  abbrev k : ℕ
  k = marks x + marks y

  leaves_best : Entered (m + marks x) (p + size x) y → Can (Leaves m p x y j) g b
      → Best m k (Leaves m p x y j) g b (and_then (resume_run m p x j g (feasible (p + size x) y g b)) (enter_run (m + marks x) (p + size x) y g b))
  leaves_best d s = best_then _ _ (omega arith, omega arith, omega arith) (λ τ o w. enter_above w) (λ τ o w i. feasible_full w i)
      (f j g (feasible (p + size x) y g b) (then_can (λ τ o w i. feasible_full w i) s)) (λ i. best_wider (omega arith) (omega arith) (d g b i))

  left_best : Can (Resume m p x j) g b → Best m k (Resume m p x j) g b (resume_run m p x j g b)
  left_best s = best_wider (omega arith) (omega arith) (f j g b s)

  right_best : Can (Resume (m + marks x) (p + size x) y j) g b → Best m k (Resume (m + marks x) (p + size x) y j) g b (resume_run (m + marks x) (p + size x) y j g b)
  right_best s = best_wider (omega arith) (omega arith) (f' j g b s)

  cat_best : Entered (m + marks x) (p + size x) y → Can (Resume m p (cat x y) j) g b → Best m k (Resume m p (cat x y) j) g b (resume_run m p (cat x y) j g b)
  unfolding resume_run
  cat_best d s = elim (cat_side s.2) [
    | inl i ↦ rw (lt-ltb j (p + size x) i.1) (like (λ ρ o w. resume_cat_to w) (λ ρ o w. resume_cat_of i w) (leaves_best d) s)
    | inr i ↦ rw (le-ltb j (p + size x) i.0) (like (λ ρ o w. r_cat_right w) (λ ρ o w. resume_cat_right i w) right_best s)
  ]

  alt_best : Can (Resume m p (alt x y) j) g b → Best m k (Resume m p (alt x y) j) g b (resume_run m p (alt x y) j g b)
  unfolding resume_run
  alt_best s = elim (alt_side s.2) [
    | inl i ↦ rw (lt-ltb j (p + size x) i.1) (like (λ ρ o w. r_left w) (λ ρ o w. resume_left i w) left_best s)
    | inr i ↦ rw (le-ltb j (p + size x) i.0) (like (λ ρ o w. r_right w) (λ ρ o w. resume_right i w) right_best s)
  ]

module _ (m p : ℕ) (x : Re) (h : m + suc (marks x) ≤ 127) (f : Resumed (suc m) p x) (j : ℕ) (g : ℕ → Bool) (b : Bool) where
  closes_best : Can (Closes m p x j) g b → Best m (suc (marks x)) (Closes m p x j) g b (and_then (resume_run (suc m) p x j g b) (closes m))
  closes_best s = best_then _ _ (omega arith, omega arith, omega arith) (λ τ o w. close_above _ (omega arith) w) (λ τ o w i. close_full w i)
      (f j g b (then_can (λ τ o w i. close_full w i) s)) (λ i. best_close m _ _ i)

  repeats_best : Entered (suc m) p x → Can (Repeats m p x j) g b
      → Best m (suc (marks x)) (Repeats m p x j) g b (and_then (resume_run (suc m) p x j g (leads p x g || b)) (put (closing m) (loop m (leads p x g) b (enter_run (suc m) p x g false))))
  repeats_best d s = best_then _ _ (omega arith, omega arith, omega arith) (λ τ o w. put_above (omega arith) w) (λ τ o w i. again_full w i)
      (f j g (leads p x g || b) (then_can (λ τ o w i. again_full w i) s)) (λ i. best_put (closing m) _ (loop_best m p x h d g b i))

pos_here : {m p j : ℕ} {c : ℕ → Bool} {ρ : List ℕ} {o : Out} {g : ℕ → Bool} {b : Bool} → Resume m p (pos c) j ρ o → Ok g b o → Resume m p (pos c) j [] pass × (b ≡ true)
pos_here r_pos (ok_pass h) = (r_pos, h)

pub resume_best : {e : Re} → Fair e → (m p : ℕ) → m + marks e ≤ 127 → Resumed m p e
unfolding resume_run marks
resume_best f_eps m p h j g b s = absurd (no_eps s.2)
resume_best f_pos m p h j g b s = let k = pos_here s.2 s.3 in only _ _ _ _ k.0 (ok_pass k.1) (λ σ o w. pos_one w)
resume_best (f_cat {x = x} {y = y} f f') m p h j g b s = cat_best m p x y h (resume_best f m p (omega arith)) (resume_best f' _ _ (omega arith)) j g b (enter_best f' _ _ (omega arith)) s
resume_best (f_alt {x = x} {y = y} k k' f f') m p h j g b s = alt_best m p x y h (resume_best f m p (omega arith)) (resume_best f' _ _ (omega arith)) j g b s
resume_best (f_branch {x = x} f) m p h j g b s = like (λ ρ o w. resume_branch_to w) (λ ρ o w. resume_branch_of w) (closes_best m p x h (resume_best f (suc m) p (omega arith)) j g b) s
resume_best (f_star {x = x} f) m p h j g b s =
    let turns = repeats_best m p x h (resume_best f (suc m) p (omega arith)) j g b (enter_best f (suc m) p (omega arith)) in
    like (λ ρ o w. resume_star_to w) (λ ρ o w. resume_star_of w) turns s
resume_best (f_plus {x = x} f) m p h j g b s =
    let turns = repeats_best m p x h (resume_best f (suc m) p (omega arith)) j g b (enter_best f (suc m) p (omega arith)) in
    like (λ ρ o w. resume_plus_to w) (λ ρ o w. resume_plus_of w) turns s
resume_best (f_opt {x = x} f) m p h j g b s = like (λ ρ o w. resume_opt_to w) (λ ρ o w. resume_opt_of w) (closes_best m p x h (resume_best f (suc m) p (omega arith)) j g b) s
