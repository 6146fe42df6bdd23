-- A walk into a node, from the walks into its parts. Assumes nothing.
use mathlib.Core.Path.{◌≡◌, refl, ◌∙◌}
use mathlib.Core.Bool.{Bool, true, false, cond}
use mathlib.Core.List.{List, [], ◌∷◌}
use Prim.Native.Nat.{ℕ, suc, ◌+◌, ◌-◌, ◌*◌, ◌<◌, ◌≤◌, ◌^◌}
use native.Mathlib.Omega.{arith}
use mathlib.Core.Logic.{◌⊎◌}
use lib.ListN.{get_or, set}
use Rattle.meaning.specs.Expression.{Re, marks, size}
use Rattle.positions.specs.Positions.{pass, at}
use Rattle.positions.specs.Positions.{pass as run-pass}
use Rattle.positions.specs.Tests.{leads, feasible}
use Rattle.positions.specs.RunWays.{enter_run_room}
use Rattle.positions.specs.Runs as runs
use Rattle.positions.specs.Runs.{Run, run, and_then, closes, loop, enter_run}
use Rattle.sets.specs.declared.set.Set.{Set}
use Rattle.sets.specs.Members.{has, meets, row}
use Rattle.walks.specs.declared.step.Step.{Step}
use Rattle.walks.specs.declared.step.Step.TheVariants.{Passed, Stopped}
use Rattle.walks.specs.Tables.{yes}
use Rattle.walks.specs.Steps.{cursor, noted, Wrote, After}
use Rattle.walks.specs.Enter.{open_to, Ready, Scanned, EntersAt, OnAt, turning, TurnsAt}
use Rattle.walks.proofs.Parts.{Leaf, leaf_eps, leaf_pos, One, one_branch, one_star, one_plus, one_opt, Two, two_cat, two_alt, Bare, Sole, Pair, one_sizes, two_sizes, leaf, single, double}
use Rattle.walks.proofs.Written.{wrote_cursor, wrote_none, wrote_put, wrote_also, wrote_then}
use Rattle.walks.proofs.Looks.{goes_is, open_is}

-- ---- what the calls at the parts ask

module _ {ks gs : List ℕ} {i from : ℕ} (r : Ready ks gs i from) where
  module _ {k arg : ℕ} (N : Sole ks gs i k arg) where
    pub ready_mark : arg < 128
    ready_mark = let v = single N r.holds in omega (arith, r.few, v.mark, (one_sizes v.is).marks_are)

    pub ready_put : from + 1 < 2 ^ 64
    ready_put = let v = single N r.holds in omega (arith, r.room, (one_sizes v.is).marks_are)

    pub ready_part : (b : ℕ) → b ≡ from + 1 → Ready ks gs (i - 1) b
    ready_part b q =
        let v = single N r.holds in
        let n = (one_sizes v.is).marks_are in
        record { e = v.x; m = suc r.m; p = r.p; holds = v.part; within = omega (arith, r.within); few = omega (arith, r.few); room = omega (arith, r.room) }

    pub ready_close : {goal : Set} {b : Bool} {t t₁ : List ℕ} {f : ℕ} {s : Step} → f ≡ from + 1 → EntersAt ks gs (i - 1) goal b t t₁ f s → cursor s + 1 < 2 ^ 64
    ready_close {goal} {b} q E =
        let v = single N r.holds in
        let w = E.wrote v.x (suc r.m) r.p v.part in
        omega (arith, r.room, (one_sizes v.is).marks_are, wrote_cursor w, enter_run_room (suc r.m) r.p v.x (has goal) b)

  module _ {k arg : ℕ} (N : Pair ks gs i k arg) where
    pub ready_left : (arg < i) × Ready ks gs arg from
    ready_left =
        let d = double N r.holds in
        let n = (two_sizes d.is).marks_are in
        (omega (arith, d.before), record { e = d.x; m = r.m; p = r.p; holds = d.left; within = omega (arith, r.within, d.before); few = omega (arith, r.few); room = omega (arith, r.room) })

    ready_right : (c : ℕ) → c ≤ from + 2 * marks (double N r.holds).x → Ready ks gs (i - 1) c
    ready_right c h =
        let d = double N r.holds in
        let n = (two_sizes d.is).marks_are in
        record { e = d.y; m = r.m + marks d.x; p = r.p + size d.x; holds = d.right; within = omega (arith, r.within); few = omega (arith, r.few); room = omega (arith, r.room) }

    pub ready_alt : Ready ks gs (i - 1) from
    ready_alt = ready_right from (omega arith)

    pub ready_on : {goal : Set} {b : Bool} {t t₁ : List ℕ} {s : Step} → EntersAt ks gs arg goal b t t₁ from s → Ready ks gs (i - 1) (cursor s)
    ready_on {goal} {b} {s = s} E =
        let d = double N r.holds in
        let w = E.wrote d.x r.m r.p d.left in
        ready_right (cursor s) (omega (arith, wrote_cursor w, enter_run_room r.m r.p d.x (has goal) b))

-- ---- the run of a node

eps_run : {p k a f : ℕ} {e : Re} {t : List ℕ} (m : ℕ) (g : ℕ → Bool) (b : Bool) → Leaf p k a e → k ≡ 0 → Wrote t t f (Passed f false) (enter_run m p e g b)
unfolding enter_run
eps_run {f = f} {t = t} m g b leaf_eps z = wrote_none t f pass false
eps_run m g b (leaf_pos h) z = absurd (omega arith)

pos_run : {p k a f : ℕ} {e : Re} {t : List ℕ} (m : ℕ) (g : ℕ → Bool) (b : Bool) → Leaf p k a e → k ≡ 1 → Wrote t t f (Stopped a f false) (enter_run m p e g b)
unfolding enter_run
pos_run m g b leaf_eps z = absurd (omega arith)
pos_run {p = p} {f = f} {t = t} m g b (leaf_pos h) z = rw h (wrote_none t f (at p) false)

loop_run : {k : ℕ} {x e : Re} (m p : ℕ) (g : ℕ → Bool) (b : Bool) → One k x e → (k ≡ 5) ⊎ (k ≡ 7) → enter_run m p e g b ≡ loop m (leads p x g) b (enter_run (suc m) p x g false)
unfolding enter_run
loop_run m p g b one_branch z = absurd (omega (arith, z))
loop_run m p g b one_star z = refl
loop_run m p g b one_plus z = absurd (omega (arith, z))
loop_run m p g b one_opt z = refl

turn_run : {k : ℕ} {x e : Re} (m p : ℕ) (g : ℕ → Bool) (b : Bool) → One k x e → (k ≡ 4) ⊎ (k ≡ 6) → enter_run m p e g b ≡ and_then (runs.put (suc m) (enter_run (suc m) p x g b)) (closes m)
unfolding enter_run
turn_run m p g b one_branch z = refl
turn_run m p g b one_star z = absurd (omega (arith, z))
turn_run m p g b one_plus z = refl
turn_run m p g b one_opt z = absurd (omega (arith, z))

cat_run : {k : ℕ} {x y e : Re} (m p : ℕ) (g : ℕ → Bool) (b : Bool) → Two k x y e → k ≡ 2
    → enter_run m p e g b ≡ and_then (enter_run m p x g (feasible (p + size x) y g b)) (enter_run (m + marks x) (p + size x) y g b)
unfolding enter_run
cat_run m p g b two_cat z = refl
cat_run m p g b two_alt z = absurd (omega arith)

alt_run : {k : ℕ} {x y e : Re} (m p : ℕ) (g : ℕ → Bool) (b : Bool) → Two k x y e → k ≡ 3
    → enter_run m p e g b ≡ cond (feasible p x g b) (runs.also (feasible (p + size x) y g b) (enter_run m p x g b)) (enter_run (m + marks x) (p + size x) y g b)
unfolding enter_run
alt_run m p g b two_cat z = absurd (omega arith)
alt_run m p g b two_alt z = refl

marked : {t t' : List ℕ} {f a n : ℕ} {r : Step} (l b : Bool) (R : Run) → a ≡ n → Wrote t t' f r (turning a l b R) → Wrote t t' f r (turning n l b R)
marked l b R e w = rw e at w

-- ---- the walk of a node

module _ {ks gs ns : List ℕ} {fs : List Set} {i from : ℕ} (goal : Set) (pass : Bool) (T : Scanned ks gs ns fs i) where
  pub enters_eps : {arg : ℕ} {t : List ℕ} → Bare ks gs i 0 arg → EntersAt ks gs i goal pass t t from (Passed from false)
  enters_eps N = record { wrote = λ e m p h. eps_run m (has goal) pass (leaf N h) refl }

  pub enters_pos : {arg : ℕ} {t : List ℕ} → Bare ks gs i 1 arg → EntersAt ks gs i goal pass t t from (Stopped arg from false)
  enters_pos N = record { wrote = λ e m p h. pos_run m (has goal) pass (leaf N h) refl }

  pub enters_loop : {k arg : ℕ} {t t' : List ℕ} {r : Step} → Sole ks gs i k arg → (k ≡ 5) ⊎ (k ≡ 7) → TurnsAt ks gs (i - 1) arg goal pass t t' from r → EntersAt ks gs i goal pass t t' from r
  enters_loop N z W = record { wrote = λ e m p h. let s = single N h in rw (loop_run m p (has goal) pass s.is z) (marked _ _ _ s.mark (W.wrote s.x (suc m) p s.part)) }

  pub enters_turn : {k arg : ℕ} {t t₁ t₂ t₃ : List ℕ} {b : ℕ} {s r : Step} → Sole ks gs i k arg → (k ≡ 4) ⊎ (k ≡ 6) → b ≡ from + 1 → t₁ ≡ set t from arg
      → EntersAt ks gs (i - 1) goal pass t₁ t₂ b s → After s t₂ t₃ r (run ((128 + arg) ∷ []) run-pass false) → EntersAt ks gs i goal pass t t₃ from r
  enters_turn N z q u E C = record {
    wrote = λ e m p h.
        let s = single N h in
        rw (turn_run m p (has goal) pass s.is z) (wrote_then _ (closes m) (wrote_put (suc m) _ (E.wrote s.x (suc m) p s.part) q (u ∙ rw s.mark)) (rw s.mark at C));
  }

  module _ {k arg : ℕ} {v : Bool} (N : Pair ks gs i k arg) (o : v ≡ open_to (meets (row fs (i - 1)) goal) (yes (get_or ns (i - 1) 0)) pass) where
    pub enters_cat : {t t₁ t₂ : List ℕ} {s r : Step} → k ≡ 2 → EntersAt ks gs arg goal v t t₁ from s → OnAt ks gs (i - 1) goal pass t₁ t₂ s r → EntersAt ks gs i goal pass t t₂ from r
    enters_cat z E F = record {
      wrote = λ e m p h.
          let d = double N h in
          let n = open_is T (omega arith) goal pass o d.right in
          rw (cat_run m p (has goal) pass d.is z, ← n) (wrote_then _ _ (E.wrote d.x m p d.left) (F.wrote d.y _ _ d.right));
    }

    module _ {w : Bool} (z : k ≡ 3) (a : w ≡ open_to (meets (row fs arg) goal) (yes (get_or ns arg 0)) pass) where
      pub enters_left : {t t' : List ℕ} {s r : Step} → w ≡ true → EntersAt ks gs arg goal pass t t' from s → r ≡ noted v s → EntersAt ks gs i goal pass t t' from r
      enters_left y E u = record {
        wrote = λ e m p h.
            let d = double N h in
            let n = open_is T (omega arith) goal pass o d.right in
            let n' = open_is T (omega (arith, d.before)) goal pass a d.left in
            rw (alt_run m p (has goal) pass d.is z, ← n, ← n', y) (wrote_also v _ u (E.wrote d.x m p d.left));
      }

      pub enters_right : {t t' : List ℕ} {r : Step} → w ≡ false → EntersAt ks gs (i - 1) goal pass t t' from r → EntersAt ks gs i goal pass t t' from r
      enters_right y E = record {
        wrote = λ e m p h.
            let d = double N h in
            let n' = open_is T (omega (arith, d.before)) goal pass a d.left in
            rw (alt_run m p (has goal) pass d.is z, ← n', y) (E.wrote d.y _ _ d.right);
      }

  -- ---- of a loop's part, and after a step

  module _ {v : Bool} {mark : ℕ} (z : v ≡ meets (row fs i) goal) where
    pub turns_in : {t t₁ t₂ : List ℕ} {b : ℕ} {s r : Step} → v ≡ true → b ≡ from + 1 → t₁ ≡ set t from mark
        → EntersAt ks gs i goal false t₁ t₂ b s → r ≡ noted pass s → TurnsAt ks gs i mark goal pass t t₂ from r
    turns_in y q u E n = record {
      wrote = λ e m p h.
          let f = goes_is T (omega arith) goal z h in
          rw (← f, y) (wrote_also pass _ n (wrote_put mark _ (E.wrote e m p h) q u));
    }

    pub turns_none : {t : List ℕ} → v ≡ false → TurnsAt ks gs i mark goal pass t t from (Passed from false)
    turns_none {t} y = record { wrote = λ e m p h. let f = goes_is T (omega arith) goal z h in rw (← f, y) (wrote_none t from run-pass false) }
