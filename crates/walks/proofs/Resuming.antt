-- A walk on from a position of a node, from the walks of its parts. Assumes nothing.
use mathlib.Core.Path.{◌≡◌, refl}
use mathlib.Core.Bool.{Bool, false, cond, ◌||◌}
use mathlib.Core.List.{List, [], ◌∷◌}
use mathlib.Core.Logic.{◌⊎◌}
use Prim.Native.Nat.{ℕ, suc, ◌+◌, ◌-◌, ◌*◌, ◌<◌, ◌≤◌, ◌^◌}
use native.Mathlib.Omega.{arith}
use Rattle.std.proofs.Common.{rules}
use lib.Dec.{eqb}
use lib.ListN.{length, get_or}
use borrow.Author.Tests.{lt-ltb, le-ltb}
use Rattle.meaning.specs.Expression.{Re, marks, size}
use Rattle.meaning.specs.Tree.{closing}
use Rattle.grammar.specs.Holds.{Holds}
use Rattle.positions.specs.Positions.{pass as run-pass}
use Rattle.positions.specs.Tests.{leads, feasible}
use Rattle.positions.specs.Places.{In}
use Rattle.positions.specs.Room.{spare_most}
use Rattle.positions.specs.RunWays.{resume_run_room}
use Rattle.positions.specs.Runs as runs
use Rattle.positions.specs.Runs.{run, row_of, out_of, and_then, closes, loop, enter_run, resume_run}
use Rattle.sets.specs.declared.set.Set.{Set}
use Rattle.sets.specs.Members.{has, meets, row}
use Rattle.walks.specs.declared.step.Step.{Step}
use Rattle.walks.specs.declared.step.Step.TheVariants.{Passed}
use Rattle.walks.specs.Tables.{Known, number, EndAt, end_of, yes}
use Rattle.walks.specs.Steps.{cursor, Wrote, After}
use Rattle.walks.specs.Enter.{open_to, Ready, Scanned, OnAt}
use Rattle.walks.specs.Resume.{Placed, ResumesAt, AgainAt}
use Rattle.walks.proofs.Parts.{Leaf, leaf_eps, leaf_pos, One, one_branch, one_star, one_plus, one_opt, Two, two_cat, two_alt, Bare, Sole, Pair, one_sizes, two_sizes, Single, leaf, single, double}
use Rattle.walks.proofs.Written.{wrote_cursor, wrote_none, wrote_then}
use Rattle.walks.proofs.Looks.{goes_is, open_is, scanned_to}

-- ---- on which side a position is

module _ (p n j : ℕ) (h : p ≤ j) where
  before_end : j < cond (eqb n 0) 0 (p + n) → j < p + n
  before_end l = search (rules, l)

  past_end : cond (eqb n 0) 0 (p + n) ≤ j → p + n ≤ j
  past_end l = search (rules, l, h)

pub end_read : {ks gs : List ℕ} {i l : ℕ} (us : List ℕ) → Known number (EndAt ks gs) us i → l < i → EndAt ks gs l (get_or us l 0)
end_read {l = l} us U a = U l (omega arith)

-- the tables of the nodes up to i are those of the nodes up to a node before it
pub asked_to : {ks gs ns : List ℕ} {fs : List Set} {i l : ℕ} (us : List ℕ) → Scanned ks gs ns fs i → Known number (EndAt ks gs) us i → l ≤ i → Scanned ks gs ns fs l × Known number (EndAt ks gs) us l
asked_to us T U le = (scanned_to T le, λ n h. U n (omega arith))

module _ {ks gs : List ℕ} {m p l v j : ℕ} {x : Re} (N : EndAt ks gs l v) (h : Holds ks gs m p l x) (low : p ≤ j) where
  on_left : j < v → j < p + size x
  unfolding end_of
  on_left a = before_end p (size x) j low (rw (N x m p h) at a)

  on_right : v ≤ j → p + size x ≤ j
  unfolding end_of
  on_right a = past_end p (size x) j low (rw (N x m p h) at a)

-- ---- what the calls at the parts ask

pub resume_short : (e : Re) (m p j : ℕ) (g : ℕ → Bool) (b : Bool) → In p e j → length (row_of (resume_run m p e j g b)) ≤ 4 * marks e
resume_short e m p j g b h = omega (arith, resume_run_room m p e j g b h, spare_most (out_of (resume_run m p e j g b)) (marks e))

-- a position of a node with one part is one of its part
in_part : {ks gs : List ℕ} {m p i j k arg : ℕ} {e : Re} (s : Single ks gs m p i k arg e) → In p e j → In p s.x j
in_part s a = (a.0, omega (arith, a.1, (one_sizes s.is).size_is))

module _ {ks gs : List ℕ} {i j from : ℕ} (r : Placed ks gs i j from) where
  module _ {k arg : ℕ} (N : Sole ks gs i k arg) where
    pub placed_mark : arg < 128
    placed_mark = let v = single N r.holds in omega (arith, r.few, v.mark, (one_sizes v.is).marks_are)

    pub placed_part : Placed ks gs (i - 1) j from
    placed_part =
        let v = single N r.holds in
        let n = one_sizes v.is in
        record {
          e = v.x;
          m = suc r.m;
          p = r.p;
          holds = v.part;
          within = omega (arith, r.within);
          inside = in_part v r.inside;
          few = omega (arith, r.few, n.marks_are);
          room = omega (arith, r.room, n.marks_are);
        }

    module _ {goal : Set} {b : Bool} {t t₁ : List ℕ} {s : Step} (E : ResumesAt ks gs (i - 1) j goal b t t₁ from s) where
      cursor_part : cursor s + 4 ≤ from + 4 * marks r.e
      cursor_part =
          let v = single N r.holds in
          let n = one_sizes v.is in
          let h = in_part v r.inside in
          omega (arith, n.marks_are, wrote_cursor (E.wrote v.x (suc r.m) r.p v.part h), resume_short v.x (suc r.m) r.p j (has goal) b h)

      pub placed_close : cursor s + 1 < 2 ^ 64
      placed_close = omega (arith, cursor_part, r.room)

      pub placed_again : Ready ks gs (i - 1) (cursor s + 1 + 1)
      placed_again =
          let v = single N r.holds in
          let n = (one_sizes v.is).marks_are in
          record { e = v.x; m = suc r.m; p = r.p; holds = v.part; within = omega (arith, r.within); few = omega (arith, r.few); room = omega (arith, cursor_part, r.room) }

  module _ {k arg : ℕ} (N : Pair ks gs i k arg) where
    pub placed_below : (arg < i) × (arg < 1024)
    placed_below = let d = double N r.holds in (omega (arith, d.before), omega (arith, d.before, r.within))

  module _ {k arg v : ℕ} (N : Pair ks gs i k arg) (V : EndAt ks gs arg v) where
    pub placed_left : j < v → Placed ks gs arg j from
    placed_left a =
        let d = double N r.holds in
        let n = (two_sizes d.is).marks_are in
        let b = on_left V d.left r.inside.0 a in
        record { e = d.x; m = r.m; p = r.p; holds = d.left; within = omega (arith, d.before, r.within); inside = (r.inside.0, b); few = omega (arith, r.few); room = omega (arith, r.room) }

    pub placed_right : v ≤ j → Placed ks gs (i - 1) j from
    placed_right a =
        let d = double N r.holds in
        let n = two_sizes d.is in
        let b = on_right V d.left r.inside.0 a in
        record {
          e = d.y;
          m = r.m + marks d.x;
          p = r.p + size d.x;
          holds = d.right;
          within = omega (arith, r.within);
          inside = (b, omega (arith, r.inside.1, n.size_is));
          few = omega (arith, r.few, n.marks_are);
          room = omega (arith, r.room, n.marks_are);
        }

    pub placed_on : {goal : Set} {b : Bool} {t t₁ : List ℕ} {s : Step} → j < v → ResumesAt ks gs arg j goal b t t₁ from s → Ready ks gs (i - 1) (cursor s)
    placed_on {goal} {b} a E =
        let d = double N r.holds in
        let n = (two_sizes d.is).marks_are in
        let h : In r.p d.x j = (r.inside.0, on_left V d.left r.inside.0 a) in
        let w = E.wrote d.x r.m r.p d.left h in
        let f = resume_short d.x r.m r.p j (has goal) b h in
        record {
          e = d.y;
          m = r.m + marks d.x;
          p = r.p + size d.x;
          holds = d.right;
          within = omega (arith, r.within);
          few = omega (arith, r.few);
          room = omega (arith, r.room, wrote_cursor w);
        }

-- ---- the run of a node

leaf_run : {p k a f : ℕ} {e : Re} {t : List ℕ} (m j : ℕ) (g : ℕ → Bool) (b : Bool) → Leaf p k a e → Wrote t t f (Passed f false) (resume_run m p e j g b)
unfolding resume_run
leaf_run {f = f} {t = t} m j g b leaf_eps = wrote_none t f run-pass false
leaf_run {f = f} {t = t} m j g b (leaf_pos h) = wrote_none t f run-pass false

again_run : {k : ℕ} {x e : Re} (m p j : ℕ) (g : ℕ → Bool) (b : Bool) → One k x e → (k ≡ 5) ⊎ (k ≡ 6)
    → resume_run m p e j g b ≡ and_then (resume_run (suc m) p x j g (leads p x g || b)) (runs.put (closing m) (loop m (leads p x g) b (enter_run (suc m) p x g false)))
unfolding resume_run
again_run m p j g b one_branch z = absurd (omega (arith, z))
again_run m p j g b one_star z = refl
again_run m p j g b one_plus z = refl
again_run m p j g b one_opt z = absurd (omega (arith, z))

close_run : {k : ℕ} {x e : Re} (m p j : ℕ) (g : ℕ → Bool) (b : Bool) → One k x e → (k ≡ 4) ⊎ (k ≡ 7) → resume_run m p e j g b ≡ and_then (resume_run (suc m) p x j g b) (closes m)
unfolding resume_run
close_run m p j g b one_branch z = refl
close_run m p j g b one_star z = absurd (omega (arith, z))
close_run m p j g b one_plus z = absurd (omega (arith, z))
close_run m p j g b one_opt z = refl

right_run : {k : ℕ} {x y e : Re} (m p j : ℕ) (g : ℕ → Bool) (b : Bool) → Two k x y e → p + size x ≤ j → resume_run m p e j g b ≡ resume_run (m + marks x) (p + size x) y j g b
unfolding resume_run
right_run m p j g b (two_cat {x = x}) h = rw (le-ltb j (p + size x) h)
right_run m p j g b (two_alt {x = x}) h = rw (le-ltb j (p + size x) h)

alt_run : {k : ℕ} {x y e : Re} (m p j : ℕ) (g : ℕ → Bool) (b : Bool) → Two k x y e → k ≡ 3 → j < p + size x → resume_run m p e j g b ≡ resume_run m p x j g b
unfolding resume_run
alt_run m p j g b two_cat z h = absurd (omega arith)
alt_run m p j g b (two_alt {x = x}) z h = rw (lt-ltb j (p + size x) h)

cat_run : {k : ℕ} {x y e : Re} (m p j : ℕ) (g : ℕ → Bool) (b : Bool) → Two k x y e → k ≡ 2 → j < p + size x
    → resume_run m p e j g b ≡ and_then (resume_run m p x j g (feasible (p + size x) y g b)) (enter_run (m + marks x) (p + size x) y g b)
unfolding resume_run
cat_run m p j g b (two_cat {x = x}) z h = rw (lt-ltb j (p + size x) h)
cat_run m p j g b two_alt z h = absurd (omega arith)

-- ---- the walk of a node

module _ {ks gs : List ℕ} {i j from : ℕ} (goal : Set) (pass : Bool) where
  pub resumes_leaf : {k arg : ℕ} {t : List ℕ} → Bare ks gs i k arg → ResumesAt ks gs i j goal pass t t from (Passed from false)
  resumes_leaf N = record { wrote = λ e m p h a. leaf_run m j (has goal) pass (leaf N h) }

  pub resumes_again : {k arg : ℕ} {ns : List ℕ} {fs : List Set} {t t₁ t₂ : List ℕ} {w : Bool} {s r : Step} → Sole ks gs i k arg → (k ≡ 5) ⊎ (k ≡ 6) → Scanned ks gs ns fs i → w ≡ (meets (row fs (i - 1)) goal || pass)
      → ResumesAt ks gs (i - 1) j goal w t t₁ from s → AgainAt ks gs (i - 1) arg goal pass t₁ t₂ s r → ResumesAt ks gs i j goal pass t t₂ from r
  resumes_again {fs = fs} N z T q E A = record {
    wrote = λ e m p h a.
        let s = single N h in
        let f = goes_is T (omega arith) goal refl s.part in
        let turn = E.wrote s.x (suc m) p s.part (in_part s a) in
        let more = rw (← f) at (A.wrote s.x m p s.part s.mark) in
        rw (again_run m p j (has goal) pass s.is z, ← f, ← q) (wrote_then _ _ turn more);
  }

  pub resumes_close : {k arg : ℕ} {t t₁ t₂ : List ℕ} {s r : Step} → Sole ks gs i k arg → (k ≡ 4) ⊎ (k ≡ 7)
      → ResumesAt ks gs (i - 1) j goal pass t t₁ from s → After s t₁ t₂ r (run ((128 + arg) ∷ []) run-pass false) → ResumesAt ks gs i j goal pass t t₂ from r
  resumes_close N z E C = record {
    wrote = λ e m p h a.
        let s = single N h in
        let turn = E.wrote s.x (suc m) p s.part (in_part s a) in
        rw (close_run m p j (has goal) pass s.is z) (wrote_then _ (closes m) turn (rw s.mark at C));
  }

  module _ {k arg v : ℕ} (N : Pair ks gs i k arg) (V : EndAt ks gs arg v) where
    pub resumes_right : {t t' : List ℕ} {r : Step} → v ≤ j → ResumesAt ks gs (i - 1) j goal pass t t' from r → ResumesAt ks gs i j goal pass t t' from r
    resumes_right y E = record {
      wrote = λ e m p h a.
          let d = double N h in
          let c = on_right V d.left a.0 y in
          rw (right_run m p j (has goal) pass d.is c) (E.wrote d.y _ _ d.right (c, omega (arith, a.1, (two_sizes d.is).size_is)));
    }

    module _ (y : j < v) where
      pub resumes_left : {t t' : List ℕ} {r : Step} → k ≡ 3 → ResumesAt ks gs arg j goal pass t t' from r → ResumesAt ks gs i j goal pass t t' from r
      resumes_left n E = record {
        wrote = λ e m p h a.
            let d = double N h in
            let c = on_left V d.left a.0 y in
            rw (alt_run m p j (has goal) pass d.is n c) (E.wrote d.x _ _ d.left (a.0, c));
      }

      pub resumes_cat : {ns : List ℕ} {fs : List Set} {t t₁ t₂ : List ℕ} {w : Bool} {s r : Step} → Scanned ks gs ns fs i → (k ≡ 2) → w ≡ open_to (meets (row fs (i - 1)) goal) (yes (get_or ns (i - 1) 0)) pass
          → ResumesAt ks gs arg j goal w t t₁ from s → OnAt ks gs (i - 1) goal pass t₁ t₂ s r → ResumesAt ks gs i j goal pass t t₂ from r
      resumes_cat T n o E F = record {
        wrote = λ e m p h a.
            let d = double N h in
            let c = on_left V d.left a.0 y in
            let f = open_is T (omega arith) goal pass o d.right in
            rw (cat_run m p j (has goal) pass d.is n c, ← f) (wrote_then _ _ (E.wrote d.x m p d.left (a.0, c)) (F.wrote d.y _ _ d.right));
      }
