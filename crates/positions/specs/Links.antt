-- Links: the run from one position depends only on where it may end, so it can be kept and used again.
use Rattle.std.specs.Prelude.{◌≡◌, refl, Bool, true, false, ◌&&◌, List, ℕ, ◌≤◌}
use Rattle.std.proofs.Common.{sym, ◌∙◌, arith}
use Rattle.meaning.specs.Expression.{Re, marks}
use Rattle.meaning.specs.Tree.{Before, b_here, b_longer, b_next}
use Rattle.grammar.specs.Fair.{Fair}
use Rattle.positions.specs.Best.{Less, l_here, l_pass, l_at, l_next, Compared, same, later, rival, Best}
use Rattle.positions.specs.Order.{before_differs, before_back}
use Rattle.positions.specs.Positions.{Out, pass, at, Resume}
use Rattle.positions.specs.ResumeBest.{resume_best}
use Rattle.positions.specs.Runs.{Run, run, row_of, out_of, other_of, resume_run}
use Rattle.positions.specs.Sets.{follows, follows_full, follows_some}
use Rattle.positions.specs.Tests.{Ok, ok_at, ok_pass}
use Rattle.bits.specs.Truth.{alike, both}

less_order : {m k : ℕ} {ρ ρ' : List ℕ} {o : Out} → Less m k ρ ρ' o → Before ρ ρ'
less_order (l_here h) = b_here h
less_order (l_pass h h') = b_longer
less_order (l_at h) = b_longer
less_order (l_next i l) = b_next i (less_order l)

-- the ways that may end at one goal are those that may end at the other
abbrev Alike : (List ℕ → Out → Type 0) → (ℕ → Bool) → Bool → (ℕ → Bool) → Bool → Type 0
Alike R g b g' b' = (ρ : List ℕ) (o : Out) → R ρ o → Ok g b o → Ok g' b' o

module _ {m k : ℕ} {R : List ℕ → Out → Type 0} {g g' : ℕ → Bool} {b b' : Bool} {r r' : Run} (B : Best m k R g b r) (B' : Best m k R g' b' r') (to : Alike R g b g' b') where
  bit_to : row_of r ≡ row_of r' → other_of r ≡ true → other_of r' ≡ true
  bit_to e c = elim (B.rivals c) [ rival x i l ↦ elim (B'.least _ _ x (to _ _ x i)) [ same a a' ↦ absurd (before_differs (less_order l) (e ∙ a)) | later c' l' ↦ c' ] ]

module _ {m k : ℕ} {R : List ℕ → Out → Type 0} {g g' : ℕ → Bool} {b b' : Bool} (r r' : Run) (B : Best m k R g b r) (B' : Best m k R g' b' r') (to : Alike R g b g' b') (from : Alike R g' b' g b) where
  row_out : (row_of r ≡ row_of r') × (out_of r ≡ out_of r')
  row_out = go (B.least _ _ B'.way (from _ _ B'.way B'.ok)) (B'.least _ _ B.way (to _ _ B.way B.ok))
    where
      go : Compared m k r (row_of r') (out_of r') → Compared m k r' (row_of r) (out_of r) → (row_of r ≡ row_of r') × (out_of r ≡ out_of r')
      go (same e i) c = (e, i)
      go (later w l) (same e i) = (sym e, sym i)
      go (later w l) (later w' l') = absurd (before_back (less_order l) (less_order l'))

run_of : (r : Run) → r ≡ run (row_of r) (out_of r) (other_of r)
run_of (run ρ o w) = refl

best_same : {m k : ℕ} {R : List ℕ → Out → Type 0} {g g' : ℕ → Bool} {b b' : Bool} (r r' : Run) → Best m k R g b r → Best m k R g' b' r' → Alike R g b g' b' → Alike R g' b' g b → r ≡ r'
best_same r r' B B' to from =
    let e = row_out r r' B B' to from in
    let w : other_of r ≡ other_of r' = alike _ _ (bit_to B B' to e.0) (bit_to B' B from (sym e.0)) in
    let a = e.0 in
    let c = e.1 in
    run_of r ∙ rw (a, c, w) (sym (run_of r'))

-- the run depends on those positions of the goal alone that may follow j
pub resume_near : {e : Re} → Fair e → marks e ≤ 127 → (j q : ℕ) (g g' : ℕ → Bool) → ((p : ℕ) → g' p ≡ (follows 0 e j p && g p)) → g' q ≡ true → resume_run 0 0 e j g false ≡ resume_run 0 0 e j g' false
resume_near {e} f h j q g g' near y =
    let z = both _ _ (sym (near q) ∙ y) in
    let w = (follows_some 0 0 e j q z.0).1 in
    best_same _ _ (resume_best f 0 0 (omega arith) j g false (_, _, w, ok_at z.1)) (resume_best f 0 0 (omega arith) j g' false (_, _, w, ok_at y)) to from
  where
    to : Alike (Resume 0 0 e j) g false g' false
    to ρ (at p) x (ok_at z) = ok_at (near p ∙ rw (follows_full x, z) refl)
    to ρ pass x (ok_pass z) = ok_pass z

    from : Alike (Resume 0 0 e j) g' false g false
    from ρ (at p) x (ok_at z) = ok_at (both (follows 0 e j p) (g p) (sym (near p) ∙ z)).1
    from ρ pass x (ok_pass z) = ok_pass z
