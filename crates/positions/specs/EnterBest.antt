-- The run that enters an expression is the first of the ways in, and says exactly whether there is another.
use Rattle.std.specs.Prelude.{◌≡◌, Bool, ◌||◌, cond, List, [], ◌∷◌, ℕ, suc, ◌+◌, ◌≤◌, ◌<◌}
use Rattle.std.proofs.Math.Path.{refl}
use Rattle.std.proofs.Common.{sym, ◌∙◌, true≢false, inl, inr}
use Rattle.std.proofs.Math.Bool.{true, false, or-false}
use Rattle.std.proofs.lemmas.Bool.{false≢true}
use native.Mathlib.Omega.{arith}
use Rattle.meaning.specs.Expression.{Re, cat, alt, marks, size}
use Rattle.meaning.specs.Tree.{opening, closing}
use Rattle.grammar.specs.Fair.{Marked, Fair, f_eps, f_pos, f_cat, f_alt, f_branch, f_star, f_plus, f_opt}
use Rattle.positions.specs.Best.{Less, l_pass, Above, v_nil, v_cons, Compared, same, later, Rival, rival, Best, less_wider, less_right, best_ways, best_put, best_wider, best_then}
use Rattle.positions.specs.Parts.{Put, puts, into, past, Close, close, Opens, Turns}
use Rattle.positions.specs.Parts.{enter_cat_to, enter_cat_of, close_one, eps_way, pos_way}
use Rattle.positions.specs.Parts.{enter_branch_to, enter_branch_of, enter_plus_to, enter_plus_of, enter_star_to, enter_star_of, enter_opt_to, enter_opt_of}
use Rattle.positions.specs.Positions.{Out, pass, at, Enter, e_eps, e_pos, e_left, e_right}
use Rattle.positions.specs.Row.{Begun, begun, Row, row_nil, row_cons, enter_row, marked_begun}
use Rattle.positions.specs.Runs.{Run, run, and_then, put, also, closes, through, loop, enter_run}
use Rattle.positions.specs.Tests.{Ok, ok_at, ok_pass, ok_stays, ok_passes, nullable, leads, feasible, leads_full, feasible_full, feasible_cat, feasible_right}
use Rattle.bits.specs.Truth.{or_left, or_right, either, or_else}

-- a row that enters e stands above the marks before e, and one of a marked expression stands before none
row_above : {m k : ℕ} {ρ : List ℕ} → Row m k ρ → Above m ρ
row_above row_nil = v_nil
row_above (row_cons (begun {i = i} a b)) = v_cons {t = opening i} (omega arith)

pub enter_above : {m p : ℕ} {e : Re} {ρ : List ℕ} {o : Out} → Enter m p e ρ o → Above m ρ
enter_above w = row_above (enter_row w)

begun_less : {m k : ℕ} {ρ : List ℕ} → Begun m k ρ → Less m k ρ [] pass
begun_less (begun {i = i} a b) = l_pass {t = opening i} (omega arith) (omega arith)

-- one way only
pub only : {R : List ℕ → Out → Type 0} {g : ℕ → Bool} {b : Bool} (m k : ℕ) (ρ : List ℕ) (o : Out) → R ρ o → Ok g b o
    → ((σ : List ℕ) (u : Out) → R σ u → (ρ ≡ σ) × (o ≡ u)) → Best m k R g b (run ρ o false)
only m k ρ o w h one = record { way = w; ok = h; least = λ σ u x i. same (one σ u x).0 (one σ u x).1; rivals = λ c. absurd (false≢true c) }

pub best_close : {g : ℕ → Bool} {b : Bool} (m m₀ k₀ : ℕ) → b ≡ true → Best m₀ k₀ (Close m) g b (closes m)
best_close m m₀ k₀ e = only m₀ k₀ _ _ close (ok_pass e) (λ σ o w. close_one w)

pub close_above : {m : ℕ} {σ : List ℕ} {o : Out} (n : ℕ) → n ≤ 127 → Close m σ o → Above n σ
close_above {m} n h close = v_cons {t = closing m} (omega arith)

pub close_full : {m : ℕ} {σ : List ℕ} {o : Out} {g : ℕ → Bool} {b : Bool} → Close m σ o → Ok g b o → b ≡ true
close_full close (ok_pass h) = h

-- another way besides
also_least : {m k : ℕ} {r : Run} {ρ : List ℕ} {o : Out} (c : Bool) → Compared m k r ρ o → Compared m k (also c r) ρ o
also_least {r = run ρ o w} c (same e i) = same e i
also_least {r = run ρ o w} c (later e l) = later (or_left c e) l

-- a loop: it is gone into if it leads to the goal
module _ (m p : ℕ) (x : Re) (g : ℕ → Bool) (b : Bool) (k : ℕ) where
  loop_none : leads p x g ≡ false → b ≡ true → Best m k (Turns m p x) g b through
  loop_none n e = record { way = past; ok = ok_pass e; least = λ ρ o w h. least w h; rivals = λ c. absurd (false≢true c) }
    where
      least : {ρ : List ℕ} {o : Out} → Turns m p x ρ o → Ok g b o → Compared m k through ρ o
      least (into w) (ok_at h) = absurd (true≢false (sym (leads_full g w h) ∙ n))
      least past h = same refl refl

  loop_some : (r : Run) → 0 < k → Best m k (Put (opening m) (Enter (suc m) p x)) g false (put (opening m) r) → Best m k (Turns m p x) g b (also b (put (opening m) r))
  loop_some (run ρ pass w) z B = absurd (false≢true (ok_passes B.ok))
  loop_some (run ρ (at q) w) z B = record {
    way = way B.way;
    ok = ok_stays b B.ok;
    least = λ σ o u h. least u h;
    rivals = λ e. elim (either w b e) [ inl i ↦ rivals_in (B.rivals i) | inr i ↦ rival past (ok_pass i) before_past ];
  }
    where
      before_past : Less m k (opening m ∷ ρ) [] pass
      before_past = l_pass {t = opening m} (omega arith) (omega arith)

      way : {σ : List ℕ} → Put (opening m) (Enter (suc m) p x) σ (at q) → Turns m p x σ (at q)
      way (puts u) = into u

      least : {σ : List ℕ} {o : Out} → Turns m p x σ o → Ok g b o → Compared m k (run (opening m ∷ ρ) (at q) (w || b)) σ o
      least (into u) (ok_at h) = also_least b (B.least _ _ (puts u) (ok_at h))
      least past (ok_pass h) = later (or_right w h) before_past

      rivals_in : Rival m k (Put (opening m) (Enter (suc m) p x)) g false (run (opening m ∷ ρ) (at q) w) → Rival m k (Turns m p x) g b (run (opening m ∷ ρ) (at q) (w || b))
      rivals_in (rival (puts u) (ok_at h) l) = rival (into u) (ok_at h) l
      rivals_in (rival (puts u) (ok_pass h) l) = absurd (false≢true h)

-- a choice
module _ (m p : ℕ) (x y : Re) (g : ℕ → Bool) (b : Bool) (h : m + (marks x + marks y) ≤ 127) where
  alt_left : (r s : Run) → Marked x → Best m (marks x) (Enter m p x) g b r → (feasible (p + size x) y g b ≡ true → Best (m + marks x) (marks y) (Enter (m + marks x) (p + size x) y) g b s)
      → Best m (marks x + marks y) (Enter m p (alt x y)) g b (also (feasible (p + size x) y g b) r)
  alt_left (run ρ o w) s k B C = record {
    way = e_left B.way;
    ok = B.ok;
    least = λ σ u a i. least a i;
    rivals = λ e. elim (either w _ e) [ inl a ↦ rivals_left (B.rivals a) | inr a ↦ rivals_right (C a) ];
  }
    where
      less : {σ : List ℕ} {u : Out} → Enter (m + marks x) (p + size x) y σ u → Less m (marks x + marks y) ρ σ u
      less {u = u} a = less_right u (omega arith) (omega arith) (omega arith) (begun_less (marked_begun k B.way)) refl (enter_above a)

      B' : Best m (marks x + marks y) (Enter m p x) g b (run ρ o w)
      B' = best_wider (omega arith) (omega arith) B

      least : {σ : List ℕ} {u : Out} → Enter m p (alt x y) σ u → Ok g b u → Compared m (marks x + marks y) (also (feasible (p + size x) y g b) (run ρ o w)) σ u
      least (e_left a) i = also_least _ (B'.least _ _ a i)
      least (e_right a) i = later (or_right w (feasible_full a i)) (less a)

      rivals_left : Rival m (marks x) (Enter m p x) g b (run ρ o w) → Rival m (marks x + marks y) (Enter m p (alt x y)) g b (also (feasible (p + size x) y g b) (run ρ o w))
      rivals_left (rival a i l) = rival (e_left a) i (less_wider (omega arith) (omega arith) l)

      rivals_right : Best (m + marks x) (marks y) (Enter (m + marks x) (p + size x) y) g b s → Rival m (marks x + marks y) (Enter m p (alt x y)) g b (also (feasible (p + size x) y g b) (run ρ o w))
      rivals_right D = rival (e_right D.way) D.ok (less D.way)

  alt_right : (s : Run) → feasible p x g b ≡ false → Best (m + marks x) (marks y) (Enter (m + marks x) (p + size x) y) g b s → Best m (marks x + marks y) (Enter m p (alt x y)) g b s
  alt_right s n C = record { way = e_right C.way; ok = C.ok; least = λ σ u a i. least a i; rivals = λ e. rivals (C.rivals e) }
    where
      C' : Best m (marks x + marks y) (Enter (m + marks x) (p + size x) y) g b s
      C' = best_wider (omega arith) (omega arith) C

      least : {σ : List ℕ} {u : Out} → Enter m p (alt x y) σ u → Ok g b u → Compared m (marks x + marks y) s σ u
      least (e_left a) i = absurd (true≢false (sym (feasible_full a i) ∙ n))
      least (e_right a) i = C'.least _ _ a i

      rivals : Rival (m + marks x) (marks y) (Enter (m + marks x) (p + size x) y) g b s → Rival m (marks x + marks y) (Enter m p (alt x y)) g b s
      rivals (rival a i l) = rival (e_right a) i (less_wider (omega arith) (omega arith) l)

-- what is to be shown of e
abbrev pub Entered : ℕ → ℕ → Re → Type 0
Entered m p e = (g : ℕ → Bool) (b : Bool) → feasible p e g b ≡ true → Best m (marks e) (Enter m p e) g b (enter_run m p e g b)

module _ (m p : ℕ) (x y : Re) (h : m + (marks x + marks y) ≤ 127) (f : Entered m p x) (f' : Entered (m + marks x) (p + size x) y) (g : ℕ → Bool) (b : Bool) where
  cat_best : feasible p (cat x y) g b ≡ true → Best m (marks x + marks y) (Enter m p (cat x y)) g b (enter_run m p (cat x y) g b)
  unfolding enter_run
  cat_best e = best_ways (λ ρ o w. enter_cat_to w) (λ ρ o w. enter_cat_of w)
      (best_then _ _ (omega arith, omega arith, omega arith) (λ τ o w. enter_above w) (λ τ o w i. feasible_full w i)
      (f g (feasible (p + size x) y g b) (feasible_cat p x y g b e)) (λ i. best_wider (omega arith) (omega arith) (f' g b i)))

  alt_best : Marked x → feasible p (alt x y) g b ≡ true → Best m (marks x + marks y) (Enter m p (alt x y)) g b (enter_run m p (alt x y) g b)
  unfolding enter_run
  alt_best k e = go (feasible p x g b) refl
    where
      go : (l : Bool) → feasible p x g b ≡ l
          → let left = also (feasible (p + size x) y g b) (enter_run m p x g b) in
          let right = enter_run (m + marks x) (p + size x) y g b in
          Best m (marks x + marks y) (Enter m p (alt x y)) g b (cond l left right)
      go true i = alt_left m p x y g b h _ _ k (f g b i) (f' g b)
      go false i = alt_right m p x y g b h _ i (f' g b (feasible_right p x y g b e i))

module _ (m p : ℕ) (x : Re) (h : m + suc (marks x) ≤ 127) (f : Entered (suc m) p x) (g : ℕ → Bool) (b : Bool) where
  opens_best : feasible p x g b ≡ true → Best m (suc (marks x)) (Opens m p x) g b (and_then (put (opening m) (enter_run (suc m) p x g b)) (closes m))
  opens_best e = best_then _ _ (omega arith, omega arith, omega arith) (λ τ o w. close_above _ (omega arith) w) (λ τ o w i. close_full w i)
      (best_put (opening m) _ (f g b e)) (λ i. best_close m _ _ i)

  pub loop_best : (leads p x g || b) ≡ true → Best m (suc (marks x)) (Turns m p x) g b (loop m (leads p x g) b (enter_run (suc m) p x g false))
  loop_best e = go (leads p x g) refl
    where
      go : (l : Bool) → leads p x g ≡ l → Best m (suc (marks x)) (Turns m p x) g b (loop m l b (enter_run (suc m) p x g false))
      go true i = loop_some m p x g b (suc (marks x)) (enter_run (suc m) p x g false) (omega arith) (best_wider (omega arith) (omega arith) (best_put (opening m) _ (f g false (or_left _ i))))
      go false i = loop_none m p x g b (suc (marks x)) i (or_else (leads p x g) b e i)

pub enter_best : {e : Re} → Fair e → (m p : ℕ) → m + marks e ≤ 127 → Entered m p e
unfolding enter_run leads nullable marks
enter_best f_eps m p h g b e = only _ _ _ _ e_eps (ok_pass e) (λ σ o w. eps_way w)
enter_best f_pos m p h g b e = only _ _ _ _ e_pos (ok_at (sym (or-false (g p)) ∙ e)) (λ σ o w. pos_way w)
enter_best (f_cat {x = x} {y = y} f f') m p h g b e = cat_best m p x y h (enter_best f m p (omega arith)) (enter_best f' _ _ (omega arith)) g b e
enter_best (f_alt {x = x} {y = y} k k' f f') m p h g b e = alt_best m p x y h (enter_best f m p (omega arith)) (enter_best f' _ _ (omega arith)) g b k e
enter_best (f_branch {x = x} f) m p h g b e = best_ways (λ ρ o w. enter_branch_to w) (λ ρ o w. enter_branch_of w) (opens_best m p x h (enter_best f (suc m) p (omega arith)) g b e)
enter_best (f_star {x = x} f) m p h g b e = best_ways (λ ρ o w. enter_star_to w) (λ ρ o w. enter_star_of w) (loop_best m p x h (enter_best f (suc m) p (omega arith)) g b e)
enter_best (f_plus {x = x} f) m p h g b e = best_ways (λ ρ o w. enter_plus_to w) (λ ρ o w. enter_plus_of w) (opens_best m p x h (enter_best f (suc m) p (omega arith)) g b e)
enter_best (f_opt {x = x} f) m p h g b e = best_ways (λ ρ o w. enter_opt_to w) (λ ρ o w. enter_opt_of w) (loop_best m p x h (enter_best f (suc m) p (omega arith)) g b e)
