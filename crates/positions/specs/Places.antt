-- Places: which positions are those of a part, and that a walk of the part stays among them.
use Rattle.std.specs.Prelude.{◌≡◌, refl, List, ℕ, ◌+◌, ◌≤◌, ◌<◌}
use Rattle.std.proofs.Common.{arith}
use Rattle.meaning.specs.Expression.{Re, size}
use Rattle.positions.specs.Positions.{Out, pass, at}
use Rattle.positions.specs.Positions.{Enter, e_eps, e_pos, e_cat_in, e_cat_over, e_left, e_right}
use Rattle.positions.specs.Positions.{e_branch_in, e_branch_over, e_star_in, e_star_over, e_plus_in, e_plus_over, e_opt_in, e_opt_over}
use Rattle.positions.specs.Positions.{Resume, r_pos, r_cat_in, r_cat_over, r_cat_right, r_left, r_right}
use Rattle.positions.specs.Positions.{r_branch_in, r_branch_out, r_star_in, r_star_out, r_star_again, r_plus_in, r_plus_out, r_plus_again, r_opt_in, r_opt_out}
use Rattle.positions.specs.Positions.{At, a_pos, a_cat_left, a_cat_right, a_left, a_right, a_branch, a_star, a_plus, a_opt}

-- position j is one of e
abbrev pub In : ℕ → Re → ℕ → Type 0
In p e j = (p ≤ j) × (j < p + size e)

pub data Within (p : ℕ) (e : Re) : Out → Type 0 where
  w_pass : Within p e pass
  w_at : {q : ℕ} → In p e q → Within p e (at q)

pub inside : {p q : ℕ} {e : Re} → Within p e (at q) → In p e q
inside (w_at i) = i

pub source : {m p j : ℕ} {e : Re} {ρ : List ℕ} {o : Out} → Resume m p e j ρ o → In p e j
unfolding size
source r_pos = omega arith
source (r_cat_in w) = let h = source w in omega arith
source (r_cat_over w _) = let h = source w in omega arith
source (r_cat_right w) = let h = source w in omega arith
source (r_left w) = let h = source w in omega arith
source (r_right w) = let h = source w in omega arith
source (r_branch_in w) = source w
source (r_branch_out w) = source w
source (r_star_in w) = source w
source (r_star_out w) = source w
source (r_star_again w _) = source w
source (r_plus_in w) = source w
source (r_plus_out w) = source w
source (r_plus_again w _) = source w
source (r_opt_in w) = source w
source (r_opt_out w) = source w

pub placed : {p j b : ℕ} {e : Re} → At p e j b → In p e j
unfolding size
placed (a_pos _) = omega arith
placed (a_cat_left a) = let h = placed a in omega arith
placed (a_cat_right a) = let h = placed a in omega arith
placed (a_left a) = let h = placed a in omega arith
placed (a_right a) = let h = placed a in omega arith
placed (a_branch a) = placed a
placed (a_star a) = placed a
placed (a_plus a) = placed a
placed (a_opt a) = placed a

-- what stands at or past a part of e is within e
wider : {p p' : ℕ} {x e : Re} {o : Out} → Within p' x o → p ≤ p' → p' + size x ≤ p + size e → Within p e o
wider w_pass h k = w_pass
wider (w_at {q = q} i) h k = w_at {q = q} (omega arith)

same_size : {p : ℕ} {x e : Re} {o : Out} → size x ≡ size e → Within p x o → Within p e o
same_size k w = wider w (omega arith) (omega arith)

pub entered : {m p : ℕ} {e : Re} {ρ : List ℕ} {o : Out} → Enter m p e ρ o → Within p e o
unfolding size
entered e_eps = w_pass
entered (e_pos {p = p}) = w_at {q = p} (omega arith)
entered (e_cat_in w) = wider (entered w) (omega arith) (omega arith)
entered (e_cat_over _ w) = wider (entered w) (omega arith) (omega arith)
entered (e_left w) = wider (entered w) (omega arith) (omega arith)
entered (e_right w) = wider (entered w) (omega arith) (omega arith)
entered (e_branch_in w) = same_size refl (entered w)
entered (e_branch_over w) = w_pass
entered (e_star_in w) = same_size refl (entered w)
entered e_star_over = w_pass
entered (e_plus_in w) = same_size refl (entered w)
entered (e_plus_over w) = w_pass
entered (e_opt_in w) = same_size refl (entered w)
entered e_opt_over = w_pass

pub resumed : {m p j : ℕ} {e : Re} {ρ : List ℕ} {o : Out} → Resume m p e j ρ o → Within p e o
unfolding size
resumed r_pos = w_pass
resumed (r_cat_in w) = wider (resumed w) (omega arith) (omega arith)
resumed (r_cat_over _ w) = wider (entered w) (omega arith) (omega arith)
resumed (r_cat_right w) = wider (resumed w) (omega arith) (omega arith)
resumed (r_left w) = wider (resumed w) (omega arith) (omega arith)
resumed (r_right w) = wider (resumed w) (omega arith) (omega arith)
resumed (r_branch_in w) = same_size refl (resumed w)
resumed (r_branch_out w) = w_pass
resumed (r_star_in w) = same_size refl (resumed w)
resumed (r_star_out w) = w_pass
resumed (r_star_again _ w) = same_size refl (entered w)
resumed (r_plus_in w) = same_size refl (resumed w)
resumed (r_plus_out w) = w_pass
resumed (r_plus_again _ w) = same_size refl (entered w)
resumed (r_opt_in w) = same_size refl (resumed w)
resumed (r_opt_out w) = w_pass
