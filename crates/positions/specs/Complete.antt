-- Every tree is a walk: it enters the expression and reads the text from position to position.
use Rattle.std.specs.Prelude.{List, [], ◌∷◌, ◌++◌, ℕ, suc, ◌+◌}
use Rattle.std.proofs.Common.{append_assoc, append-nil}
use Rattle.meaning.specs.Expression.{Re, cat, alt, branch, star, plus, opt, marks, size}
use Rattle.meaning.specs.Tree.{opening, closing, letter, turn, Some, some, Tree, t_eps, t_pos, t_cat, t_left, t_right, t_branch, t_none, t_turn, t_once, t_more, t_skip, t_take}
use Rattle.positions.specs.Parts.{star_plus}
use Rattle.positions.specs.Positions.{Out, pass, at}
use Rattle.positions.specs.Positions.{Enter, e_eps, e_pos, e_cat_in, e_cat_over, e_left, e_right}
use Rattle.positions.specs.Positions.{e_branch_in, e_branch_over, e_star_in, e_star_over, e_plus_in, e_plus_over, e_opt_in, e_opt_over}
use Rattle.positions.specs.Positions.{Resume, r_pos, r_cat_in, r_cat_over, r_cat_right, r_left, r_right}
use Rattle.positions.specs.Positions.{r_branch_in, r_branch_out, r_star_in, r_star_out, r_star_again, r_plus_in, r_plus_out, r_plus_again, r_opt_in, r_opt_out}
use Rattle.positions.specs.Positions.{At, a_pos, a_cat_left, a_cat_right, a_left, a_right, a_branch, a_star, a_plus, a_opt}
use Rattle.positions.specs.Positions.{Trace, done, step, link, Walk, walk}

-- a walk of x is one of e, where each step of x is one of e
module _ {m p m' p' : ℕ} {x e : Re}
    (read : (j b : ℕ) → At p x j b → At p' e j b)
    (go : (j : ℕ) (ρ : List ℕ) (o : Out) → Resume m p x j ρ o → Resume m' p' e j ρ o) where
  pub lift : {o : Out} {s r : List ℕ} → Trace m p x o s r → Trace m' p' e o s r
  lift done = done
  lift (step a w t) = step (read _ _ a) (go _ _ _ w) (lift t)

-- a walk of x, and then what follows when x is left: τ is written and o' is where e stands then
module _ {m p m' p' : ℕ} {x e : Re} {o' : Out} {s' r' : List ℕ}
    (read : (j b : ℕ) → At p x j b → At p' e j b)
    (stay : (j q : ℕ) (ρ : List ℕ) → Resume m p x j ρ (at q) → Resume m' p' e j ρ (at q))
    (τ : List ℕ)
    (leave : (j : ℕ) (ρ : List ℕ) → Resume m p x j ρ pass → Resume m' p' e j (ρ ++ τ) o')
    (tail : Trace m' p' e o' s' r') where
  pub join : {j b : ℕ} {ρ : List ℕ} {o : Out} {s r : List ℕ} → At p x j b → Resume m p x j ρ o → Trace m p x o s r
      → Trace m' p' e (at j) (b ∷ (s ++ s')) (letter b ∷ (ρ ++ (r ++ (τ ++ r'))))
  join a w done = rw append_assoc at (step (read _ _ a) (leave _ _ w) tail)
  join {j = j} {b = b} {ρ = ρ} a w (step {q = q} {b = b'} {ρ = ρ'} a' w' t) = rw append_assoc (step (read _ _ a) (stay _ _ _ w) (join {j = q} {b = b'} {ρ = ρ'} a' w' t))

cat_walk : {m p : ℕ} {x y : Re} {s₁ s₂ r₁ r₂ : List ℕ} → Walk m p x s₁ r₁ → Walk (m + marks x) (p + size x) y s₂ r₂ → Walk m p (cat x y) (s₁ ++ s₂) (r₁ ++ r₂)
cat_walk (link e₁ done) (link e₂ t₂) = simp append-nil (simp append_assoc at (walk (e_cat_over e₁ e₂) (lift (λ j b a. a_cat_right a) (λ j ρ o w. r_cat_right w) t₂)))
cat_walk (link e₁ (step a w t)) (link {ρ = ρ} e₂ t₂) = simp append_assoc (walk (e_cat_in e₁)
    (join (λ j b a. a_cat_left a) (λ j q ρ w. r_cat_in w) ρ (λ j ρ w. r_cat_over w e₂) (lift (λ j b a. a_cat_right a) (λ j ρ o w. r_cat_right w) t₂) a w t))

left_walk : {m p : ℕ} {x y : Re} {s r : List ℕ} → Walk m p x s r → Walk m p (alt x y) s r
left_walk (link e t) = walk (e_left e) (lift (λ j b a. a_left a) (λ j ρ o w. r_left w) t)

right_walk : {m p : ℕ} {x y : Re} {s r : List ℕ} → Walk (m + marks x) (p + size x) y s r → Walk m p (alt x y) s r
right_walk (link e t) = walk (e_right e) (lift (λ j b a. a_right a) (λ j ρ o w. r_right w) t)

-- a turn of x in e that reads some text: then e is left, or there is another turn
module _ {m p : ℕ} {x e : Re}
    (read : (j b : ℕ) → At p x j b → At p e j b)
    (stay : (j q : ℕ) (ρ : List ℕ) → Resume (suc m) p x j ρ (at q) → Resume m p e j ρ (at q)) where
  last_turn : {q : ℕ} {ρ s r : List ℕ} → ((j : ℕ) (ρ : List ℕ) → Resume (suc m) p x j ρ pass → Resume m p e j (ρ ++ (closing m ∷ [])) pass)
      → Enter m p e (opening m ∷ ρ) (at q) → Trace (suc m) p x (at q) s r → Walk m p e s (turn m (ρ ++ r))
  last_turn leave e (step a w t) = simp append_assoc (simp append-nil at (walk e (join read stay (closing m ∷ []) leave done a w t)))

  next_turn : {q q' : ℕ} {ρ s r s' r' : List ℕ} (ρ' : List ℕ) → ((j : ℕ) (ρ : List ℕ) → Resume (suc m) p x j ρ pass → Resume m p e j (ρ ++ (closing m ∷ opening m ∷ ρ')) (at q'))
      → Enter m p e (opening m ∷ ρ) (at q) → Trace (suc m) p x (at q) s r → Trace m p e (at q') s' r' → Walk m p e (s ++ s') (turn m (ρ ++ r) ++ (opening m ∷ (ρ' ++ r')))
  next_turn ρ' leave e (step a w t) t' = simp append_assoc (walk e (join read stay (closing m ∷ opening m ∷ ρ') leave t' a w t))

branch_walk : {m p : ℕ} {x : Re} {s r : List ℕ} → Walk (suc m) p x s r → Walk m p (branch x) s (turn m r)
branch_walk (link e done) = simp append-nil (simp append-nil at (walk (e_branch_over e) done))
branch_walk (link e (step a w t)) = last_turn (λ j b a. a_branch a) (λ j q ρ w. r_branch_in w) (λ j ρ w. r_branch_out w) (e_branch_in e) (step a w t)

opt_walk : {m p : ℕ} {x : Re} {s r : List ℕ} → Some s → Walk (suc m) p x s r → Walk m p (opt x) s (turn m r)
opt_walk some (link e (step a w t)) = last_turn (λ j b a. a_opt a) (λ j q ρ w. r_opt_in w) (λ j ρ w. r_opt_out w) (e_opt_in e) (step a w t)

once_walk : {m p : ℕ} {x : Re} {s r : List ℕ} → Walk (suc m) p x s r → Walk m p (plus x) s (turn m r)
once_walk (link e done) = simp append-nil (simp append-nil at (walk (e_plus_over e) done))
once_walk (link e (step a w t)) = last_turn (λ j b a. a_plus a) (λ j q ρ w. r_plus_in w) (λ j ρ w. r_plus_out w) (e_plus_in e) (step a w t)

turn_walk : {m p : ℕ} {x : Re} {s₁ s₂ r₁ r₂ : List ℕ} → Some s₁ → Walk (suc m) p x s₁ r₁ → Walk m p (star x) s₂ r₂ → Walk m p (star x) (s₁ ++ s₂) (turn m r₁ ++ r₂)
turn_walk some (link e (step a w t)) (link e_star_over done) =
    let last = last_turn (λ j b a. a_star a) (λ j q ρ w. r_star_in w) (λ j ρ w. r_star_out w) (e_star_in e) (step a w t) in
    simp (append-nil, append_assoc) (simp append_assoc at last)
turn_walk some (link e (step a w t)) (link (e_star_in {ρ = ρ} e') t') = next_turn (λ j b a. a_star a) (λ j q ρ w. r_star_in w) ρ (λ j ρ w. r_star_again w e') (e_star_in e) (step a w t) t'

star_plus_read : {p j b : ℕ} {x : Re} → At p (star x) j b → At p (plus x) j b
star_plus_read (a_star a) = a_plus a

more_walk : {m p : ℕ} {x : Re} {s₁ s₂ r₁ r₂ : List ℕ} → Some s₁ → Walk (suc m) p x s₁ r₁ → Some s₂ → Walk m p (star x) s₂ r₂ → Walk m p (plus x) (s₁ ++ s₂) (turn m r₁ ++ r₂)
more_walk some (link e (step a w t)) some (link (e_star_in {ρ = ρ} e') t') = next_turn (λ j b a. a_plus a) (λ j q ρ w. r_plus_in w) ρ (λ j ρ w. r_plus_again w e') (e_plus_in e) (step a w t)
    (lift (λ j b a. star_plus_read a) (λ j ρ o w. star_plus w) t')
more_walk some (link e (step a w t)) some (link e_star_over t') = elim t' [ ]

pub complete : {m : ℕ} {e : Re} {s r : List ℕ} (p : ℕ) → Tree m e s r → Walk m p e s r
complete p t_eps = walk e_eps done
complete p (t_pos h) = walk e_pos (step (a_pos h) r_pos done)
complete p (t_cat t u) = cat_walk (complete p t) (complete _ u)
complete p (t_left t) = left_walk (complete p t)
complete p (t_right t) = right_walk (complete _ t)
complete p (t_branch t) = branch_walk (complete p t)
complete p t_none = walk e_star_over done
complete p (t_turn n t u) = turn_walk n (complete p t) (complete p u)
complete p (t_once t) = once_walk (complete p t)
complete p (t_more n t n' u) = more_walk n (complete p t) n' (complete p u)
complete p t_skip = walk e_opt_over done
complete p (t_take n t) = opt_walk n (complete p t)
