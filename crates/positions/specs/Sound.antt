-- Every walk is a tree.
use Rattle.std.specs.Prelude.{◌≡◌, Bool, true, List, [], ◌∷◌, ◌++◌, ℕ, suc, ◌+◌}
use Rattle.std.proofs.Common.{append_assoc, append-nil, arith}
use Rattle.meaning.specs.Expression.{Re, eps, pos, cat, alt, branch, star, plus, opt, marks, size}
use Rattle.meaning.specs.Tree.{opening, closing, letter, turn, Some, some, Tree, t_eps, t_pos, t_cat, t_left, t_right, t_branch, t_none, t_turn, t_once, t_more, t_skip, t_take}
use Rattle.positions.specs.Complete.{lift}
use Rattle.positions.specs.Parts.{Then, stay, over, puts, into, past, Close, close, Again, Closes}
use Rattle.positions.specs.Parts.{resume_cat_of, resume_cat_right, resume_left, resume_right, resume_branch_of, resume_opt_of, resume_star_of, plus_star}
use Rattle.positions.specs.Places.{In, Within, w_at, inside, placed, entered, resumed}
use Rattle.positions.specs.Positions.{Out, pass, at, Resume, r_pos}
use Rattle.positions.specs.Positions.{Enter, e_eps, e_pos, e_cat_in, e_cat_over, e_left, e_right}
use Rattle.positions.specs.Positions.{e_branch_in, e_branch_over, e_star_in, e_star_over, e_plus_in, e_plus_over, e_opt_in, e_opt_over}
use Rattle.positions.specs.Positions.{At, a_pos, a_cat_left, a_cat_right, a_left, a_right, a_branch, a_star, a_plus, a_opt}
use Rattle.positions.specs.Positions.{Trace, done, step, link, Walk}

-- a walk of e that stands in x and cannot leave it is one of x
module _ {m p m' p' : ℕ} {x e : Re}
    (read : (j b : ℕ) → In p x j → At p' e j b → At p x j b)
    (go : (j : ℕ) (ρ : List ℕ) (o : Out) → In p x j → Resume m' p' e j ρ o → Resume m p x j ρ o) where
  lower : {o : Out} {s r : List ℕ} → Within p x o → Trace m' p' e o s r → Trace m p x o s r
  lower i done = done
  lower (w_at i) (step a w t) = let w' = go _ _ _ i w in step (read _ _ i a) w' (lower (resumed w') t)

-- a walk of e from position q of x: a walk of x, and what comes after it
data Part (m p : ℕ) (x : Re) (After : List ℕ → List ℕ → Type 0) (q : ℕ) : List ℕ → List ℕ → Type 0 where
  part : {s₁ s₂ r₁ r₂ : List ℕ} → Trace m p x (at q) s₁ r₁ → After s₂ r₂ → Part m p x After q (s₁ ++ s₂) (r₁ ++ r₂)

data Later (m p : ℕ) (x : Re) (After : List ℕ → List ℕ → Type 0) : Out → List ℕ → List ℕ → Type 0 where
  passed : Later m p x After pass [] []
  later : {q : ℕ} {s r : List ℕ} → (In p x q → Part m p x After q s r) → Later m p x After (at q) s r

module _ {m p m' p' : ℕ} {x e : Re} (Exit : List ℕ → Out → Type 0) (After : List ℕ → List ℕ → Type 0)
    (read : (j b : ℕ) → In p x j → At p' e j b → At p x j b)
    (go : (j : ℕ) (ρ : List ℕ) (o : Out) → In p x j → Resume m' p' e j ρ o → Then (Resume m p x j) Exit ρ o)
    (after : (τ : List ℕ) (o : Out) (s r : List ℕ) → Exit τ o → Trace m' p' e o s r → Later m p x After o s r → After s (τ ++ r)) where
  split_on : {j b : ℕ} {ρ : List ℕ} {s r : List ℕ} {q : ℕ} → At p x j b → Resume m p x j ρ (at q) → Part m p x After q s r → Part m p x After j (b ∷ s) (letter b ∷ (ρ ++ r))
  split_on a w (part t f) = rw (← append_assoc) (part (step a w t) f)

  split_step : {j b : ℕ} {ρ : List ℕ} {o : Out} {s r : List ℕ} → At p x j b → Then (Resume m p x j) Exit ρ o → Trace m' p' e o s r → Later m p x After o s r
      → Part m p x After j (b ∷ s) (letter b ∷ (ρ ++ r))
  split_step a (stay w) t (later k) = split_on a w (k (inside (resumed w)))
  split_step {ρ = _} {s = s} {r = r} a (over {ρ = ρ} {τ = τ} {o = o} w g) t k = rw (append_assoc, ← append-nil ρ) (part (step a w done) (after τ o s r g t k))

  split : {o : Out} {s r : List ℕ} → Trace m' p' e o s r → Later m p x After o s r
  split done = passed
  split (step a w t) = later (λ i. split_step (read _ _ i a) (go _ _ _ i w) t (split t))

-- what the positions of a part read
module _ {p : ℕ} {x y : Re} where
  cat_read_left : {j b : ℕ} → In p x j → At p (cat x y) j b → At p x j b
  cat_read_left i (a_cat_left a) = a
  cat_read_left i (a_cat_right a) = let h = placed a in absurd (omega arith)

  cat_read_right : {j b : ℕ} → In (p + size x) y j → At p (cat x y) j b → At (p + size x) y j b
  cat_read_right i (a_cat_left a) = let h = placed a in absurd (omega arith)
  cat_read_right i (a_cat_right a) = a

  alt_read_left : {j b : ℕ} → In p x j → At p (alt x y) j b → At p x j b
  alt_read_left i (a_left a) = a
  alt_read_left i (a_right a) = let h = placed a in absurd (omega arith)

  alt_read_right : {j b : ℕ} → In (p + size x) y j → At p (alt x y) j b → At (p + size x) y j b
  alt_read_right i (a_left a) = let h = placed a in absurd (omega arith)
  alt_read_right i (a_right a) = a

module _ {p j b : ℕ} {x : Re} where
  branch_read : At p (branch x) j b → At p x j b
  branch_read (a_branch a) = a

  opt_read : At p (opt x) j b → At p x j b
  opt_read (a_opt a) = a

  star_read : At p (star x) j b → At p x j b
  star_read (a_star a) = a

  plus_star_read : At p (plus x) j b → At p (star x) j b
  plus_star_read (a_plus a) = a_star a

module _ {m p : ℕ} {x y : Re} where
  cat_lower : {o : Out} {s r : List ℕ} → Within (p + size x) y o → Trace m p (cat x y) o s r → Trace (m + marks x) (p + size x) y o s r
  cat_lower = lower (λ j b i a. cat_read_right i a) (λ j ρ o i w. resume_cat_right i w)

  alt_lower_left : {o : Out} {s r : List ℕ} → Within p x o → Trace m p (alt x y) o s r → Trace m p x o s r
  alt_lower_left = lower (λ j b i a. alt_read_left i a) (λ j ρ o i w. resume_left i w)

  alt_lower_right : {o : Out} {s r : List ℕ} → Within (p + size x) y o → Trace m p (alt x y) o s r → Trace (m + marks x) (p + size x) y o s r
  alt_lower_right = lower (λ j b i a. alt_read_right i a) (λ j ρ o i w. resume_right i w)

abbrev Sound : ℕ → ℕ → Re → Type 0
Sound m p e = (ρ : List ℕ) (o : Out) (s r : List ℕ) → Enter m p e ρ o → Trace m p e o s r → Tree m e s (ρ ++ r)

pick : {m p q : ℕ} {x : Re} {After : List ℕ → List ℕ → Type 0} {s r : List ℕ} → Later m p x After (at q) s r → In p x q → Part m p x After q s r
pick (later k) i = k i

full : {m p q : ℕ} {e : Re} {s r : List ℕ} → Trace m p e (at q) s r → Some s
full (step a w t) = some

module _ {m p : ℕ} {x y : Re} (f : Sound m p x) (g : Sound (m + marks x) (p + size x) y) where
  cat_part : {q : ℕ} {ρ s r : List ℕ} → Enter m p x ρ (at q) → Part m p x (Tree (m + marks x) y) q s r → Tree m (cat x y) s (ρ ++ r)
  cat_part e (part t u) = rw (← append_assoc) (t_cat (f _ _ _ _ e t) u)

  cat_sound : {ρ : List ℕ} {o : Out} {s r : List ℕ} → Enter m p (cat x y) ρ o → Trace m p (cat x y) o s r → Tree m (cat x y) s (ρ ++ r)
  cat_sound (e_cat_in e) t = cat_part e (pick (split (Enter (m + marks x) (p + size x) y) (Tree (m + marks x) y) (λ j b i a. cat_read_left i a) (λ j ρ o i w. resume_cat_of i w)
      (λ τ o s r e' t k. g τ o s r e' (cat_lower (entered e') t)) t) (inside (entered e)))
  cat_sound (e_cat_over {ρ₁ = ρ₁} e e') t = rw (append_assoc, ← append-nil ρ₁) (t_cat (f _ _ _ _ e done) (g _ _ _ _ e' (cat_lower (entered e') t)))

  alt_sound : {ρ : List ℕ} {o : Out} {s r : List ℕ} → Enter m p (alt x y) ρ o → Trace m p (alt x y) o s r → Tree m (alt x y) s (ρ ++ r)
  alt_sound (e_left e) t = t_left (f _ _ _ _ e (alt_lower_left (entered e) t))
  alt_sound (e_right e) t = t_right (g _ _ _ _ e (alt_lower_right (entered e) t))

-- what comes after a turn: nothing, or more turns
data Closed (m : ℕ) : List ℕ → List ℕ → Type 0 where
  closed : Closed m [] (closing m ∷ [])

close_after : {m m' p' : ℕ} {e : Re} {τ : List ℕ} {o : Out} {s r : List ℕ} → Close m τ o → Trace m' p' e o s r → Closed m s (τ ++ r)
close_after close done = closed

data More (m : ℕ) (x : Re) : List ℕ → List ℕ → Type 0 where
  more : {s r : List ℕ} → Tree m (star x) s r → More m x s (closing m ∷ r)

some_append : {s : List ℕ} → Some s → (t : List ℕ) → Some (s ++ t)
some_append some t = some

module _ {m p : ℕ} {x : Re} (f : Sound (suc m) p x) where
  -- a turn in e that is the only one
  only_part : {q : ℕ} {e : Re} {ρ s r : List ℕ} → ((s r : List ℕ) → Some s → Tree (suc m) x s r → Tree m e s (turn m r))
      → Enter (suc m) p x ρ (at q) → Part (suc m) p x (Closed m) q s r → Tree m e s (opening m ∷ (ρ ++ r))
  only_part wrap e (part t closed) = simp (append-nil, ← append_assoc) (wrap _ _ (full t) (f _ _ _ _ e t))

  only_turn : {q : ℕ} {e : Re} {ρ s r : List ℕ} → ((j b : ℕ) → At p e j b → At p x j b) → ((j : ℕ) (ρ : List ℕ) (o : Out) → Resume m p e j ρ o → Closes m p x j ρ o)
      → ((s r : List ℕ) → Some s → Tree (suc m) x s r → Tree m e s (turn m r)) → Enter (suc m) p x ρ (at q) → Trace m p e (at q) s r → Tree m e s (opening m ∷ (ρ ++ r))
  only_turn read of wrap e t = only_part wrap e (pick (split (Close m) (Closed m) (λ j b i a. read j b a) (λ j ρ o i w. of j ρ o w) (λ τ o s r g t k. close_after g t) t) (inside (entered e)))

  branch_sound : {ρ : List ℕ} {o : Out} {s r : List ℕ} → Enter m p (branch x) ρ o → Trace m p (branch x) o s r → Tree m (branch x) s (ρ ++ r)
  branch_sound (e_branch_in e) t = only_turn (λ j b a. branch_read a) (λ j ρ o w. resume_branch_of w) (λ s r n t. t_branch t) e t
  branch_sound (e_branch_over e) done = rw append-nil (t_branch (rw append-nil at (f _ _ _ _ e done)))

  opt_sound : {ρ : List ℕ} {o : Out} {s r : List ℕ} → Enter m p (opt x) ρ o → Trace m p (opt x) o s r → Tree m (opt x) s (ρ ++ r)
  opt_sound (e_opt_in e) t = only_turn (λ j b a. opt_read a) (λ j ρ o w. resume_opt_of w) (λ s r n t. t_take n t) e t
  opt_sound e_opt_over done = t_skip

  star_part : {q : ℕ} {ρ s r : List ℕ} → Enter (suc m) p x ρ (at q) → Part (suc m) p x (More m x) q s r → Tree m (star x) s (suc m ∷ (ρ ++ r))
  star_part e (part t (more u)) = simp append_assoc at (t_turn (full t) (f _ _ _ _ e t) u)

  star_after : {τ : List ℕ} {o : Out} {s r : List ℕ} → Again m p x τ o → Trace m p (star x) o s r → Later (suc m) p x (More m x) o s r → More m x s (τ ++ r)
  star_after (puts past) done k = more t_none
  star_after (puts (into e)) t k = more (star_part e (pick k (inside (entered e))))

  star_split : {q : ℕ} {s r : List ℕ} → Trace m p (star x) (at q) s r → In p x q → Part (suc m) p x (More m x) q s r
  star_split t i = pick (split (Again m p x) (More m x) (λ j b i a. star_read a) (λ j ρ o i w. resume_star_of w) (λ τ o s r g t k. star_after g t k) t) i

  star_sound : {ρ : List ℕ} {o : Out} {s r : List ℕ} → Enter m p (star x) ρ o → Trace m p (star x) o s r → Tree m (star x) s (ρ ++ r)
  star_sound (e_star_in e) t = star_part e (star_split t (inside (entered e)))
  star_sound e_star_over done = t_none

  plus_part : {q : ℕ} {ρ s r : List ℕ} → Enter (suc m) p x ρ (at q) → Part (suc m) p x (More m x) q s r → Tree m (plus x) s (suc m ∷ (ρ ++ r))
  plus_part e (part t (more t_none)) = rw append-nil (simp append_assoc at (t_once (f _ _ _ _ e t)))
  plus_part e (part t (more (t_turn {s₂ = s} n u v))) = simp append_assoc (simp append_assoc at (t_more (full t) (f _ _ _ _ e t) (some_append n s) (t_turn n u v)))

  plus_sound : {ρ : List ℕ} {o : Out} {s r : List ℕ} → Enter m p (plus x) ρ o → Trace m p (plus x) o s r → Tree m (plus x) s (ρ ++ r)
  plus_sound (e_plus_in e) t = plus_part e (star_split (lift (λ j b a. plus_star_read a) (λ j ρ o w. plus_star w) t) (inside (entered e)))
  plus_sound (e_plus_over e) done = rw append-nil (t_once (rw append-nil at (f _ _ _ _ e done)))

-- position q of `pos c` is p, and yet a variable here: a match at p itself would need K
pos_read : {p q b : ℕ} {c : ℕ → Bool} → At p (pos c) q b → c b ≡ true
pos_read (a_pos h) = h

pos_step : {m p q b : ℕ} {c : ℕ → Bool} {ρ : List ℕ} {o : Out} {s r : List ℕ} → c b ≡ true → Resume m p (pos c) q ρ o → Trace m p (pos c) o s r → Tree m (pos c) (b ∷ s) (letter b ∷ (ρ ++ r))
pos_step h r_pos done = t_pos h

pub sound : (m p : ℕ) (e : Re) (ρ : List ℕ) (o : Out) (s r : List ℕ) → Enter m p e ρ o → Trace m p e o s r → Tree m e s (ρ ++ r)
sound m p eps ρ o s r e_eps done = t_eps
sound m p (pos c) ρ o s r e_pos (step a w t) = pos_step (pos_read a) w t
sound m p (cat x y) ρ o s r e t = cat_sound (sound m p x) (sound (m + marks x) (p + size x) y) e t
sound m p (alt x y) ρ o s r e t = alt_sound (sound m p x) (sound (m + marks x) (p + size x) y) e t
sound m p (branch x) ρ o s r e t = branch_sound (sound (suc m) p x) e t
sound m p (star x) ρ o s r e t = star_sound (sound (suc m) p x) e t
sound m p (plus x) ρ o s r e t = plus_sound (sound (suc m) p x) e t
sound m p (opt x) ρ o s r e t = opt_sound (sound (suc m) p x) e t

pub walked : {m p : ℕ} {e : Re} {s r : List ℕ} → Walk m p e s r → Tree m e s r
walked (link e t) = sound _ _ _ _ _ _ _ e t
