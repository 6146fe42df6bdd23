-- Positions: between two letters a tree writes only marks, and which rows of marks may stand there depends on the two positions alone.
use Rattle.std.specs.Prelude.{◌≡◌, Bool, true, List, [], ◌∷◌, ◌++◌, ℕ, suc, ◌+◌}
use Rattle.std.proofs.Common.{arith}
use Rattle.meaning.specs.Expression.{Re, eps, pos, cat, alt, branch, star, plus, opt, marks, size}
use Rattle.meaning.specs.Tree.{opening, closing, letter, turn}

-- where a row of marks ends: past the expression, or before a position of it
pub data Out : Type 0 where
  pass : Out
  at : ℕ → Out

-- m marks and p positions stand before e. From its start, writing the marks ρ, one passes e over no text or stands before a position
pub data Enter : ℕ → ℕ → Re → List ℕ → Out → Type 0 where
  e_eps : {m p : ℕ} → Enter m p eps [] pass
  e_pos : {m p : ℕ} {c : ℕ → Bool} → Enter m p (pos c) [] (at p)
  e_cat_in : {m p q : ℕ} {x y : Re} {ρ : List ℕ} → Enter m p x ρ (at q) → Enter m p (cat x y) ρ (at q)
  e_cat_over : {m p : ℕ} {x y : Re} {ρ₁ ρ₂ : List ℕ} {o : Out} → Enter m p x ρ₁ pass → Enter (m + marks x) (p + size x) y ρ₂ o → Enter m p (cat x y) (ρ₁ ++ ρ₂) o
  e_left : {m p : ℕ} {x y : Re} {ρ : List ℕ} {o : Out} → Enter m p x ρ o → Enter m p (alt x y) ρ o
  e_right : {m p : ℕ} {x y : Re} {ρ : List ℕ} {o : Out} → Enter (m + marks x) (p + size x) y ρ o → Enter m p (alt x y) ρ o
  e_branch_in : {m p q : ℕ} {x : Re} {ρ : List ℕ} → Enter (suc m) p x ρ (at q) → Enter m p (branch x) (opening m ∷ ρ) (at q)
  e_branch_over : {m p : ℕ} {x : Re} {ρ : List ℕ} → Enter (suc m) p x ρ pass → Enter m p (branch x) (turn m ρ) pass
  e_star_in : {m p q : ℕ} {x : Re} {ρ : List ℕ} → Enter (suc m) p x ρ (at q) → Enter m p (star x) (opening m ∷ ρ) (at q)
  e_star_over : {m p : ℕ} {x : Re} → Enter m p (star x) [] pass
  e_plus_in : {m p q : ℕ} {x : Re} {ρ : List ℕ} → Enter (suc m) p x ρ (at q) → Enter m p (plus x) (opening m ∷ ρ) (at q)
  e_plus_over : {m p : ℕ} {x : Re} {ρ : List ℕ} → Enter (suc m) p x ρ pass → Enter m p (plus x) (turn m ρ) pass
  e_opt_in : {m p q : ℕ} {x : Re} {ρ : List ℕ} → Enter (suc m) p x ρ (at q) → Enter m p (opt x) (opening m ∷ ρ) (at q)
  e_opt_over : {m p : ℕ} {x : Re} → Enter m p (opt x) [] pass

-- having just read position j of e, writing ρ, one leaves e or stands before a position
pub data Resume : ℕ → ℕ → Re → ℕ → List ℕ → Out → Type 0 where
  r_pos : {m p : ℕ} {c : ℕ → Bool} → Resume m p (pos c) p [] pass
  r_cat_in : {m p j q : ℕ} {x y : Re} {ρ : List ℕ} → Resume m p x j ρ (at q) → Resume m p (cat x y) j ρ (at q)
  r_cat_over : {m p j : ℕ} {x y : Re} {ρ₁ ρ₂ : List ℕ} {o : Out} → Resume m p x j ρ₁ pass → Enter (m + marks x) (p + size x) y ρ₂ o → Resume m p (cat x y) j (ρ₁ ++ ρ₂) o
  r_cat_right : {m p j : ℕ} {x y : Re} {ρ : List ℕ} {o : Out} → Resume (m + marks x) (p + size x) y j ρ o → Resume m p (cat x y) j ρ o
  r_left : {m p j : ℕ} {x y : Re} {ρ : List ℕ} {o : Out} → Resume m p x j ρ o → Resume m p (alt x y) j ρ o
  r_right : {m p j : ℕ} {x y : Re} {ρ : List ℕ} {o : Out} → Resume (m + marks x) (p + size x) y j ρ o → Resume m p (alt x y) j ρ o
  r_branch_in : {m p j q : ℕ} {x : Re} {ρ : List ℕ} → Resume (suc m) p x j ρ (at q) → Resume m p (branch x) j ρ (at q)
  r_branch_out : {m p j : ℕ} {x : Re} {ρ : List ℕ} → Resume (suc m) p x j ρ pass → Resume m p (branch x) j (ρ ++ (closing m ∷ [])) pass
  r_star_in : {m p j q : ℕ} {x : Re} {ρ : List ℕ} → Resume (suc m) p x j ρ (at q) → Resume m p (star x) j ρ (at q)
  r_star_out : {m p j : ℕ} {x : Re} {ρ : List ℕ} → Resume (suc m) p x j ρ pass → Resume m p (star x) j (ρ ++ (closing m ∷ [])) pass
  r_star_again : {m p j q : ℕ} {x : Re} {ρ₁ ρ₂ : List ℕ} → Resume (suc m) p x j ρ₁ pass → Enter (suc m) p x ρ₂ (at q) → Resume m p (star x) j (ρ₁ ++ (closing m ∷ opening m ∷ ρ₂)) (at q)
  r_plus_in : {m p j q : ℕ} {x : Re} {ρ : List ℕ} → Resume (suc m) p x j ρ (at q) → Resume m p (plus x) j ρ (at q)
  r_plus_out : {m p j : ℕ} {x : Re} {ρ : List ℕ} → Resume (suc m) p x j ρ pass → Resume m p (plus x) j (ρ ++ (closing m ∷ [])) pass
  r_plus_again : {m p j q : ℕ} {x : Re} {ρ₁ ρ₂ : List ℕ} → Resume (suc m) p x j ρ₁ pass → Enter (suc m) p x ρ₂ (at q) → Resume m p (plus x) j (ρ₁ ++ (closing m ∷ opening m ∷ ρ₂)) (at q)
  r_opt_in : {m p j q : ℕ} {x : Re} {ρ : List ℕ} → Resume (suc m) p x j ρ (at q) → Resume m p (opt x) j ρ (at q)
  r_opt_out : {m p j : ℕ} {x : Re} {ρ : List ℕ} → Resume (suc m) p x j ρ pass → Resume m p (opt x) j (ρ ++ (closing m ∷ [])) pass

-- position j of e reads the byte b
pub data At : ℕ → Re → ℕ → ℕ → Type 0 where
  a_pos : {p b : ℕ} {c : ℕ → Bool} → c b ≡ true → At p (pos c) p b
  a_cat_left : {p j b : ℕ} {x y : Re} → At p x j b → At p (cat x y) j b
  a_cat_right : {p j b : ℕ} {x y : Re} → At (p + size x) y j b → At p (cat x y) j b
  a_left : {p j b : ℕ} {x y : Re} → At p x j b → At p (alt x y) j b
  a_right : {p j b : ℕ} {x y : Re} → At (p + size x) y j b → At p (alt x y) j b
  a_branch : {p j b : ℕ} {x : Re} → At p x j b → At p (branch x) j b
  a_star : {p j b : ℕ} {x : Re} → At p x j b → At p (star x) j b
  a_plus : {p j b : ℕ} {x : Re} → At p x j b → At p (plus x) j b
  a_opt : {p j b : ℕ} {x : Re} → At p x j b → At p (opt x) j b

-- the text s is read from there to the end of e, writing r
pub data Trace (m p : ℕ) (e : Re) : Out → List ℕ → List ℕ → Type 0 where
  done : Trace m p e pass [] []
  step : {q b : ℕ} {ρ : List ℕ} {o : Out} {s r : List ℕ} → At p e q b → Resume m p e q ρ o → Trace m p e o s r → Trace m p e (at q) (b ∷ s) (letter b ∷ (ρ ++ r))

-- a way R, and then the text s read from where it ends
pub data Chain (m p : ℕ) (e : Re) (R : List ℕ → Out → Type 0) (s : List ℕ) : List ℕ → Type 0 where
  link : {ρ : List ℕ} {o : Out} {r : List ℕ} → R ρ o → Trace m p e o s r → Chain m p e R s (ρ ++ r)

-- a whole walk
abbrev pub Walk : ℕ → ℕ → Re → List ℕ → List ℕ → Type 0
Walk m p e = Chain m p e (Enter m p e)

pub walk : {m p : ℕ} {e : Re} {ρ : List ℕ} {o : Out} {s r : List ℕ} → Enter m p e ρ o → Trace m p e o s r → Walk m p e s (ρ ++ r)
walk w t = link w t

pub at_pass : {q : ℕ} → at q ≡ pass → ⊥
at_pass e = let z : ◌≡◌ {A = ℕ} 0 1 = cc in omega arith

pub pass_at : {q : ℕ} → pass ≡ at q → ⊥
pass_at e = let z : ◌≡◌ {A = ℕ} 0 1 = cc in omega arith
