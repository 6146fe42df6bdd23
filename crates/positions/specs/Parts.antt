-- Parts: how the ways into an expression, and the ways on from a position of it, are put together from those of its parts.
use Rattle.std.specs.Prelude.{◌≡◌, refl, Bool, List, [], ◌∷◌, ◌++◌, ◌⊎◌, ℕ, suc, ◌+◌}
use Rattle.std.proofs.Common.{inl, inr, arith}
use Rattle.meaning.specs.Expression.{Re, eps, pos, cat, alt, branch, star, plus, opt, marks, size}
use Rattle.meaning.specs.Tree.{opening, closing}
use Rattle.positions.specs.Places.{In, source}
use Rattle.positions.specs.Positions.{Out, pass, at}
use Rattle.positions.specs.Positions.{Enter, e_eps, e_pos, e_cat_in, e_cat_over, e_branch_in, e_branch_over, e_star_in, e_star_over, e_plus_in, e_plus_over, e_opt_in, e_opt_over}
use Rattle.positions.specs.Positions.{Resume, r_pos, r_cat_in, r_cat_over, r_cat_right, r_left, r_right}
use Rattle.positions.specs.Positions.{r_branch_in, r_branch_out, r_star_in, r_star_out, r_star_again, r_plus_in, r_plus_out, r_plus_again, r_opt_in, r_opt_out}

-- a way R and, where it passes, then a way S
pub data Then (R S : List ℕ → Out → Type 0) : List ℕ → Out → Type 0 where
  stay : {q : ℕ} {ρ : List ℕ} → R ρ (at q) → Then R S ρ (at q)
  over : {ρ τ : List ℕ} {o : Out} → R ρ pass → S τ o → Then R S (ρ ++ τ) o

-- the token t and then a way R
pub data Put (t : ℕ) (R : List ℕ → Out → Type 0) : List ℕ → Out → Type 0 where
  puts : {ρ : List ℕ} {o : Out} → R ρ o → Put t R (t ∷ ρ) o

-- a turn by a way R that stands before a position, or no turn
pub data Loop (m : ℕ) (R : List ℕ → Out → Type 0) : List ℕ → Out → Type 0 where
  into : {q : ℕ} {ρ : List ℕ} → R ρ (at q) → Loop m R (opening m ∷ ρ) (at q)
  past : Loop m R [] pass

-- the turn is closed, and that is all
pub data Close (m : ℕ) : List ℕ → Out → Type 0 where
  close : Close m (closing m ∷ []) pass

-- the turn is closed, and there may be another
abbrev pub Again : ℕ → ℕ → Re → List ℕ → Out → Type 0
Again m p x = Put (closing m) (Loop m (Enter (suc m) p x))

-- the ways in
abbrev pub Opens : ℕ → ℕ → Re → List ℕ → Out → Type 0
Opens m p x = Then (Put (opening m) (Enter (suc m) p x)) (Close m)

abbrev pub Turns : ℕ → ℕ → Re → List ℕ → Out → Type 0
Turns m p x = Loop m (Enter (suc m) p x)

abbrev pub Crosses : ℕ → ℕ → Re → Re → List ℕ → Out → Type 0
Crosses m p x y = Then (Enter m p x) (Enter (m + marks x) (p + size x) y)

module _ {m p : ℕ} {x y : Re} where
  pub enter_cat_to : {ρ : List ℕ} {o : Out} → Crosses m p x y ρ o → Enter m p (cat x y) ρ o
  enter_cat_to (stay w) = e_cat_in w
  enter_cat_to (over w w') = e_cat_over w w'

  pub enter_cat_of : {ρ : List ℕ} {o : Out} → Enter m p (cat x y) ρ o → Crosses m p x y ρ o
  enter_cat_of (e_cat_in w) = stay w
  enter_cat_of (e_cat_over w w') = over w w'

module _ {m p : ℕ} {x : Re} where
  branch_in : {q : ℕ} {ρ : List ℕ} → Put (opening m) (Enter (suc m) p x) ρ (at q) → Enter m p (branch x) ρ (at q)
  branch_in (puts w) = e_branch_in w

  branch_over : {ρ τ : List ℕ} {o : Out} → Put (opening m) (Enter (suc m) p x) ρ pass → Close m τ o → Enter m p (branch x) (ρ ++ τ) o
  branch_over (puts w) close = e_branch_over w

  pub enter_branch_to : {ρ : List ℕ} {o : Out} → Opens m p x ρ o → Enter m p (branch x) ρ o
  enter_branch_to (stay w) = branch_in w
  enter_branch_to (over w c) = branch_over w c

  pub enter_branch_of : {ρ : List ℕ} {o : Out} → Enter m p (branch x) ρ o → Opens m p x ρ o
  enter_branch_of (e_branch_in w) = stay (puts w)
  enter_branch_of (e_branch_over w) = over (puts w) close

  branch_plus : {ρ : List ℕ} {o : Out} → Enter m p (branch x) ρ o → Enter m p (plus x) ρ o
  branch_plus (e_branch_in w) = e_plus_in w
  branch_plus (e_branch_over w) = e_plus_over w

  pub enter_plus_to : {ρ : List ℕ} {o : Out} → Opens m p x ρ o → Enter m p (plus x) ρ o
  enter_plus_to w = branch_plus (enter_branch_to w)

  pub enter_plus_of : {ρ : List ℕ} {o : Out} → Enter m p (plus x) ρ o → Opens m p x ρ o
  enter_plus_of (e_plus_in w) = stay (puts w)
  enter_plus_of (e_plus_over w) = over (puts w) close

  pub enter_star_to : {ρ : List ℕ} {o : Out} → Turns m p x ρ o → Enter m p (star x) ρ o
  enter_star_to (into w) = e_star_in w
  enter_star_to past = e_star_over

  pub enter_star_of : {ρ : List ℕ} {o : Out} → Enter m p (star x) ρ o → Turns m p x ρ o
  enter_star_of (e_star_in w) = into w
  enter_star_of e_star_over = past

  pub enter_opt_to : {ρ : List ℕ} {o : Out} → Turns m p x ρ o → Enter m p (opt x) ρ o
  enter_opt_to (into w) = e_opt_in w
  enter_opt_to past = e_opt_over

  pub enter_opt_of : {ρ : List ℕ} {o : Out} → Enter m p (opt x) ρ o → Turns m p x ρ o
  enter_opt_of (e_opt_in w) = into w
  enter_opt_of e_opt_over = past

-- the ways on
abbrev pub Closes : ℕ → ℕ → Re → ℕ → List ℕ → Out → Type 0
Closes m p x j = Then (Resume (suc m) p x j) (Close m)

abbrev pub Repeats : ℕ → ℕ → Re → ℕ → List ℕ → Out → Type 0
Repeats m p x j = Then (Resume (suc m) p x j) (Again m p x)

abbrev pub Leaves : ℕ → ℕ → Re → Re → ℕ → List ℕ → Out → Type 0
Leaves m p x y j = Then (Resume m p x j) (Enter (m + marks x) (p + size x) y)

module _ {m p j : ℕ} {x y : Re} where
  pub resume_cat_to : {ρ : List ℕ} {o : Out} → Leaves m p x y j ρ o → Resume m p (cat x y) j ρ o
  resume_cat_to (stay w) = r_cat_in w
  resume_cat_to (over w u) = r_cat_over w u

  pub resume_cat_of : {ρ : List ℕ} {o : Out} → In p x j → Resume m p (cat x y) j ρ o → Leaves m p x y j ρ o
  resume_cat_of i (r_cat_in w) = stay w
  resume_cat_of i (r_cat_over w u) = over w u
  resume_cat_of i (r_cat_right w) = let h = source w in absurd (omega arith)

  pub resume_cat_right : {ρ : List ℕ} {o : Out} → In (p + size x) y j → Resume m p (cat x y) j ρ o → Resume (m + marks x) (p + size x) y j ρ o
  resume_cat_right i (r_cat_in w) = let h = source w in absurd (omega arith)
  resume_cat_right i (r_cat_over w g) = let h = source w in absurd (omega arith)
  resume_cat_right i (r_cat_right w) = w

  pub resume_left : {ρ : List ℕ} {o : Out} → In p x j → Resume m p (alt x y) j ρ o → Resume m p x j ρ o
  resume_left i (r_left w) = w
  resume_left i (r_right w) = let h = source w in absurd (omega arith)

  pub resume_right : {ρ : List ℕ} {o : Out} → In (p + size x) y j → Resume m p (alt x y) j ρ o → Resume (m + marks x) (p + size x) y j ρ o
  resume_right i (r_left w) = let h = source w in absurd (omega arith)
  resume_right i (r_right w) = w

  pub cat_side : {ρ : List ℕ} {o : Out} → Resume m p (cat x y) j ρ o → In p x j ⊎ In (p + size x) y j
  cat_side (r_cat_in w) = inl (source w)
  cat_side (r_cat_over w u) = inl (source w)
  cat_side (r_cat_right w) = inr (source w)

  pub alt_side : {ρ : List ℕ} {o : Out} → Resume m p (alt x y) j ρ o → In p x j ⊎ In (p + size x) y j
  alt_side (r_left w) = inl (source w)
  alt_side (r_right w) = inr (source w)

module _ {m p j : ℕ} {x : Re} where
  branch_out : {ρ τ : List ℕ} {o : Out} → Resume (suc m) p x j ρ pass → Close m τ o → Resume m p (branch x) j (ρ ++ τ) o
  branch_out w close = r_branch_out w

  pub resume_branch_to : {ρ : List ℕ} {o : Out} → Closes m p x j ρ o → Resume m p (branch x) j ρ o
  resume_branch_to (stay w) = r_branch_in w
  resume_branch_to (over w c) = branch_out w c

  pub resume_branch_of : {ρ : List ℕ} {o : Out} → Resume m p (branch x) j ρ o → Closes m p x j ρ o
  resume_branch_of (r_branch_in w) = stay w
  resume_branch_of (r_branch_out w) = over w close

  branch_opt : {ρ : List ℕ} {o : Out} → Resume m p (branch x) j ρ o → Resume m p (opt x) j ρ o
  branch_opt (r_branch_in w) = r_opt_in w
  branch_opt (r_branch_out w) = r_opt_out w

  pub resume_opt_to : {ρ : List ℕ} {o : Out} → Closes m p x j ρ o → Resume m p (opt x) j ρ o
  resume_opt_to w = branch_opt (resume_branch_to w)

  pub resume_opt_of : {ρ : List ℕ} {o : Out} → Resume m p (opt x) j ρ o → Closes m p x j ρ o
  resume_opt_of (r_opt_in w) = stay w
  resume_opt_of (r_opt_out w) = over w close

  turn_out : {ρ τ : List ℕ} {o : Out} → Resume (suc m) p x j ρ pass → Turns m p x τ o → Resume m p (star x) j (ρ ++ (closing m ∷ τ)) o
  turn_out w (into u) = r_star_again w u
  turn_out w past = r_star_out w

  star_out : {ρ τ : List ℕ} {o : Out} → Resume (suc m) p x j ρ pass → Again m p x τ o → Resume m p (star x) j (ρ ++ τ) o
  star_out w (puts u) = turn_out w u

  pub resume_star_to : {ρ : List ℕ} {o : Out} → Repeats m p x j ρ o → Resume m p (star x) j ρ o
  resume_star_to (stay w) = r_star_in w
  resume_star_to (over w u) = star_out w u

  pub resume_star_of : {ρ : List ℕ} {o : Out} → Resume m p (star x) j ρ o → Repeats m p x j ρ o
  resume_star_of (r_star_in w) = stay w
  resume_star_of (r_star_out w) = over w (puts past)
  resume_star_of (r_star_again w u) = over w (puts (into u))

  -- once in it, `plus x` goes on as `star x` does
  pub star_plus : {ρ : List ℕ} {o : Out} → Resume m p (star x) j ρ o → Resume m p (plus x) j ρ o
  star_plus (r_star_in w) = r_plus_in w
  star_plus (r_star_out w) = r_plus_out w
  star_plus (r_star_again w e) = r_plus_again w e

  pub plus_star : {ρ : List ℕ} {o : Out} → Resume m p (plus x) j ρ o → Resume m p (star x) j ρ o
  plus_star (r_plus_in w) = r_star_in w
  plus_star (r_plus_out w) = r_star_out w
  plus_star (r_plus_again w e) = r_star_again w e

  pub resume_plus_to : {ρ : List ℕ} {o : Out} → Repeats m p x j ρ o → Resume m p (plus x) j ρ o
  resume_plus_to w = star_plus (resume_star_to w)

  pub resume_plus_of : {ρ : List ℕ} {o : Out} → Resume m p (plus x) j ρ o → Repeats m p x j ρ o
  resume_plus_of w = resume_star_of (plus_star w)

-- the least parts
pub no_eps : {m p j : ℕ} {ρ : List ℕ} {o : Out} → Resume m p eps j ρ o → ⊥
no_eps w = elim w [ ]

pub pos_one : {m p j : ℕ} {c : ℕ → Bool} {ρ : List ℕ} {o : Out} → Resume m p (pos c) j ρ o → ([] ≡ ρ) × (pass ≡ o)
pos_one r_pos = (refl, refl)

pub close_one : {m : ℕ} {σ : List ℕ} {o : Out} → Close m σ o → ((closing m ∷ []) ≡ σ) × (pass ≡ o)
close_one close = (refl, refl)

pub eps_way : {m p : ℕ} {ρ : List ℕ} {o : Out} → Enter m p eps ρ o → ([] ≡ ρ) × (pass ≡ o)
eps_way e_eps = (refl, refl)

pub pos_way : {m p : ℕ} {c : ℕ → Bool} {ρ : List ℕ} {o : Out} → Enter m p (pos c) ρ o → ([] ≡ ρ) × (at p ≡ o)
pos_way e_pos = (refl, refl)
