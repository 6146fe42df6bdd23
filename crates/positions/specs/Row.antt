-- The row decides: two walks that write the same row stand at the same place.
use Rattle.std.specs.Prelude.{◌≡◌, refl, ◌⊎◌, ℕ, suc, ◌+◌, ◌≤◌, ◌<◌}
use Rattle.std.proofs.Common.{sym, ◌∙◌, inl, inr, arith}
use mathlib.Core.List.{List, [], ◌∷◌, ◌++◌, append_assoc, cons≢nil, nil≢cons, head-eq_of_cons-eq, tail-eq_of_cons-eq}
use Rattle.meaning.specs.Expression.{Re, alt, marks, size}
use Rattle.meaning.specs.Tree.{opening, closing, letter}
use Rattle.grammar.specs.Fair.{Marked, k_cat, k_alt, k_branch, k_plus, Fair, f_eps, f_pos, f_cat, f_alt, f_branch, f_star, f_plus, f_opt}
use Rattle.positions.specs.Parts.{Then, stay, over, Put, puts, Loop, into, past, Close, close}
use Rattle.positions.specs.Parts.{enter_cat_of, enter_branch_of, enter_plus_of, enter_star_of, enter_opt_of, close_one, eps_way, pos_way}
use Rattle.positions.specs.Parts.{resume_cat_of, resume_cat_right, resume_left, resume_right, cat_side, alt_side, no_eps, pos_one}
use Rattle.positions.specs.Parts.{resume_branch_of, resume_opt_of, resume_star_of, resume_plus_of}
use Rattle.positions.specs.Positions.{Out, pass, at, at_pass, pass_at, Resume, At}
use Rattle.positions.specs.Positions.{Enter, e_eps, e_pos, e_cat_in, e_cat_over, e_left, e_right}
use Rattle.positions.specs.Positions.{e_branch_in, e_branch_over, e_star_in, e_star_over, e_plus_in, e_plus_over, e_opt_in, e_opt_over}

-- a token of the k marks that m marks stand before
pub data Own (m k : ℕ) : ℕ → Type 0 where
  o_open : {i : ℕ} → m ≤ i → i < m + k → Own m k (opening i)
  o_close : {i : ℕ} → m ≤ i → i < m + k → Own m k (closing i)

own_wider : {m k m' k' t : ℕ} → m ≤ m' → m' + k' ≤ m + k → Own m' k' t → Own m k t
own_wider h h' (o_open {i = i} a b) = o_open {i = i} (omega arith) (omega arith)
own_wider h h' (o_close {i = i} a b) = o_close {i = i} (omega arith) (omega arith)

own_apart : {m k m' k' t t' : ℕ} → m + k ≤ m' → m' + k' ≤ 127 → Own m k t → Own m' k' t' → t ≡ t' → ⊥
own_apart h h' (o_open a b) (o_open c d) e = omega arith
own_apart h h' (o_open a b) (o_close c d) e = omega arith
own_apart h h' (o_close a b) (o_open c d) e = omega arith
own_apart h h' (o_close a b) (o_close c d) e = omega arith

-- a row that begins with an opening one of them
pub data Begun (m k : ℕ) : List ℕ → Type 0 where
  begun : {i : ℕ} {ρ : List ℕ} → m ≤ i → i < m + k → Begun m k (opening i ∷ ρ)

begun_open : (m k : ℕ) (ρ : List ℕ) → Begun m (suc k) (opening m ∷ ρ)
begun_open m k ρ = begun {i = m} (omega arith) (omega arith)

begun_append : {m k : ℕ} {ρ : List ℕ} → Begun m k ρ → (τ : List ℕ) → Begun m k (ρ ++ τ)
begun_append (begun a b) τ = begun a b

begun_wider : {m k m' k' : ℕ} {ρ : List ℕ} → m ≤ m' → m' + k' ≤ m + k → Begun m' k' ρ → Begun m k ρ
begun_wider h h' (begun {i = i} a b) = begun {i = i} (omega arith) (omega arith)

-- an empty row, or such a one
pub data Row (m k : ℕ) : List ℕ → Type 0 where
  row_nil : Row m k []
  row_cons : {ρ : List ℕ} → Begun m k ρ → Row m k ρ

row_append : {m k : ℕ} {ρ₁ ρ₂ : List ℕ} → Row m k ρ₁ → Row m k ρ₂ → Row m k (ρ₁ ++ ρ₂)
row_append row_nil r = r
row_append (row_cons b) r = row_cons (begun_append b _)

row_wider : {m k m' k' : ℕ} {ρ : List ℕ} → m ≤ m' → m' + k' ≤ m + k → Row m' k' ρ → Row m k ρ
row_wider h h' row_nil = row_nil
row_wider h h' (row_cons b) = row_cons (begun_wider h h' b)

pub enter_row : {m p : ℕ} {e : Re} {ρ : List ℕ} {o : Out} → Enter m p e ρ o → Row m (marks e) ρ
unfolding marks
enter_row e_eps = row_nil
enter_row e_pos = row_nil
enter_row (e_cat_in e) = row_wider (omega arith) (omega arith) (enter_row e)
enter_row (e_cat_over e e') = row_append (row_wider (omega arith) (omega arith) (enter_row e)) (row_wider (omega arith) (omega arith) (enter_row e'))
enter_row (e_left e) = row_wider (omega arith) (omega arith) (enter_row e)
enter_row (e_right e) = row_wider (omega arith) (omega arith) (enter_row e)
enter_row (e_branch_in e) = row_cons (begun_open _ _ _)
enter_row (e_branch_over e) = row_cons (begun_open _ _ _)
enter_row (e_star_in e) = row_cons (begun_open _ _ _)
enter_row e_star_over = row_nil
enter_row (e_plus_in e) = row_cons (begun_open _ _ _)
enter_row (e_plus_over e) = row_cons (begun_open _ _ _)
enter_row (e_opt_in e) = row_cons (begun_open _ _ _)
enter_row e_opt_over = row_nil

pub marked_begun : {m p : ℕ} {e : Re} {ρ : List ℕ} {o : Out} → Marked e → Enter m p e ρ o → Begun m (marks e) ρ
unfolding marks
marked_begun (k_cat k) (e_cat_in e) = begun_wider (omega arith) (omega arith) (marked_begun k e)
marked_begun (k_cat k) (e_cat_over e e') = begun_append (begun_wider (omega arith) (omega arith) (marked_begun k e)) _
marked_begun (k_alt k k') (e_left e) = begun_wider (omega arith) (omega arith) (marked_begun k e)
marked_begun {m = m} {p = p} (k_alt {x = x} {y = y} k k') (e_right e) = begun_wider (omega arith) (omega arith) (marked_begun {m = m + marks x} {p = p + size x} k' e)
marked_begun k_branch (e_branch_in e) = begun_open _ _ _
marked_begun k_branch (e_branch_over e) = begun_open _ _ _
marked_begun k_plus (e_plus_in e) = begun_open _ _ _
marked_begun k_plus (e_plus_over e) = begun_open _ _ _

-- a row that does not begin with such a token
pub data Free (m k : ℕ) : List ℕ → Type 0 where
  free_nil : Free m k []
  free_cons : {t : ℕ} {τ : List ℕ} → (Own m k t → ⊥) → Free m k (t ∷ τ)

free_part : {m k m' k' : ℕ} {τ : List ℕ} → m ≤ m' → m' + k' ≤ m + k → Free m k τ → Free m' k' τ
free_part h h' free_nil = free_nil
free_part h h' (free_cons f) = free_cons (λ o. f (own_wider h h' o))

-- what follows x in `cat x y` is free of x
free_over : {m k k' : ℕ} {ρ τ : List ℕ} → m + (k + k') ≤ 127 → Row (m + k) k' ρ → Free m k τ → Free m k (ρ ++ τ)
free_over h row_nil f = f
free_over h (row_cons (begun a b)) f = free_cons (λ o. own_apart (omega arith) (omega arith) o (o_open a b) refl)

-- the closing token of a mark is none of those inside it
not_own_closing : {m k t : ℕ} → suc m + k ≤ 127 → Own (suc m) k t → t ≡ closing m → ⊥
not_own_closing h (o_open a b) e = omega arith
not_own_closing h (o_close a b) e = omega arith

free_closing : {m k : ℕ} (τ : List ℕ) → m + suc k ≤ 127 → Free (suc m) k (closing m ∷ τ)
free_closing τ h = free_cons (λ o. not_own_closing (omega arith) o refl)

-- the opening token of a mark is its own
not_open : {m k : ℕ} {ρ τ : List ℕ} → Free m (suc k) τ → opening m ∷ ρ ≡ τ → ⊥
not_open free_nil e = cons≢nil e
not_open {m} {k} (free_cons f) e = let w : Own m (suc k) (opening m) = o_open {i = m} (omega arith) (omega arith) in f (rw (head-eq_of_cons-eq e) at w)

-- a row of one side of a choice and a row of the other
apart : {m k k' : ℕ} {ρ ρ' τ' : List ℕ} (τ : List ℕ) → m + (k + k') ≤ 127 → Begun m k ρ → Row (m + k) k' ρ' → Free m (k + k') τ' → ρ ++ τ ≡ ρ' ++ τ' → ⊥
apart τ h (begun a b) row_nil free_nil e = cons≢nil e
apart {m} {k} {k'} τ h (begun {i = i} a b) row_nil (free_cons f) e = let w : Own m (k + k') (opening i) = o_open {i = i} (omega arith) (omega arith) in f (rw (head-eq_of_cons-eq e) at w)
apart τ h (begun a b) (row_cons (begun a' b')) f e = let w = head-eq_of_cons-eq e in omega arith

pub record Same (ρ ρ' : List ℕ) (o o' : Out) (τ τ' : List ℕ) : Type 0 where
  pub row : ρ ≡ ρ'
  pub out : o ≡ o'
  pub rest : τ ≡ τ'

-- the rows of the ways R decide, where what follows is free of their tokens
abbrev pub Decided : ℕ → ℕ → (List ℕ → Out → Type 0) → Type 0
Decided m k R = (ρ ρ' τ τ' : List ℕ) (o o' : Out) → R ρ o → R ρ' o' → Free m k τ → Free m k τ' → ρ ++ τ ≡ ρ' ++ τ' → Same ρ ρ' o o' τ τ'

ways_decided : {m k : ℕ} {R S : List ℕ → Out → Type 0} → ((ρ : List ℕ) (o : Out) → S ρ o → R ρ o) → Decided m k R → Decided m k S
ways_decided of d ρ ρ' τ τ' o o' w w' f f' q = d ρ ρ' τ τ' o o' (of ρ o w) (of ρ' o' w') f f' q

part_decided : {m k m' k' : ℕ} {R : List ℕ → Out → Type 0} → m ≤ m' → m' + k' ≤ m + k → Decided m' k' R → Decided m k R
part_decided h h' d ρ ρ' τ τ' o o' w w' f f' q = d ρ ρ' τ τ' o o' w w' (free_part h h' f) (free_part h h' f') q

-- one way only
one_decided : {m k : ℕ} {R : List ℕ → Out → Type 0} (σ : List ℕ) (u : Out) → ((ρ : List ℕ) (o : Out) → R ρ o → (σ ≡ ρ) × (u ≡ o)) → Decided m k R
one_decided σ u one ρ ρ' τ τ' o o' w w' f f' q = go (one ρ o w) (one ρ' o' w')
  where
    cancel : (σ : List ℕ) → σ ++ τ ≡ σ ++ τ' → τ ≡ τ'
    cancel [] q = q
    cancel (t ∷ σ) q = cancel σ (tail-eq_of_cons-eq q)

    go : (σ ≡ ρ) × (u ≡ o) → (σ ≡ ρ') × (u ≡ o') → Same ρ ρ' o o' τ τ'
    go (a, b) (a', b') = record { row = sym a ∙ a'; out = sym b ∙ b'; rest = cancel σ (cc) }

put_decided : {m k t : ℕ} {R : List ℕ → Out → Type 0} → Decided m k R → Decided m k (Put t R)
put_decided d ρ ρ' τ τ' o o' (puts w) (puts w') f f' q =
    let s = d _ _ _ _ _ _ w w' f f' (tail-eq_of_cons-eq q) in
    record { row = cc; out = s.out; rest = s.rest }

loop_decided : {m k : ℕ} {R : List ℕ → Out → Type 0} → Decided (suc m) k R → Decided m (suc k) (Loop m R)
loop_decided d ρ ρ' τ τ' o o' (into w) (into w') f f' q =
    let s = d _ _ _ _ _ _ w w' (free_part (omega arith) (omega arith) f) (free_part (omega arith) (omega arith) f') (tail-eq_of_cons-eq q) in
    record { row = cc; out = s.out; rest = s.rest }
loop_decided d ρ ρ' τ τ' o o' (into w) past f f' q = absurd (not_open f' q)
loop_decided d ρ ρ' τ τ' o o' past (into w') f f' q = absurd (not_open f (sym q))
loop_decided d ρ ρ' τ τ' o o' past past f f' q = record { row = refl; out = refl; rest = q }

then_decided : {m k m₀ k₀ : ℕ} {R S : List ℕ → Out → Type 0} → Decided m k R → m₀ ≤ m → m + k ≤ m₀ + k₀
    → ((σ τ : List ℕ) (o : Out) → S σ o → Free m₀ k₀ τ → Free m k (σ ++ τ)) → Decided m₀ k₀ S → Decided m₀ k₀ (Then R S)
then_decided d h h' free d' ρ ρ' τ τ' o o' (stay w) (stay w') f f' q = part_decided h h' d _ _ _ _ _ _ w w' f f' q
then_decided d h h' free d' ρ _ τ τ' o o' (stay w) (over {ρ = ρ'} {τ = σ'} w' g') f f' q =
    absurd (at_pass (d _ _ _ _ _ _ w w' (free_part h h' f) (free _ _ _ g' f') (q ∙ append_assoc ρ' σ' τ')).out)
then_decided d h h' free d' _ ρ' τ τ' o o' (over {ρ = ρ} {τ = σ} w g) (stay w') f f' q =
    absurd (pass_at (d _ _ _ _ _ _ w w' (free _ _ _ g f) (free_part h h' f') (sym (append_assoc ρ σ τ) ∙ q)).out)
then_decided d h h' free d' _ _ τ τ' o o' (over {ρ = ρ} {τ = σ} w g) (over {ρ = ρ'} {τ = σ'} w' g') f f' q =
    let s = d _ _ _ _ _ _ w w' (free _ _ _ g f) (free _ _ _ g' f') (sym (append_assoc ρ σ τ) ∙ q ∙ append_assoc ρ' σ' τ') in
    let s' = d' _ _ _ _ _ _ g g' f f' s.rest in
    record { row = cc; out = s'.out; rest = s'.rest }

close_free : {m k : ℕ} {σ : List ℕ} {o : Out} (τ : List ℕ) → m + suc k ≤ 127 → Close m σ o → Free (suc m) k (σ ++ τ)
close_free τ h close = free_closing τ h

again_free : {m k : ℕ} {R : List ℕ → Out → Type 0} {σ : List ℕ} {o : Out} (τ : List ℕ) → m + suc k ≤ 127 → Put (closing m) R σ o → Free (suc m) k (σ ++ τ)
again_free τ h (puts {ρ = ρ} w) = free_closing (ρ ++ τ) h

close_decided : (m m₀ k₀ : ℕ) → Decided m₀ k₀ (Close m)
close_decided m m₀ k₀ = one_decided (closing m ∷ []) pass (λ ρ o w. close_one w)

-- what ends a turn, after the ways R inside it
closes_decided : {m k : ℕ} {R : List ℕ → Out → Type 0} → m + suc k ≤ 127 → Decided (suc m) k R → Decided m (suc k) (Then R (Close m))
closes_decided {m} h d = then_decided d (omega arith) (omega arith) (λ σ τ o w f. close_free τ h w) (close_decided m _ _)

again_decided : {m k : ℕ} {R S : List ℕ → Out → Type 0} → m + suc k ≤ 127 → Decided (suc m) k R → Decided (suc m) k S → Decided m (suc k) (Then R (Put (closing m) (Loop m S)))
again_decided h d d' = then_decided d (omega arith) (omega arith) (λ σ τ o w f. again_free τ h w) (put_decided (loop_decided d'))

module _ (m p : ℕ) (x y : Re) (h : m + (marks x + marks y) ≤ 127) (d' : Decided (m + marks x) (marks y) (Enter (m + marks x) (p + size x) y)) where
  crosses_decided : {R : List ℕ → Out → Type 0} → Decided m (marks x) R → Decided m (marks x + marks y) (Then R (Enter (m + marks x) (p + size x) y))
  crosses_decided d = then_decided d (omega arith) (omega arith) (λ σ τ o w f. free_over h (enter_row w) (free_part (omega arith) (omega arith) f)) (part_decided (omega arith) (omega arith) d')

  choice_decided : Marked x → Decided m (marks x) (Enter m p x) → Decided m (marks x + marks y) (Enter m p (alt x y))
  choice_decided k d ρ ρ' τ τ' o o' (e_left w) (e_left w') f f' q = part_decided (omega arith) (omega arith) d _ _ _ _ _ _ w w' f f' q
  choice_decided k d ρ ρ' τ τ' o o' (e_left w) (e_right w') f f' q = absurd (apart τ h (marked_begun k w) (enter_row w') f' q)
  choice_decided k d ρ ρ' τ τ' o o' (e_right w) (e_left w') f f' q = absurd (apart τ' h (marked_begun k w') (enter_row w) f (sym q))
  choice_decided k d ρ ρ' τ τ' o o' (e_right w) (e_right w') f f' q = part_decided (omega arith) (omega arith) d' _ _ _ _ _ _ w w' f f' q

pub enter_decided : {e : Re} → Fair e → (m p : ℕ) → m + marks e ≤ 127 → Decided m (marks e) (Enter m p e)
unfolding marks
enter_decided f_eps m p h = one_decided [] pass (λ ρ o w. eps_way w)
enter_decided f_pos m p h = one_decided [] (at p) (λ ρ o w. pos_way w)
enter_decided (f_cat {x = x} {y = y} f f') m p h = ways_decided (λ ρ o w. enter_cat_of w) (crosses_decided m p x y h (enter_decided f' _ _ (omega arith)) (enter_decided f m p (omega arith)))
enter_decided (f_alt {x = x} {y = y} k k' f f') m p h = choice_decided m p x y h (enter_decided f' _ _ (omega arith)) k (enter_decided f m p (omega arith))
enter_decided (f_branch f) m p h = ways_decided (λ ρ o w. enter_branch_of w) (closes_decided h (put_decided (enter_decided f (suc m) p (omega arith))))
enter_decided (f_star f) m p h = ways_decided (λ ρ o w. enter_star_of w) (loop_decided (enter_decided f (suc m) p (omega arith)))
enter_decided (f_plus f) m p h = ways_decided (λ ρ o w. enter_plus_of w) (closes_decided h (put_decided (enter_decided f (suc m) p (omega arith))))
enter_decided (f_opt f) m p h = ways_decided (λ ρ o w. enter_opt_of w) (loop_decided (enter_decided f (suc m) p (omega arith)))

-- from a position of the one part or of the other
sides_decided : {m k : ℕ} {A B : Type 0} {R : List ℕ → Out → Type 0} → ((ρ : List ℕ) (o : Out) → R ρ o → A ⊎ B) → (A → Decided m k R) → (B → Decided m k R) → Decided m k R
sides_decided side l r ρ ρ' τ τ' o o' w w' f f' q = elim (side ρ o w) [ inl i ↦ l i ρ ρ' τ τ' o o' w w' f f' q | inr i ↦ r i ρ ρ' τ τ' o o' w w' f f' q ]

pub resume_decided : {e : Re} → Fair e → (m p j : ℕ) → m + marks e ≤ 127 → Decided m (marks e) (Resume m p e j)
unfolding marks
resume_decided f_eps m p j h = λ ρ ρ' τ τ' o o' w w' f f' q. absurd (no_eps w)
resume_decided f_pos m p j h = one_decided [] pass (λ ρ o w. pos_one w)
resume_decided (f_cat {x = x} {y = y} f f') m p j h = sides_decided (λ ρ o w. cat_side w)
    (λ i. ways_decided (λ ρ o w. resume_cat_of i w) (crosses_decided m p x y h (enter_decided f' _ _ (omega arith)) (resume_decided f m p j (omega arith))))
    (λ i. ways_decided (λ ρ o w. resume_cat_right i w) (part_decided (omega arith) (omega arith) (resume_decided f' _ _ j (omega arith))))
resume_decided (f_alt {x = x} {y = y} k k' f f') m p j h = sides_decided (λ ρ o w. alt_side w)
    (λ i. ways_decided (λ ρ o w. resume_left i w) (part_decided (omega arith) (omega arith) (resume_decided f m p j (omega arith))))
    (λ i. ways_decided (λ ρ o w. resume_right i w) (part_decided (omega arith) (omega arith) (resume_decided f' _ _ j (omega arith))))
resume_decided (f_branch f) m p j h = ways_decided (λ ρ o w. resume_branch_of w) (closes_decided h (resume_decided f (suc m) p j (omega arith)))
resume_decided (f_star f) m p j h = ways_decided (λ ρ o w. resume_star_of w) (again_decided h (resume_decided f (suc m) p j (omega arith)) (enter_decided f (suc m) p (omega arith)))
resume_decided (f_plus f) m p j h = ways_decided (λ ρ o w. resume_plus_of w) (again_decided h (resume_decided f (suc m) p j (omega arith)) (enter_decided f (suc m) p (omega arith)))
resume_decided (f_opt f) m p j h = ways_decided (λ ρ o w. resume_opt_of w) (closes_decided h (resume_decided f (suc m) p j (omega arith)))

-- from o, by the row r of letters each with the marks that follow it, to o'
pub data Path (m p : ℕ) (e : Re) : Out → List ℕ → Out → Type 0 where
  stop : {o : Out} → Path m p e o [] o
  go : {q b : ℕ} {ρ r : List ℕ} {o o' : Out} → At p e q b → Resume m p e q ρ o → Path m p e o r o' → Path m p e (at q) (letter b ∷ (ρ ++ r)) o'

not_own_letter : {m k t : ℕ} (b : ℕ) → m + k ≤ 127 → Own m k t → t ≡ letter b → ⊥
not_own_letter b h (o_open x y) e = omega arith
not_own_letter b h (o_close x y) e = omega arith

path_free : {m p k : ℕ} {e : Re} {o o' : Out} {r : List ℕ} → m + k ≤ 127 → Path m p e o r o' → Free m k r
path_free h stop = free_nil
path_free h (go a w t) = free_cons (λ x. not_own_letter _ h x refl)

path_same : {m p : ℕ} {e : Re} {o₁ o₂ o₁' o₂' : Out} {r r' : List ℕ} → Fair e → m + marks e ≤ 127 → o₁ ≡ o₂ → Path m p e o₁ r o₁' → Path m p e o₂ r' o₂' → r ≡ r' → o₁' ≡ o₂'
path_same c h i stop stop q = i
path_same c h i stop (go a w t) q = absurd (nil≢cons q)
path_same c h i (go a w t) stop q = absurd (cons≢nil q)
path_same {m} {p} {e} c h i (go {q = j} a w t) (go {q = j'} a' w' t') q =
    let k : j' ≡ j = cc in
    let s = resume_decided c m p j h _ _ _ _ _ _ w (rw k at w') (path_free h t) (path_free h t') (tail-eq_of_cons-eq q) in
    path_same c h s.out t t' s.rest

-- THE ROW DECIDES THE POSITION
pub decides : {m p : ℕ} {e : Re} {ρ ρ' r r' : List ℕ} {o o' o₁ o₁' : Out} → Fair e → m + marks e ≤ 127
    → Enter m p e ρ o → Path m p e o r o₁ → Enter m p e ρ' o' → Path m p e o' r' o₁' → ρ ++ r ≡ ρ' ++ r' → o₁ ≡ o₁'
decides c h e t e' t' q =
    let s = enter_decided c _ _ h _ _ _ _ _ _ e e' (path_free h t) (path_free h t') q in
    path_same c h s.out t t' s.rest
