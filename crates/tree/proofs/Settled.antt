-- One answer for each input: two outcomes that the promise allows are the same, the lent rows included. Assumes nothing.
use mathlib.Core.Path.{◌≡◌, refl, sym, ap, ◌∙◌}
use mathlib.Core.Bool.{Bool, true, false, cond}
use mathlib.Core.List.{List}
use Prim.Native.Nat.{ℕ, max, ◌≤◌, ◌<◌}
use native.Mathlib.Omega.{arith}
use native.Mathlib.Decide.{dec_le}
use lib.Dec.{eqb}
use lib.ListN.{length, replicate, length-replicate}
use borrow.Author.Tests.{eqb-true, eqb-false}
use Rattle.meaning.specs.Promise.{Answered}
use Rattle.laws.specs.Promises.{answered_one}
use Rattle.std.proofs.Common.{Ok, Err}
use Rattle.pattern.specs.declared.Refusal.TheVariants as refused
use Rattle.tree.specs.declared.outcome.Refusal.{Refusal}
use Rattle.tree.specs.declared.outcome.Refusal.TheVariants as outcome
use Rattle.tree.specs.Outcome.{Outcome, number_of, value_of, flag_of}
use Rattle.tree.specs.Search.{no_tree, a_tree, Searched, sought}
use Rattle.tree.proofs.Answers.{plain, fits, long}

-- three numbers, one after the other
same_three : {A : Type 0} (make : ℕ → ℕ → ℕ → A) {n n' v v' f f' : ℕ} → n ≡ n' → v ≡ v' → f ≡ f' → make n v f ≡ make n' v' f'
same_three make i j k = rw (i, j, k)

-- the answer that a number, a value and a flag stand for
refusal_of : ℕ → ℕ → Refusal
refusal_of n v =
    cond (eqb n 1) (outcome.Pattern refused.TooLong)
    (cond (eqb n 2) outcome.LongText
    (cond (eqb n 3) outcome.FewCells
    (cond (eqb n 4) (outcome.Pattern (refused.NoPattern v))
    (cond (eqb n 5) (outcome.Pattern refused.TooDeep)
    (cond (eqb n 6) (outcome.Pattern refused.ManyPositions)
    (cond (eqb n 7) (outcome.Pattern refused.ManyMarks)
    (cond (eqb n 8) (outcome.NoTree v) (outcome.SmallRoom v))))))))

outcome_of : ℕ → ℕ → ℕ → Outcome
outcome_of n v f = cond (eqb n 0) (Ok (record { length = v; other = eqb f 1 })) (Err (refusal_of n v))

other_same : (o : Bool) → eqb (cond o 1 0) 1 ≡ o
other_same true = refl
other_same false = refl

outcome_same : (r : Outcome) → outcome_of (number_of r) (value_of r) (flag_of r) ≡ r
unfolding outcome_of refusal_of
outcome_same (Err (outcome.Pattern refused.TooLong)) = refl
outcome_same (Err (outcome.Pattern (refused.NoPattern place))) = refl
outcome_same (Err (outcome.Pattern refused.TooDeep)) = refl
outcome_same (Err (outcome.Pattern refused.ManyPositions)) = refl
outcome_same (Err (outcome.Pattern refused.ManyMarks)) = refl
outcome_same (Err outcome.LongText) = refl
outcome_same (Err outcome.FewCells) = refl
outcome_same (Err (outcome.NoTree place)) = refl
outcome_same (Err (outcome.SmallRoom l)) = refl
outcome_same (Ok t) = ap (λ (o : Bool). Ok (record { length = t.length; other = o })) (other_same t.other)

outcomes : (r r' : Outcome) → number_of r ≡ number_of r' → value_of r ≡ value_of r' → flag_of r ≡ flag_of r' → r ≡ r'
outcomes r r' i j k = sym (outcome_same r) ∙ same_three outcome_of i j k ∙ outcome_same r'

pub outcome_one : {pat text cells room cells₁ cells₂ room₁ room₂ : List ℕ} (r r' : Outcome)
    → Answered pat text cells room (number_of r) (value_of r) (flag_of r) cells₁ room₁ → Answered pat text cells room (number_of r') (value_of r') (flag_of r') cells₂ room₂
    → (r ≡ r') × (cells₁ ≡ cells₂) × (room₁ ≡ room₂)
outcome_one r r' a a' =
    let z = answered_one a a' in
    (outcomes r r' z.0.0 z.0.1 z.0.2, z.1, z.0.3)

-- ---- the search

-- with another room the search finds the same
wider : {pat text cells room cells' room' : List ℕ} {n v f : ℕ} (other : List ℕ) → Searched pat text cells room n v f cells' room'
    → (kept : List ℕ) × Searched pat text cells other n v f cells' kept
wider other (Searched.long_pattern h) = (_, Searched.long_pattern h)
wider other (Searched.long_text h k) = (_, Searched.long_text h k)
wider other (Searched.few_cells h k j) = (_, Searched.few_cells h k j)
wider other (Searched.refused g r) = (_, Searched.refused g r)
wider other (sought g a (no_tree x l)) = (_, sought g a (no_tree x l))
wider other (sought g a (a_tree x w)) = (_, sought g a (a_tree x w))

-- told of a room that holds the row
answers : {pat text cells room cells' room' : List ℕ} {n v f : ℕ} → v ≤ length room → Searched pat text cells room n v f cells' room' → Answered pat text cells room n v f cells' room'
answers {pat} {text} {cells} {room} {cells'} {room'} {n} {v} {f} h s = go (eqb n 0) refl
  where
    go : (t : Bool) → eqb n 0 ≡ t → Answered pat text cells room n v f cells' room'
    go true e = let z : n ≡ 0 = eqb-true n 0 e in rw z (fits s z h)
    go false e = plain s (eqb-false n 0 e)

module _ {pat text cells room cells₁ cells₂ room₁ room₂ : List ℕ} {n v f n' v' f' : ℕ}
    (s : Searched pat text cells room n v f cells₁ room₁) (s' : Searched pat text cells room n' v' f' cells₂ room₂) where
  numbers_one : (n ≡ n') × (v ≡ v') × (f ≡ f') × (cells₁ ≡ cells₂)
  numbers_one =
      let big : List ℕ = replicate (max v v') 0 in
      let long : length big ≡ max v v' = length-replicate (max v v') 0 in
      let z = answered_one (answers (omega arith) (wider big s).1) (answers (omega arith) (wider big s').1) in
      (z.0.0, z.0.1, z.0.2, z.1)

-- and leaves the same in the room
room_one : {pat text cells room cells₁ cells₂ room₁ room₂ : List ℕ} {n v f n' v' f' : ℕ} → Searched pat text cells room n v f cells₁ room₁
    → Searched pat text cells room n' v' f' cells₂ room₂ → n ≡ n' → v ≡ v' → room₁ ≡ room₂
room_one {pat} {text} {cells} {room} {cells₁} {cells₂} {room₁} {room₂} {n} {v} s s' i j =
    elim (dec_le v (length room)) [ yes h ↦ (answered_one (answers h s) (answers (omega arith) s')).0.3 | no h ↦ go (eqb n 0) refl (omega arith) ]
  where
    go : (t : Bool) → eqb n 0 ≡ t → length room < v → room₁ ≡ room₂
    go true e h = let z : n ≡ 0 = eqb-true n 0 e in (answered_one (long s z h) (long s' (omega arith) (omega arith))).0.3
    go false e h = let k = eqb-false n 0 e in (answered_one (plain s k) (plain s' (λ z. k (i ∙ z)))).0.3

pub found_one : {pat text cells room cells₁ cells₂ room₁ room₂ : List ℕ} (r r' : Outcome)
    → Searched pat text cells room (number_of r) (value_of r) (flag_of r) cells₁ room₁ → Searched pat text cells room (number_of r') (value_of r') (flag_of r') cells₂ room₂
    → (r ≡ r') × (cells₁ ≡ cells₂) × (room₁ ≡ room₂)
found_one r r' s s' =
    let z = numbers_one s s' in
    (outcomes r r' z.0 z.1 z.2, z.3, room_one s s' z.0 z.1)
