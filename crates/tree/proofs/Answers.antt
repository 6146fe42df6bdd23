-- What is told of a search is the promised answer. Assumes nothing.
use mathlib.Core.Path.{◌≡◌, refl}
use mathlib.Core.Bool.{Bool, true, false, cond}
use mathlib.Core.List.{List}
use Prim.Native.Nat.{ℕ, ◌≤◌, ◌<◌}
use native.Mathlib.Omega.{arith}
use lib.Dec.{ltb}
use lib.ListN.{length}
use borrow.Author.Tests.{ltb-true, ltb-false, le-leb, lt-leb}
use Rattle.meaning.specs.Expression.{Re}
use Rattle.meaning.specs.Promise.{Judged, small_room, Answered, few_cells}
use Rattle.grammar.specs.ReadPromise.{refused_range}
use Rattle.std.proofs.Common.{Ok, Err}
use Rattle.pattern.specs.Answers as pattern
use Rattle.pattern.specs.declared.Refusal.{Refusal as PatternRefusal}
use Rattle.pattern.specs.declared.Refusal.TheVariants as refused
use Rattle.tree.specs.declared.outcome.Refusal.{Refusal}
use Rattle.tree.specs.declared.outcome.Refusal.TheVariants as outcome
use Rattle.along.specs.declared.walk.Tree.{Tree}
use Rattle.tree.specs.Outcome.{Outcome, refusal_number, number_of, value_of, flag_of}
use Rattle.tree.specs.Search.{Sought, no_tree, a_tree, Searched, sought, tell}

-- no tree
plain_sought : {e : Re} {text room room' : List ℕ} {n v f : ℕ} → Sought e text room n v f room' → (n ≡ 0 → ⊥) → Judged e text room n v f room'
plain_sought (no_tree x l) z = Judged.no_tree x l
plain_sought (a_tree x f) z = absurd (z refl)

pub plain : {pat text cells room cells' room' : List ℕ} {n v f : ℕ} → Searched pat text cells room n v f cells' room' → (n ≡ 0 → ⊥) → Answered pat text cells room n v f cells' room'
plain (Searched.long_pattern h) z = Answered.long_pattern h
plain (Searched.long_text h k) z = Answered.long_text h k
plain (Searched.few_cells h k j) z = few_cells h k j
plain (Searched.refused g r) z = Answered.refused g r
plain (sought g a s) z = Answered.judged g a (plain_sought s z)

-- a tree whose row the room holds
fits_sought : {e : Re} {text room room' : List ℕ} {n v f : ℕ} → Sought e text room n v f room' → n ≡ 0 → v ≤ length room → Judged e text room 0 v f room'
fits_sought (no_tree x l) z h = absurd (omega arith)
fits_sought {room = room} (a_tree {row = row} x f) z h = rw (le-leb (length row) (length room) h) (Judged.tree x h f)

pub fits : {pat text cells room cells' room' : List ℕ} {n v f : ℕ} → Searched pat text cells room n v f cells' room' → n ≡ 0 → v ≤ length room → Answered pat text cells room 0 v f cells' room'
fits (Searched.long_pattern h) z l = absurd (omega arith)
fits (Searched.long_text h k) z l = absurd (omega arith)
fits (Searched.few_cells h k j) z l = absurd (omega arith)
fits (Searched.refused g r) z l = absurd (omega (arith, refused_range r))
fits (sought g a s) z l = Answered.judged g a (fits_sought s z l)

-- a tree whose row it does not hold
long_sought : {e : Re} {text room room' : List ℕ} {n v f : ℕ} → Sought e text room n v f room' → n ≡ 0 → length room < v → Judged e text room 9 v 0 room'
long_sought (no_tree x l) z h = absurd (omega arith)
long_sought {room = room} (a_tree {row = row} x f) z h = rw (lt-leb (length row) (length room) h) (small_room x h)

pub long : {pat text cells room cells' room' : List ℕ} {n v f : ℕ} → Searched pat text cells room n v f cells' room' → n ≡ 0 → length room < v → Answered pat text cells room 9 v 0 cells' room'
long (Searched.long_pattern h) z l = absurd (omega arith)
long (Searched.long_text h k) z l = absurd (omega arith)
long (Searched.few_cells h k j) z l = absurd (omega arith)
long (Searched.refused g r) z l = absurd (omega (arith, refused_range r))
long (sought g a s) z l = Answered.judged g a (long_sought s z l)

-- a refusal has a number
pattern_refused : (r : PatternRefusal) → pattern.refusal_number r ≡ 0 → ⊥
pattern_refused refused.TooLong z = omega arith
pattern_refused (refused.NoPattern place) z = omega arith
pattern_refused refused.TooDeep z = omega arith
pattern_refused refused.ManyPositions z = omega arith
pattern_refused refused.ManyMarks z = omega arith

pub refusal_some : (r : Refusal) → refusal_number r ≡ 0 → ⊥
refusal_some (outcome.Pattern why) z = pattern_refused why z
refusal_some outcome.LongText z = omega arith
refusal_some outcome.FewCells z = omega arith
refusal_some (outcome.NoTree place) z = omega arith
refusal_some (outcome.SmallRoom length) z = omega arith

abbrev tree_told : Tree → Bool → Outcome
tree_told t short = cond short (Err (outcome.SmallRoom t.length)) (Ok t)

-- by what is known of a refusal, of a row that the room holds and of one that it does not
told_as : (room : ℕ) (S A : ℕ → ℕ → ℕ → Type 0) → ((n v f : ℕ) → S n v f → (n ≡ 0 → ⊥) → A n v f) → ((n v f : ℕ) → S n v f → n ≡ 0 → v ≤ room → A 0 v f)
    → ((n v f : ℕ) → S n v f → n ≡ 0 → room < v → A 9 v 0)
    → (r : Outcome) → S (number_of r) (value_of r) (flag_of r) → A (number_of (tell r room)) (value_of (tell r room)) (flag_of (tell r room))
told_as room S A p q l (Err r) s = p _ _ _ s (refusal_some r)
told_as room S A p q l (Ok t) s = go (ltb room t.length) refl
  where
    go : (b : Bool) → ltb room t.length ≡ b → A (number_of (tree_told t b)) (value_of (tree_told t b)) (flag_of (tree_told t b))
    go true e = l _ _ _ s refl (ltb-true _ _ e)
    go false e = q _ _ _ s refl (ltb-false _ _ e)

pub told_answered : {pat text cells room cells' room' : List ℕ} (r : Outcome) → Searched pat text cells room (number_of r) (value_of r) (flag_of r) cells' room'
    → Answered pat text cells room (number_of (tell r (length room))) (value_of (tell r (length room))) (flag_of (tell r (length room))) cells' room'
told_answered {pat} {text} {cells} {room} {cells'} {room'} r s =
    told_as (length room) (λ n v f. Searched pat text cells room n v f cells' room') (λ n v f. Answered pat text cells room n v f cells' room')
    (λ n v f. plain) (λ n v f. fits) (λ n v f. long) r s

pub told_judged : {e : Re} {text room room' : List ℕ} {o : Outcome} (r : Outcome) → o ≡ tell r (length room) → Sought e text room (number_of r) (value_of r) (flag_of r) room'
    → Judged e text room (number_of o) (value_of o) (flag_of o) room'
told_judged {e} {text} {room} {room'} r i s =
    rw i (told_as (length room) (λ n v f. Sought e text room n v f room') (λ n v f. Judged e text room n v f room') (λ n v f. plain_sought) (λ n v f. fits_sought) (λ n v f. long_sought) r s)

pub answered_as : {pat text cells room cells' room' : List ℕ} {o : Outcome} (r : Outcome) → o ≡ tell r (length room) → Searched pat text cells room (number_of r) (value_of r) (flag_of r) cells' room'
    → Answered pat text cells room (number_of o) (value_of o) (flag_of o) cells' room'
answered_as r e s = rw e (told_answered r s)
