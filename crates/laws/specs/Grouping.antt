-- A group that stands before others in a branch is told apart from its items, and has the same trees; one that stands last is not told apart.
use Rattle.std.specs.Prelude.{◌≡◌, refl, List, [], ◌∷◌, ◌↔◌, ℕ, ◌+◌}
use Rattle.std.proofs.Common.{append_assoc, arith}
use Rattle.meaning.specs.Expression.{Re, pos, cat, star, marks}
use Rattle.meaning.specs.Grammar.{only, Pattern}
use Rattle.meaning.specs.Tree.{Tree, t_cat}
use Rattle.grammar.specs.Machine.{kind}
use Rattle.grammar.specs.Viable.{accepted}

marks_before : (m : ℕ) (x y : Re) → m + marks (cat x y) ≡ m + marks x + marks y
unfolding marks
marks_before m x y = omega arith

-- (xy)z and xyz have the same trees
module _ {m : ℕ} {x y z : Re} where
  ungrouped : {s r : List ℕ} → Tree m (cat (cat x y) z) s r → Tree m (cat x (cat y z)) s r
  ungrouped (t_cat {s₂ = s₃} {r₂ = r₃} (t_cat {s₁ = s₁} {s₂ = s₂} {r₁ = r₁} {r₂ = r₂} t u) v) =
      rw (append_assoc s₁ s₂ s₃, append_assoc r₁ r₂ r₃) (t_cat t (t_cat u (rw (marks_before m x y) at v)))

  grouped : {s r : List ℕ} → Tree m (cat x (cat y z)) s r → Tree m (cat (cat x y) z) s r
  grouped (t_cat {s₁ = s₁} {r₁ = r₁} t (t_cat {s₁ = s₂} {s₂ = s₃} {r₁ = r₂} {r₂ = r₃} u v)) =
      rw (← append_assoc s₁ s₂ s₃, ← append_assoc r₁ r₂ r₃) (t_cat (t_cat t u) (rw (← marks_before m x y) at v))

  pub same_trees : {s r : List ℕ} → Tree m (cat (cat x y) z) s r ↔ Tree m (cat x (cat y z)) s r
  same_trees = (ungrouped, grouped)

abbrev a : Re
a = pos (only 97)

abbrev b : Re
b = pos (only 98)

abbrev c : Re
c = pos (only 99)

-- (ab)c, abc and a(bc)
pub group_first : Pattern (40 ∷ 97 ∷ 98 ∷ 41 ∷ 99 ∷ []) (cat (cat a b) c) 1
unfolding kind
group_first = accepted _ refl

pub no_group : Pattern (97 ∷ 98 ∷ 99 ∷ []) (cat a (cat b c)) 0
unfolding kind
no_group = accepted _ refl

pub group_last : Pattern (97 ∷ 40 ∷ 98 ∷ 99 ∷ 41 ∷ []) (cat a (cat b c)) 1
unfolding kind
group_last = accepted _ refl

-- (a*(ab)*)b* and a*(ab)*b*
pub repeats_grouped : Pattern (40 ∷ 97 ∷ 42 ∷ 40 ∷ 97 ∷ 98 ∷ 41 ∷ 42 ∷ 41 ∷ 98 ∷ 42 ∷ []) (cat (cat (star a) (star (cat a b))) (star b)) 2
unfolding kind
repeats_grouped = accepted _ refl

pub repeats_flat : Pattern (97 ∷ 42 ∷ 40 ∷ 97 ∷ 98 ∷ 41 ∷ 42 ∷ 98 ∷ 42 ∷ []) (cat (star a) (cat (star (cat a b)) (star b))) 1
unfolding kind
repeats_flat = accepted _ refl

pub told_apart : cat (cat a b) c ≡ cat a (cat b c) → ⊥
told_apart e = let z : ◌≡◌ {A = ℕ} 0 1 = cc in omega arith
