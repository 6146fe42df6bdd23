-- Whether a node may be passed over no text, from the same of its parts. Assumes nothing.
use mathlib.Core.Path.{◌≡◌, refl, ap, ◌∙◌}
use mathlib.Core.Bool.{Bool, true, false}
use mathlib.Core.List.{List}
use Prim.Native.Nat.{ℕ, ◌-◌}
use mir.Val.{bool_byte}
use Rattle.std.proofs.lemmas.Bool.{ne_eqb}
use Rattle.meaning.specs.Expression.{Re}
use Rattle.positions.specs.Tests.{nullable}
use Rattle.walks.specs.Tables.{flag, yes, NullAt, leaf_null, one_null, two_null}
use Rattle.walks.proofs.Parts.{Leaf, leaf_eps, leaf_pos, One, one_branch, one_star, one_plus, one_opt, Two, two_cat, two_alt, Bare, Sole, Pair, leaf, single, double}

-- what a flag says
pub yes_flag : (b : Bool) → yes (flag b) ≡ b
yes_flag true = refl
yes_flag false = refl

-- a truth value as a number
byte_flag : (b : Bool) → bool_byte b ≡ flag b
byte_flag true = refl
byte_flag false = refl

pub flagged : {v : ℕ} {b c : Bool} → v ≡ bool_byte b → b ≡ c → v ≡ flag c
flagged {b = b} h z = h ∙ byte_flag b ∙ ap flag z

pub yes_some : {v : ℕ} → (v ≡ 0 → ⊥) → yes v ≡ true
yes_some h = rw (ne_eqb _ 0 h) refl

pub yes_none : {v : ℕ} → v ≡ 0 → yes v ≡ false
yes_none h = rw h refl

null_zero : {p k a : ℕ} {e : Re} → Leaf p k a e → leaf_null k ≡ nullable e
unfolding leaf_null nullable
null_zero leaf_eps = refl
null_zero (leaf_pos h) = refl

null_one : {k : ℕ} {x e : Re} → One k x e → one_null k (nullable x) ≡ nullable e
unfolding one_null nullable
null_one one_branch = refl
null_one one_star = refl
null_one one_plus = refl
null_one one_opt = refl

null_two : {k : ℕ} {x y e : Re} → Two k x y e → two_null k (nullable x) (nullable y) ≡ nullable e
unfolding two_null nullable
null_two two_cat = refl
null_two two_alt = refl

module _ {ks gs : List ℕ} {i k arg v : ℕ} where
  pub null_at_zero : Bare ks gs i k arg → v ≡ flag (leaf_null k) → NullAt ks gs i v
  null_at_zero N z e m p h = z ∙ ap flag (null_zero (leaf N h))

  pub null_at_one : {a : ℕ} → Sole ks gs i k arg → NullAt ks gs (i - 1) a → v ≡ flag (one_null k (yes a)) → NullAt ks gs i v
  null_at_one N n z e m p h = let s = single N h in z ∙ ap flag (rw (n s.x _ _ s.part, yes_flag (nullable s.x)) (null_one s.is))

  pub null_at_two : {a b : ℕ} → Pair ks gs i k arg → NullAt ks gs arg a → NullAt ks gs (i - 1) b → v ≡ flag (two_null k (yes a) (yes b)) → NullAt ks gs i v
  null_at_two N n n' z e m p h = let d = double N h in z ∙ ap flag (rw (n d.x _ _ d.left, n' d.y _ _ d.right, yes_flag (nullable d.x), yes_flag (nullable d.y)) (null_two d.is))
