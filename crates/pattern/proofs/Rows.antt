-- Rows written one behind the other, a row that stands in another, and how long the row of numbers without marks is. Assumes nothing.
use mathlib.Core.Path.{◌≡◌, refl, sym, ◌∙◌, ap, ap₂}
use mathlib.Core.List.{List, [], ◌∷◌, ◌++◌}
use Prim.Native.Nat.{ℕ, suc, ◌+◌, ◌≤◌}
use native.Mathlib.Omega.{arith}
use lib.ListN.{length, get_or, set, length-append}
use lib.Seq.{sets, length-sets, set_comm, set-get_or}
use Rattle.meaning.specs.Expression.{Re, eps, pos, cat, alt, branch, star, plus, opt, size}
use Rattle.meaning.specs.ReadPattern.{nodes}
use Rattle.bits.proofs.Writing.{sets_then, sets_inside}
use Rattle.grammar.specs.Holds.{Stands, stands_left, stands_right, stands_last, stands_at}
use Rattle.pattern.specs.Stores.{bare_args}

-- r is written at a, and s behind it
pub writes : {t₁ t₂ : List ℕ} {b : ℕ} (t : List ℕ) (a : ℕ) (r s : List ℕ) → t₁ ≡ sets t a r → t₂ ≡ sets t₁ b s → b ≡ a + length r → t₂ ≡ sets t a (r ++ s)
writes t a r s p q e = q ∙ ap₂ (λ (l : List ℕ) (k : ℕ). sets l k s) p e ∙ sets_then t a r s

-- one more store, behind the row, before or after it
pub sets_comm : (t : List ℕ) (a : ℕ) (r : List ℕ) (i v : ℕ) → a + length r ≤ i → sets (set t i v) a r ≡ set (sets t a r) i v
sets_comm t a [] i v h = refl
sets_comm t a (x ∷ r) i v h = ap (λ (l : List ℕ). sets l (suc a) r) (set_comm t i a v x (λ e. omega arith)) ∙ sets_comm (set t a x) (suc a) r i v (omega arith)

-- ---- a row that stands in another

-- the last of it
pub stands_end : {t : List ℕ} {u : ℕ} (i : ℕ) (l : List ℕ) (v : ℕ) → u + length l ≡ i → Stands (l ++ (v ∷ [])) t u → get_or t i 0 ≡ v
stands_end i l v e h = (stands_last i (stands_right l (v ∷ []) h) e).0

-- what stands behind n of it
pub stands_behind : {t : List ℕ} {u : ℕ} (n : ℕ) (l r : List ℕ) → length l ≡ n → Stands (l ++ r) t u → Stands r t (u + n)
stands_behind {u = u} n l r e h = stands_at (u + n) (stands_right l r h) (ap (λ (k : ℕ). u + k) e)

-- to write what stands there changes nothing
pub sets_same : {t : List ℕ} {u : ℕ} (l : List ℕ) → Stands l t u → sets t u l ≡ t
sets_same [] h = refl
sets_same {t} {u} (v ∷ l) h =
    let e : set t u v ≡ t = rw (sym (stands_last u (stands_left (v ∷ []) l h) refl).0) (set-get_or t u 0) in
    rw e (sets_same l (stands_at (suc u) (stands_right (v ∷ []) l h) (omega arith)))

-- what was written stands there, where there is room
pub sets_stands : (t : List ℕ) (u : ℕ) (l : List ℕ) → u + length l ≤ length t → Stands l (sets t u l) u
sets_stands t u l h = record { within = simp length-sets h; here = λ j g. sets_inside t u l j g (omega arith) }

-- ---- how long the row of numbers without marks is

pub length_bare_args : (k p : ℕ) (e : Re) → length (bare_args k p e) ≡ nodes e
unfolding bare_args nodes
length_bare_args k p eps = refl
length_bare_args k p (pos c) = refl
length_bare_args k p (cat x y) = let h = length_bare_args k p x in let g = length_bare_args (k + nodes x) (p + size x) y in simp length-append (omega arith)
length_bare_args k p (alt x y) = let h = length_bare_args k p x in let g = length_bare_args (k + nodes x) (p + size x) y in simp length-append (omega arith)
length_bare_args k p (branch x) = let h = length_bare_args k p x in simp length-append (omega arith)
length_bare_args k p (star x) = let h = length_bare_args k p x in simp length-append (omega arith)
length_bare_args k p (plus x) = let h = length_bare_args k p x in simp length-append (omega arith)
length_bare_args k p (opt x) = let h = length_bare_args k p x in simp length-append (omega arith)
