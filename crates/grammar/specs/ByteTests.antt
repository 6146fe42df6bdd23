-- From what a reader's tests say of a byte, one equation or inequation at a time, to what the grammar says of it.
use Rattle.std.specs.Prelude.{◌≡◌, refl, false, ℕ}
use Rattle.std.proofs.Common.{ne_eqb}
use Rattle.meaning.specs.Expression.{Re}
use Rattle.meaning.specs.Grammar.{one_of, signs, class_signs}
use Rattle.grammar.specs.Machine.{Sign, is_star, is_plus, is_opt}
use Rattle.grammar.specs.Contract.{Stray}
use Rattle.grammar.specs.ClassContract.{ClassStray}

-- a byte that stands for itself
pub plain : {b : ℕ} → (b ≡ 40 → ⊥) → (b ≡ 41 → ⊥) → (b ≡ 124 → ⊥) → (b ≡ 42 → ⊥) → (b ≡ 43 → ⊥) → (b ≡ 63 → ⊥) → (b ≡ 46 → ⊥) → (b ≡ 91 → ⊥) → (b ≡ 93 → ⊥) → (b ≡ 92 → ⊥)
    → one_of signs b ≡ false
plain {b} p q r s t u v w x y =
    rw (ne_eqb b 40 p, ne_eqb b 41 q, ne_eqb b 124 r, ne_eqb b 42 s, ne_eqb b 43 t, ne_eqb b 63 u, ne_eqb b 46 v, ne_eqb b 91 w, ne_eqb b 93 x, ne_eqb b 92 y)

pub class_plain : {b : ℕ} → (b ≡ 91 → ⊥) → (b ≡ 93 → ⊥) → (b ≡ 45 → ⊥) → (b ≡ 92 → ⊥) → one_of class_signs b ≡ false
class_plain {b} p q r s = rw (ne_eqb b 91 p, ne_eqb b 93 q, ne_eqb b 45 r, ne_eqb b 92 s)

-- the byte c, which is known, is the byte b
pub stray : {b c : ℕ} → b ≡ c → Stray c → Stray b
stray e h = rw e h

pub class_stray : {b c : ℕ} → b ≡ c → ClassStray c → ClassStray b
class_stray e h = rw e h

pub signed : {b c : ℕ} {f : Re → Re} → b ≡ c → Sign c f → Sign b f
signed e h = rw e h

pub no_sign : {b : ℕ} → (b ≡ 42 → ⊥) → (b ≡ 43 → ⊥) → (b ≡ 63 → ⊥) → (f : Re → Re) → Sign b f → ⊥
no_sign p q r f is_star = p refl
no_sign p q r f is_plus = q refl
no_sign p q r f is_opt = r refl
