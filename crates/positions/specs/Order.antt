-- The order of rows is strict, and there is one first tree.
use Rattle.std.specs.Prelude.{◌≡◌, ◌⊎◌, ℕ}
use Rattle.std.proofs.Common.{sym, inl, inr, arith}
use mathlib.Core.List.{List, cons≢nil, head-eq_of_cons-eq, tail-eq_of_cons-eq}
use Rattle.meaning.specs.Expression.{Re}
use Rattle.meaning.specs.Tree.{Before, b_here, b_longer, b_next, First}

pub before_differs : {r r' : List ℕ} → Before r r' → r ≡ r' → ⊥
before_differs (b_here h) e = let i = head-eq_of_cons-eq e in omega arith
before_differs b_longer e = cons≢nil e
before_differs (b_next i b) e = before_differs b (tail-eq_of_cons-eq e)

pub before_back : {r r' : List ℕ} → Before r r' → Before r' r → ⊥
before_back (b_here h) (b_here h') = omega arith
before_back (b_here h) (b_next i b) = omega arith
before_back (b_longer {t = t} {r = r}) b = elim b [ ]
before_back (b_next i b) (b_here h) = omega arith
before_back (b_next i b) (b_next i' b') = before_back b b'

-- there is one first row
first_apart : {r r' : List ℕ} → (r ≡ r') ⊎ Before r r' → (r' ≡ r) ⊎ Before r' r → r ≡ r'
first_apart (inl i) k = i
first_apart (inr b) (inl i) = sym i
first_apart (inr b) (inr b') = absurd (before_back b b')

pub first_one : {e : Re} {s r r' : List ℕ} → First e s r → First e s r' → r ≡ r'
first_one f f' = first_apart (f.first _ f'.tree) (f'.first _ f.tree)
