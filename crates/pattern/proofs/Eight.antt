-- What a read pattern holds at each of its 1,024 nodes, in use or not: one of the eight kinds that patterns have and, beside an eps, 0. Assumes nothing.
use Rattle.std.proofs.Common.{◌≡◌, ◌<◌, ◌-◌, List, [], ◌∷◌, ◌++◌, ℕ, zero, suc, ◌+◌, refl, sym, ◌∙◌, length, get_or, replicate, arith}
use Rattle.meaning.specs.Expression.{Re, eps, pos, cat, alt, branch, star, plus, opt, marks, size}
use Rattle.meaning.specs.ReadPattern as meaning
use Rattle.meaning.specs.ReadPattern.{nodes, kinds, args, node_of, read_pattern, no_parts}
use Rattle.meaning.specs.Promise.{Read, long_pattern, refused, accepted}
use Rattle.kinds.specs.declared.Node.TheVariants.{Eps}
use Rattle.kinds.specs.declared.ReadPattern.{ReadPattern}
use Rattle.kinds.specs.Nodes.{kind_of}
use Rattle.kinds.proofs.NodeLaws.{kind_at, arg_at}
use Rattle.pattern.specs.Answers.{pattern_parts}

-- two rows of numbers as they are: the kinds, and what stands beside them
data Eight : List ℕ → List ℕ → Type 0 where
  none : Eight [] []
  node : {k g : ℕ} {ks gs : List ℕ} → k < 8 → (k ≡ 0 → g ≡ 0) → Eight ks gs → Eight (k ∷ ks) (g ∷ gs)

-- one row behind another
then : {ks gs ks' gs' : List ℕ} → Eight ks gs → Eight ks' gs' → Eight (ks ++ ks') (gs ++ gs')
then none h' = h'
then (node l z h) h' = node l z (then h h')

as_long : {ks gs : List ℕ} → Eight ks gs → length ks ≡ length gs
as_long none = refl
as_long (node l z h) = omega (arith, as_long h)

zeros : (n : ℕ) → Eight (replicate n 0) (replicate n 0)
zeros zero = none
zeros (suc n) = node (omega arith) (λ z. refl) (zeros n)

at_node : {ks gs : List ℕ} → Eight ks gs → (i : ℕ) → (get_or ks i 0 < 8) × (get_or ks i 0 ≡ 0 → get_or gs i 0 ≡ 0)
at_node none i = (omega arith, λ z. refl)
at_node (node l z h) zero = (l, z)
at_node (node l z h) (suc i) = at_node h i

-- one node, of another kind than an eps
one : (k : ℕ) {g : ℕ} → 0 < k → k < 8 → Eight (k ∷ []) (g ∷ [])
one k h l = node l (λ z. absurd (omega (arith, z))) none

-- a part, and behind it the node over it
over : {ks gs : List ℕ} (k g : ℕ) → Eight ks gs → 0 < k → k < 8 → Eight (ks ++ k ∷ []) (gs ++ g ∷ [])
over k g h l u = then h (one k l u)

nodes_eight : (n m p : ℕ) (e : Re) → Eight (kinds e) (args n m p e)
unfolding kinds args
nodes_eight n m p eps = node (omega arith) (λ z. refl) none
nodes_eight n m p (pos c) = one 1 (omega arith) (omega arith)
nodes_eight n m p (cat x y) = then (nodes_eight n m p x) (over 2 _ (nodes_eight (n + nodes x) (m + marks x) (p + size x) y) (omega arith) (omega arith))
nodes_eight n m p (alt x y) = then (nodes_eight n m p x) (over 3 _ (nodes_eight (n + nodes x) (m + marks x) (p + size x) y) (omega arith) (omega arith))
nodes_eight n m p (branch x) = over 4 _ (nodes_eight n (suc m) p x) (omega arith) (omega arith)
nodes_eight n m p (star x) = over 5 _ (nodes_eight n (suc m) p x) (omega arith) (omega arith)
nodes_eight n m p (plus x) = over 6 _ (nodes_eight n (suc m) p x) (omega arith) (omega arith)
nodes_eight n m p (opt x) = over 7 _ (nodes_eight n (suc m) p x) (omega arith) (omega arith)

-- with zeros behind them
padded : {ks gs : List ℕ} (n : ℕ) → Eight ks gs → Eight (ks ++ replicate (n - length ks) 0) (gs ++ replicate (n - length gs) 0)
padded {ks} n h = rw (sym (as_long h)) (then h (zeros (n - length ks)))

answered : {pat : List ℕ} {n v : ℕ} {Q : meaning.ReadPattern} → Read pat n v Q → Eight Q.kind Q.arg
unfolding read_pattern no_parts
answered (long_pattern h) = zeros 1024
answered (refused h r) = zeros 1024
answered (accepted {e = e} a) = padded 1024 (nodes_eight 0 0 0 e)

-- ---- of a read pattern, for each node

module _ {pat : List ℕ} {n v : ℕ} (P : ReadPattern) (r : Read pat n v (pattern_parts P)) (i : ℕ) where
  -- its kind: so it is no `Other`
  pub one_of_eight : kind_of (get_or P.node i (Eps 0)) < 8
  one_of_eight = omega (arith, kind_at P.node i _ refl, (at_node (answered r) i).0)

  -- beside an eps stands 0
  pub bare_eps : (a : ℕ) → get_or P.node i (Eps 0) ≡ Eps a → a ≡ 0
  bare_eps a e = sym (arg_at P.node i _ e) ∙ (at_node (answered r) i).1 (kind_at P.node i _ e)
