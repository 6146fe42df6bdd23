-- A row of nodes and its two rows of numbers. Assumes nothing.
use Rattle.std.proofs.Common.{◌≡◌, ◌≤◌, ◌<◌, ◌⊎◌, inl, inr, List, [], ℕ, zero, suc, ◌+◌, refl, sym, ap, ap₂, ◌∙◌, length, get_or, set, replicate, ◌∷◌, arith}
use Rattle.std.proofs.lemmas.List.{map-set, length-map}
use Rattle.std.proofs.Math.ListN.{get_or-map}
use lib.Seq.{set-get_or}
use Rattle.kinds.specs.declared.Node.{Node}
use Rattle.kinds.specs.declared.Node.TheVariants.{Eps, Pos, Cat, Alt, Branch, Star, Plus, Opt, Other}
use Rattle.kinds.specs.Nodes.{kind_of, arg_of, kinds_of, args_of}

-- as many numbers as nodes
pub kinds_long : (ns : List Node) → length (kinds_of ns) ≡ length ns
unfolding kinds_of
kinds_long ns = length-map ns kind_of

pub args_long : (ns : List Node) → length (args_of ns) ≡ length ns
unfolding args_of
args_long ns = length-map ns arg_of

-- node i is x: its kind, and the number beside it
pub kind_at : (ns : List Node) (i : ℕ) (x : Node) → get_or ns i (Eps 0) ≡ x → get_or (kinds_of ns) i 0 ≡ kind_of x
unfolding kinds_of
kind_at ns i x e = get_or-map kind_of ns i (Eps 0) ∙ ap kind_of e

pub arg_at : (ns : List Node) (i : ℕ) (x : Node) → get_or ns i (Eps 0) ≡ x → get_or (args_of ns) i 0 ≡ arg_of x
unfolding args_of
arg_at ns i x e = get_or-map arg_of ns i (Eps 0) ∙ ap arg_of e

-- node i becomes x
pub kinds_set : (ns : List Node) (i : ℕ) (x : Node) → kinds_of (set ns i x) ≡ set (kinds_of ns) i (kind_of x)
unfolding kinds_of
kinds_set ns i x = map-set kind_of ns i x

pub args_set : (ns : List Node) (i : ℕ) (x : Node) → args_of (set ns i x) ≡ set (args_of ns) i (arg_of x)
unfolding args_of
args_set ns i x = map-set arg_of ns i x

-- a row of nodes that are all eps, with 0 beside them
pub blank_kinds : (n : ℕ) → kinds_of (replicate n (Eps 0)) ≡ replicate n 0
unfolding kinds_of
blank_kinds zero = refl
blank_kinds (suc n) = ap (λ (l : List ℕ). 0 ∷ l) (blank_kinds n)

pub blank_args : (n : ℕ) → args_of (replicate n (Eps 0)) ≡ replicate n 0
unfolding args_of
blank_args zero = refl
blank_args (suc n) = ap (λ (l : List ℕ). 0 ∷ l) (blank_args n)

-- ---- a row of nodes is what its two rows of numbers say

node_from : ℕ → ℕ → Node
node_from zero a = Eps a
node_from (suc zero) a = Pos a
node_from (suc (suc zero)) a = Cat a
node_from (suc (suc (suc zero))) a = Alt a
node_from (suc (suc (suc (suc zero)))) a = Branch a
node_from (suc (suc (suc (suc (suc zero))))) a = Star a
node_from (suc (suc (suc (suc (suc (suc zero)))))) a = Plus a
node_from (suc (suc (suc (suc (suc (suc (suc zero))))))) a = Opt a
node_from (suc (suc (suc (suc (suc (suc (suc (suc past)))))))) a = Other past a

eight : (past : ℕ) → 8 + past ≡ suc (suc (suc (suc (suc (suc (suc (suc past)))))))
eight past = omega arith

node_back : (x : Node) → node_from (kind_of x) (arg_of x) ≡ x
unfolding node_from
node_back (Eps a) = refl
node_back (Pos p) = refl
node_back (Cat left) = refl
node_back (Alt left) = refl
node_back (Branch mark) = refl
node_back (Star mark) = refl
node_back (Plus mark) = refl
node_back (Opt mark) = refl
node_back (Other past a) = rw (eight past) refl

pub nodes_from : List ℕ → List ℕ → List Node
nodes_from [] gs = []
nodes_from (k ∷ ks) [] = []
nodes_from (k ∷ ks) (g ∷ gs) = node_from k g ∷ nodes_from ks gs

pub nodes_back : (ns : List Node) → nodes_from (kinds_of ns) (args_of ns) ≡ ns
unfolding kinds_of args_of nodes_from
nodes_back [] = refl
nodes_back (x ∷ ns) = ap₂ (λ (y : Node) (l : List Node). y ∷ l) (node_back x) (nodes_back ns)

-- and two rows of numbers, whatever they are, are those of a row of nodes

kind_from : (k a : ℕ) → kind_of (node_from k a) ≡ k
unfolding node_from
kind_from zero a = refl
kind_from (suc zero) a = refl
kind_from (suc (suc zero)) a = refl
kind_from (suc (suc (suc zero))) a = refl
kind_from (suc (suc (suc (suc zero)))) a = refl
kind_from (suc (suc (suc (suc (suc zero))))) a = refl
kind_from (suc (suc (suc (suc (suc (suc zero)))))) a = refl
kind_from (suc (suc (suc (suc (suc (suc (suc zero))))))) a = refl
kind_from (suc (suc (suc (suc (suc (suc (suc (suc past)))))))) a = eight past

arg_from : (k a : ℕ) → arg_of (node_from k a) ≡ a
unfolding node_from
arg_from zero a = refl
arg_from (suc zero) a = refl
arg_from (suc (suc zero)) a = refl
arg_from (suc (suc (suc zero))) a = refl
arg_from (suc (suc (suc (suc zero)))) a = refl
arg_from (suc (suc (suc (suc (suc zero))))) a = refl
arg_from (suc (suc (suc (suc (suc (suc zero)))))) a = refl
arg_from (suc (suc (suc (suc (suc (suc (suc zero))))))) a = refl
arg_from (suc (suc (suc (suc (suc (suc (suc (suc past)))))))) a = refl

pub kinds_from : (ks gs : List ℕ) → length gs ≡ length ks → kinds_of (nodes_from ks gs) ≡ ks
unfolding kinds_of nodes_from
kinds_from [] gs h = refl
kinds_from (k ∷ ks) [] h = absurd (omega (arith, h))
kinds_from (k ∷ ks) (g ∷ gs) h = ap₂ (λ (j : ℕ) (l : List ℕ). j ∷ l) (kind_from k g) (kinds_from ks gs (omega (arith, h)))

pub args_from : (ks gs : List ℕ) → length gs ≡ length ks → args_of (nodes_from ks gs) ≡ gs
unfolding args_of nodes_from
args_from [] [] h = refl
args_from [] (g ∷ gs) h = absurd (omega (arith, h))
args_from (k ∷ ks) [] h = absurd (omega (arith, h))
args_from (k ∷ ks) (g ∷ gs) h = ap₂ (λ (j : ℕ) (l : List ℕ). j ∷ l) (arg_from k g) (args_from ks gs (omega (arith, h)))

-- node i becomes one of the same kind
pub kinds_same : (ns : List Node) (i : ℕ) (x : Node) → kind_of x ≡ kind_of (get_or ns i (Eps 0)) → kinds_of (set ns i x) ≡ kinds_of ns
kinds_same ns i x e =
    kinds_set ns i x ∙ ap (λ (k : ℕ). set (kinds_of ns) i k) (e ∙ sym (kind_at ns i (get_or ns i (Eps 0)) refl)) ∙ set-get_or (kinds_of ns) i 0

-- ---- what a match says of node i

-- it has no part
pub leaf_at : (ns : List Node) (i : ℕ) → ((a : ℕ) × (get_or ns i (Eps 0) ≡ Eps a)) ⊎ ((p : ℕ) × (get_or ns i (Eps 0) ≡ Pos p)) → get_or (kinds_of ns) i 0 < 2
leaf_at ns i (inl (a, e)) = omega (arith, kind_at ns i (Eps a) e)
leaf_at ns i (inr (p, e)) = omega (arith, kind_at ns i (Pos p) e)

-- it has two parts, and the left one is node l
pub record PairAt (ks gs : List ℕ) (i l : ℕ) : Type 0 where
  pub least : 2 ≤ get_or ks i 0
  pub most : get_or ks i 0 < 4
  pub left : get_or gs i 0 ≡ l

pub pair_at : (ns : List Node) (i l : ℕ) → (get_or ns i (Eps 0) ≡ Cat l) ⊎ (get_or ns i (Eps 0) ≡ Alt l) → PairAt (kinds_of ns) (args_of ns) i l
pair_at ns i l (inl e) = let k = kind_at ns i (Cat l) e in record { least = omega (arith, k); most = omega (arith, k); left = arg_at ns i (Cat l) e }
pair_at ns i l (inr e) = let k = kind_at ns i (Alt l) e in record { least = omega (arith, k); most = omega (arith, k); left = arg_at ns i (Alt l) e }

-- it has one part, and a mark
marked_kind : (x : Node) → ((b : ℕ) → x ≡ Eps b → ⊥) → ((p : ℕ) → x ≡ Pos p → ⊥) → ((l : ℕ) → x ≡ Cat l → ⊥) → ((l : ℕ) → x ≡ Alt l → ⊥) → 4 ≤ kind_of x
marked_kind (Eps b) e p c a = absurd (e b refl)
marked_kind (Pos q) e p c a = absurd (p q refl)
marked_kind (Cat l) e p c a = absurd (c l refl)
marked_kind (Alt l) e p c a = absurd (a l refl)
marked_kind (Branch m) e p c a = omega arith
marked_kind (Star m) e p c a = omega arith
marked_kind (Plus m) e p c a = omega arith
marked_kind (Opt m) e p c a = omega arith
marked_kind (Other past m) e p c a = omega arith

pub marked_at : (ns : List Node) (i : ℕ) → ((b : ℕ) → get_or ns i (Eps 0) ≡ Eps b → ⊥) → ((p : ℕ) → get_or ns i (Eps 0) ≡ Pos p → ⊥) → ((l : ℕ) → get_or ns i (Eps 0) ≡ Cat l → ⊥)
    → ((l : ℕ) → get_or ns i (Eps 0) ≡ Alt l → ⊥) → 4 ≤ get_or (kinds_of ns) i 0
marked_at ns i e p c a = let x = get_or ns i (Eps 0) in rw (kind_at ns i x refl) (marked_kind x e p c a)
