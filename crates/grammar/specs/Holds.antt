-- How the rows of a read pattern hold an expression, node by node: what a walk over them may rely on.
use Rattle.std.specs.Prelude.{◌≡◌, refl, Bool, List, [], ◌∷◌, ◌++◌, ℕ, suc, ◌+◌, ◌-◌, ◌*◌, ◌<◌, ◌≤◌, length, get_or, replicate}
use Rattle.std.proofs.Common.{sym, ◌∙◌, ap, arith, zero-add, length-append, get_or-append-add}
use Rattle.std.proofs.lemmas.List.{length-replicate}
use Rattle.std.proofs.Math.ListN.{get_or-append}
use Rattle.meaning.specs.Expression.{Re, eps, pos, cat, alt, branch, star, plus, opt, marks, size}
use Rattle.meaning.specs.ReadPattern.{nodes, kinds, args, words, node_of, padded, read_pattern}

-- node i is of kind k, and within both rows
pub record Node (ks gs : List ℕ) (i k : ℕ) : Type 0 where
  pub kind : get_or ks i 0 ≡ k
  pub in_k : i < length ks
  pub in_a : i < length gs

-- node i has one part, which ends just before it, and the mark h
pub record Unary (ks gs : List ℕ) (i k h : ℕ) : Type 0 where
  pub node : Node ks gs i k
  pub above : 0 < i
  pub mark : get_or gs i 0 ≡ h

-- node i has two parts; the right one, of n nodes, ends just before it, the left one just before that
pub record Binary (ks gs : List ℕ) (i k n : ℕ) : Type 0 where
  pub node : Node ks gs i k
  pub above : 0 < n
  pub left : suc (get_or gs i 0 + n) ≡ i

-- node i holds e, with m marks and p positions before it
pub data Holds (ks gs : List ℕ) : ℕ → ℕ → ℕ → Re → Type 0 where
  h_eps : {m p i : ℕ} → Node ks gs i 0 → Holds ks gs m p i eps
  h_pos : {m p i : ℕ} {c : ℕ → Bool} → Node ks gs i 1 → get_or gs i 0 ≡ p → Holds ks gs m p i (pos c)
  h_cat : {m p i : ℕ} {x y : Re} → Binary ks gs i 2 (nodes y) → Holds ks gs m p (get_or gs i 0) x → Holds ks gs (m + marks x) (p + size x) (i - 1) y → Holds ks gs m p i (cat x y)
  h_alt : {m p i : ℕ} {x y : Re} → Binary ks gs i 3 (nodes y) → Holds ks gs m p (get_or gs i 0) x → Holds ks gs (m + marks x) (p + size x) (i - 1) y → Holds ks gs m p i (alt x y)
  h_branch : {m p i : ℕ} {x : Re} → Unary ks gs i 4 (suc m) → Holds ks gs (suc m) p (i - 1) x → Holds ks gs m p i (branch x)
  h_star : {m p i : ℕ} {x : Re} → Unary ks gs i 5 (suc m) → Holds ks gs (suc m) p (i - 1) x → Holds ks gs m p i (star x)
  h_plus : {m p i : ℕ} {x : Re} → Unary ks gs i 6 (suc m) → Holds ks gs (suc m) p (i - 1) x → Holds ks gs m p i (plus x)
  h_opt : {m p i : ℕ} {x : Re} → Unary ks gs i 7 (suc m) → Holds ks gs (suc m) p (i - 1) x → Holds ks gs m p i (opt x)

pub nodes_some : (e : Re) → 0 < nodes e
unfolding nodes
nodes_some eps = omega arith
nodes_some (pos c) = omega arith
nodes_some (cat x y) = omega arith
nodes_some (alt x y) = omega arith
nodes_some (branch x) = omega arith
nodes_some (star x) = omega arith
nodes_some (plus x) = omega arith
nodes_some (opt x) = omega arith

-- the nodes of e are the run of that many nodes that ends at i
pub nodes_fit : {ks gs : List ℕ} {m p i : ℕ} {e : Re} → Holds ks gs m p i e → nodes e ≤ suc i
unfolding nodes
nodes_fit (h_eps n) = omega arith
nodes_fit (h_pos n e) = omega arith
nodes_fit (h_cat b x y) = omega (arith, nodes_fit x, b.left)
nodes_fit (h_alt b x y) = omega (arith, nodes_fit x, b.left)
nodes_fit (h_branch u x) = omega (arith, nodes_fit x, u.above)
nodes_fit (h_star u x) = omega (arith, nodes_fit x, u.above)
nodes_fit (h_plus u x) = omega (arith, nodes_fit x, u.above)
nodes_fit (h_opt u x) = omega (arith, nodes_fit x, u.above)

-- l stands in t from k on
pub record Stands (l : List ℕ) (t : List ℕ) (k : ℕ) : Type 0 where
  pub within : k + length l ≤ length t
  pub here : (j : ℕ) → j < length l → get_or t (k + j) 0 ≡ get_or l j 0

pub stands_left : {t : List ℕ} {k : ℕ} (a b : List ℕ) → Stands (a ++ b) t k → Stands a t k
stands_left a b s = let h = length-append a b in record { within = omega (arith, s.within); here = λ j l. s.here j (omega arith) ∙ get_or-append a b 0 j l }

pub stands_right : {t : List ℕ} {k : ℕ} (a b : List ℕ) → Stands (a ++ b) t k → Stands b t (k + length a)
stands_right {t} {k} a b s =
    let h = length-append a b in
    record { within = omega (arith, s.within); here = λ j l. ap (λ (n : ℕ). get_or t n 0) (assoc j) ∙ s.here (length a + j) (omega arith) ∙ get_or-append-add a b j 0 }
  where
    assoc : (j : ℕ) → k + length a + j ≡ k + (length a + j)
    assoc j = omega arith

pub stands_last : {t : List ℕ} {k v : ℕ} (i : ℕ) → Stands (v ∷ []) t k → k ≡ i → (get_or t i 0 ≡ v) × (i < length t)
stands_last {t} {k} i s e = let z : k + 0 ≡ i = omega arith in ((ap (λ (n : ℕ). get_or t n 0) (sym z) ∙ s.here 0 (omega arith)), omega (arith, s.within))

pub stands_at : {l t : List ℕ} {k : ℕ} (i : ℕ) → Stands l t k → k ≡ i → Stands l t i
stands_at i s e = rw e at s

pub kinds_length : (e : Re) → length (kinds e) ≡ nodes e
unfolding nodes kinds
kinds_length eps = refl
kinds_length (pos c) = refl
kinds_length (cat x y) = simp length-append (omega (arith, kinds_length x, kinds_length y))
kinds_length (alt x y) = simp length-append (omega (arith, kinds_length x, kinds_length y))
kinds_length (branch x) = simp length-append (omega (arith, kinds_length x))
kinds_length (star x) = simp length-append (omega (arith, kinds_length x))
kinds_length (plus x) = simp length-append (omega (arith, kinds_length x))
kinds_length (opt x) = simp length-append (omega (arith, kinds_length x))

pub args_length : (k m p : ℕ) (e : Re) → length (args k m p e) ≡ nodes e
unfolding nodes args
args_length k m p eps = refl
args_length k m p (pos c) = refl
args_length k m p (cat x y) = simp length-append (omega (arith, args_length k m p x, args_length (k + nodes x) (m + marks x) (p + size x) y))
args_length k m p (alt x y) = simp length-append (omega (arith, args_length k m p x, args_length (k + nodes x) (m + marks x) (p + size x) y))
args_length k m p (branch x) = simp length-append (omega (arith, args_length k (suc m) p x))
args_length k m p (star x) = simp length-append (omega (arith, args_length k (suc m) p x))
args_length k m p (plus x) = simp length-append (omega (arith, args_length k (suc m) p x))
args_length k m p (opt x) = simp length-append (omega (arith, args_length k (suc m) p x))

pub length_words : (e : Re) → length (words e) ≡ 4 * size e
unfolding words size
length_words eps = refl
length_words (pos c) = refl
length_words (cat x y) = let h = length_words x in let g = length_words y in simp length-append (omega arith)
length_words (alt x y) = let h = length_words x in let g = length_words y in simp length-append (omega arith)
length_words (branch x) = length_words x
length_words (star x) = length_words x
length_words (plus x) = length_words x
length_words (opt x) = length_words x

-- the rows of two parts and their node
module _ {ks gs : List ℕ} (k m p c i : ℕ) (x y : Re) (e : i ≡ k + (nodes x + nodes y))
    (K : Stands (kinds x ++ (kinds y ++ (c ∷ []))) ks k)
    (A : Stands (args k m p x ++ (args (k + nodes x) (m + marks x) (p + size x) y ++ (node_of k x ∷ []))) gs k) where
  after_x : k + length (kinds x) ≡ k + nodes x
  after_x = omega (arith, kinds_length x)

  after_args : k + length (args k m p x) ≡ k + nodes x
  after_args = omega (arith, args_length k m p x)

  K' : Stands (kinds y ++ (c ∷ [])) ks (k + nodes x)
  K' = stands_at _ (stands_right (kinds x) _ K) after_x

  A' : Stands (args (k + nodes x) (m + marks x) (p + size x) y ++ (node_of k x ∷ [])) gs (k + nodes x)
  A' = stands_at _ (stands_right (args k m p x) _ A) after_args

  binary_kind : (get_or ks i 0 ≡ c) × (i < length ks)
  binary_kind = stands_last i (stands_right (kinds y) _ K') (omega (arith, kinds_length y))

  binary_arg : (get_or gs i 0 ≡ node_of k x) × (i < length gs)
  binary_arg = stands_last i (stands_right (args (k + nodes x) (m + marks x) (p + size x) y) _ A') (omega (arith, args_length (k + nodes x) (m + marks x) (p + size x) y))

  binary : Binary ks gs i c (nodes y)
  binary =
      record { node = record { kind = binary_kind.0; in_k = binary_kind.1; in_a = binary_arg.1 }; above = nodes_some y; left = omega (arith, binary_arg.0, nodes_some x) }

  module _ (f : Stands (kinds x) ks k → Stands (args k m p x) gs k → Holds ks gs m p (node_of k x) x)
      (g : Stands (kinds y) ks (k + nodes x) → Stands (args (k + nodes x) (m + marks x) (p + size x) y) gs (k + nodes x) → Holds ks gs (m + marks x) (p + size x) (node_of (k + nodes x) y) y) where
    left_part : Holds ks gs m p (get_or gs i 0) x
    left_part = rw binary_arg.0 (f (stands_left (kinds x) _ K) (stands_left (args k m p x) _ A))

    right_part : Holds ks gs (m + marks x) (p + size x) (i - 1) y
    right_part =
        let z : i - 1 ≡ node_of (k + nodes x) y = omega (arith, nodes_some y) in
        rw z (g (stands_left (kinds y) _ K') (stands_left (args (k + nodes x) (m + marks x) (p + size x) y) _ A'))

-- the rows of one part and its node
module _ {ks gs : List ℕ} (k m p c i : ℕ) (x : Re) (e : i ≡ k + nodes x)
    (K : Stands (kinds x ++ (c ∷ [])) ks k) (A : Stands (args k (suc m) p x ++ (suc m ∷ [])) gs k) where
  unary_kind : (get_or ks i 0 ≡ c) × (i < length ks)
  unary_kind = stands_last i (stands_right (kinds x) _ K) (omega (arith, kinds_length x))

  unary_arg : (get_or gs i 0 ≡ suc m) × (i < length gs)
  unary_arg = stands_last i (stands_right (args k (suc m) p x) _ A) (omega (arith, args_length k (suc m) p x))

  unary : Unary ks gs i c (suc m)
  unary = record { node = record { kind = unary_kind.0; in_k = unary_kind.1; in_a = unary_arg.1 }; above = omega (arith, nodes_some x); mark = unary_arg.0 }

  inside_part : (Stands (kinds x) ks k → Stands (args k (suc m) p x) gs k → Holds ks gs (suc m) p (node_of k x) x) → Holds ks gs (suc m) p (i - 1) x
  inside_part f =
      let z : i - 1 ≡ node_of k x = omega (arith, nodes_some x) in
      rw z (f (stands_left (kinds x) _ K) (stands_left (args k (suc m) p x) _ A))

-- where the rows of e stand, its last node holds it
pub stands_holds : {ks gs : List ℕ} (k m p : ℕ) (e : Re) → Stands (kinds e) ks k → Stands (args k m p e) gs k → Holds ks gs m p (node_of k e) e
unfolding nodes kinds args
stands_holds k m p eps K A = let a = stands_last (k + 1 - 1) K (omega arith) in let b = stands_last (k + 1 - 1) A (omega arith) in h_eps (record { kind = a.0; in_k = a.1; in_a = b.1 })
stands_holds k m p (pos c) K A = let a = stands_last (k + 1 - 1) K (omega arith) in let b = stands_last (k + 1 - 1) A (omega arith) in h_pos (record { kind = a.0; in_k = a.1; in_a = b.1 }) b.0
stands_holds k m p (cat x y) K A =
    let z : k + suc (nodes x + nodes y) - 1 ≡ k + (nodes x + nodes y) = omega arith in
    let f = stands_holds k m p x in
    let g = stands_holds (k + nodes x) (m + marks x) (p + size x) y in
    h_cat (binary k m p 2 _ x y z K A) (left_part k m p 2 _ x y z K A f g) (right_part k m p 2 _ x y z K A f g)
stands_holds k m p (alt x y) K A =
    let z : k + suc (nodes x + nodes y) - 1 ≡ k + (nodes x + nodes y) = omega arith in
    let f = stands_holds k m p x in
    let g = stands_holds (k + nodes x) (m + marks x) (p + size x) y in
    h_alt (binary k m p 3 _ x y z K A) (left_part k m p 3 _ x y z K A f g) (right_part k m p 3 _ x y z K A f g)
stands_holds k m p (branch x) K A =
    let z : k + suc (nodes x) - 1 ≡ k + nodes x = omega arith in
    h_branch (unary k m p 4 _ x z K A) (inside_part k m p 4 _ x z K A (stands_holds k (suc m) p x))
stands_holds k m p (star x) K A =
    let z : k + suc (nodes x) - 1 ≡ k + nodes x = omega arith in
    h_star (unary k m p 5 _ x z K A) (inside_part k m p 5 _ x z K A (stands_holds k (suc m) p x))
stands_holds k m p (plus x) K A =
    let z : k + suc (nodes x) - 1 ≡ k + nodes x = omega arith in
    h_plus (unary k m p 6 _ x z K A) (inside_part k m p 6 _ x z K A (stands_holds k (suc m) p x))
stands_holds k m p (opt x) K A =
    let z : k + suc (nodes x) - 1 ≡ k + nodes x = omega arith in
    h_opt (unary k m p 7 _ x z K A) (inside_part k m p 7 _ x z K A (stands_holds k (suc m) p x))

pub padded_stands : (n : ℕ) (l : List ℕ) → length l ≤ n → Stands l (padded n l) 0
padded_stands n l h = record {
  within = simp (length-append, length-replicate) (omega arith);
  here = λ j k. ap (λ (i : ℕ). get_or (padded n l) i 0) (zero-add j) ∙ get_or-append l (replicate (n - length l) 0) 0 j k;
}

-- the read pattern of e holds e at its last node
pub read_pattern_holds : (e : Re) → nodes e ≤ 1024 → Holds (read_pattern e).kind (read_pattern e).arg 0 0 (nodes e - 1) e
unfolding read_pattern
read_pattern_holds e h =
    let z : nodes e - 1 ≡ node_of 0 e = omega arith in
    rw z (stands_holds 0 0 0 e (padded_stands 1024 (kinds e) (omega (arith, kinds_length e))) (padded_stands 1024 (args 0 0 0 e) (omega (arith, args_length 0 0 0 e))))
