-- From the beginning of the text forwards: the positions that may come next, and how far a text begins one with a tree.
use Rattle.std.specs.Prelude.{◌≡◌, true, List, [], ◌∷◌, ◌++◌, ◌↔◌, ℕ, zero, suc, ◌+◌, ◌≤◌, ◌<◌, length, get_or, take, drop}
use Rattle.std.proofs.Common.{◌∙◌, append_assoc, arith, length-append, take-suc, drop-cons, get_or-take, length-take-le}
use Rattle.std.proofs.Math.Decide.{dec_le}
use Rattle.std.proofs.Math.ListN.{get_or-append}
use Rattle.meaning.specs.Expression.{Re, cat, marks, size}
use Rattle.meaning.specs.Grammar.{Bytes, no_byte, byte, Longest}
use Rattle.meaning.specs.Tree.{closing, Some, some, Tree, t_eps, t_pos, t_cat, t_left, t_branch, t_none, t_once, t_skip, Begins}
use Rattle.grammar.specs.ByteRow.{bytes_append}
use Rattle.grammar.specs.Open.{Open, names, o_eps, o_pos, o_cat, o_alt, o_branch, o_star, o_plus, o_opt}
use Rattle.positions.specs.Complete.{lift, join, complete}
use Rattle.positions.specs.Positions.{Out, pass, at}
use Rattle.positions.specs.Positions.{Resume, r_pos, r_cat_in, r_cat_over, r_cat_right, r_left, r_right}
use Rattle.positions.specs.Positions.{r_branch_in, r_branch_out, r_star_in, r_star_out, r_plus_in, r_plus_out, r_opt_in, r_opt_out}
use Rattle.positions.specs.Positions.{At, a_pos, a_cat_left, a_cat_right, a_left, a_right, a_branch, a_star, a_plus, a_opt}
use Rattle.positions.specs.Positions.{Trace, done, step, link, Walk, walk}
use Rattle.positions.specs.Sets.{firsts, follows, firsts_full, firsts_some, follows_full, follows_some}
use Rattle.positions.specs.Sound.{walked}
use Rattle.positions.specs.Tests.{reads, reads_full, reads_some}

-- some text of bytes with the property
abbrev SomeText : (List ℕ → List ℕ → Type 0) → Type 0
SomeText T = (s : List ℕ) × (r : List ℕ) × Bytes s × T s r

pub some_tree : {e : Re} → Open e → (m : ℕ) → SomeText (Tree m e)
some_tree o_eps m = ([], _, no_byte, t_eps)
some_tree (o_pos (names h k)) m = (_, _, byte h no_byte, t_pos k)
some_tree (o_cat o o') m = let t = some_tree o m in let u = some_tree o' _ in (_, _, bytes_append t.2 u.2, t_cat t.3 u.3)
some_tree (o_alt o o') m = let t = some_tree o m in (_, _, t.2, t_left t.3)
some_tree (o_branch o) m = let t = some_tree o (suc m) in (_, _, t.2, t_branch t.3)
some_tree (o_star o) m = ([], _, no_byte, t_none)
some_tree (o_plus o) m = let t = some_tree o (suc m) in (_, _, t.2, t_once t.3)
some_tree (o_opt o) m = ([], _, no_byte, t_skip)

-- from each position that has read a byte there is some rest
abbrev Rest : ℕ → ℕ → Re → ℕ → ℕ → Type 0
Rest m p e j b = SomeText (λ s. Trace m p e (at j) (b ∷ s))

lift_rest : {m p m' p' j b : ℕ} {x e : Re} → ((j b : ℕ) → At p x j b → At p' e j b) → ((j : ℕ) (ρ : List ℕ) (o : Out) → Resume m p x j ρ o → Resume m' p' e j ρ o)
    → Rest m p x j b → Rest m' p' e j b
lift_rest look move (s, r, k, t) = (s, r, k, lift look move t)

join_rest : {m p m' p' j b : ℕ} {x e : Re} {o : Out} {s' r' : List ℕ} → ((j b : ℕ) → At p x j b → At p' e j b) → ((j q : ℕ) (ρ : List ℕ) → Resume m p x j ρ (at q) → Resume m' p' e j ρ (at q))
    → (τ : List ℕ) → ((j : ℕ) (ρ : List ℕ) → Resume m p x j ρ pass → Resume m' p' e j (ρ ++ τ) o) → Bytes s' → Trace m' p' e o s' r' → Rest m p x j b → Rest m' p' e j b
join_rest look keep τ leave k' tail (s, r, k, step a w t) = (_, _, bytes_append k k', join look keep τ leave tail a w t)

cat_rest : {m p j b : ℕ} {x y : Re} {s r : List ℕ} → Bytes s → Walk (m + marks x) (p + size x) y s r → Rest m p x j b → Rest m p (cat x y) j b
cat_rest k (link {ρ = ρ} e t) = join_rest (λ j b a. a_cat_left a) (λ j q ρ w. r_cat_in w) ρ (λ j ρ w. r_cat_over w e) k (lift (λ j b a. a_cat_right a) (λ j ρ o w. r_cat_right w) t)

some_rest : {e : Re} → Open e → (m p : ℕ) {j b : ℕ} → At p e j b → Rest m p e j b
some_rest o m p (a_pos h) = ([], _, no_byte, step (a_pos h) r_pos done)
some_rest (o_cat o o') m p (a_cat_left a) = let t = some_tree o' _ in cat_rest t.2 (complete _ t.3) (some_rest o m p a)
some_rest (o_cat o o') m p (a_cat_right a) = lift_rest (λ j b a. a_cat_right a) (λ j ρ o w. r_cat_right w) (some_rest o' _ _ a)
some_rest (o_alt o o') m p (a_left a) = lift_rest (λ j b a. a_left a) (λ j ρ o w. r_left w) (some_rest o m p a)
some_rest (o_alt o o') m p (a_right a) = lift_rest (λ j b a. a_right a) (λ j ρ o w. r_right w) (some_rest o' _ _ a)
some_rest (o_branch o) m p (a_branch a) = join_rest (λ j b a. a_branch a) (λ j q ρ w. r_branch_in w) (closing m ∷ []) (λ j ρ w. r_branch_out w) no_byte done (some_rest o (suc m) p a)
some_rest (o_star o) m p (a_star a) = join_rest (λ j b a. a_star a) (λ j q ρ w. r_star_in w) (closing m ∷ []) (λ j ρ w. r_star_out w) no_byte done (some_rest o (suc m) p a)
some_rest (o_plus o) m p (a_plus a) = join_rest (λ j b a. a_plus a) (λ j q ρ w. r_plus_in w) (closing m ∷ []) (λ j ρ w. r_plus_out w) no_byte done (some_rest o (suc m) p a)
some_rest (o_opt o) m p (a_opt a) = join_rest (λ j b a. a_opt a) (λ j q ρ w. r_opt_in w) (closing m ∷ []) (λ j ρ w. r_opt_out w) no_byte done (some_rest o (suc m) p a)

-- after the first i bytes of the text, position q may come next
pub data Reached (e : Re) (text : List ℕ) : ℕ → ℕ → Type 0 where
  r_first : {q : ℕ} → firsts 0 e q ≡ true → Reached e text 0 q
  r_next : {i q q' : ℕ} → Reached e text i q → reads 0 e q (get_or text i 0) ≡ true → follows 0 e q q' ≡ true → Reached e text (suc i) q'

-- as a loop computes them
pub reached_first : (e : Re) (text : List ℕ) (q : ℕ) → Reached e text 0 q ↔ (firsts 0 e q ≡ true)
reached_first e text q = (λ x. go x, λ h. r_first h)
  where
    go : Reached e text 0 q → firsts 0 e q ≡ true
    go (r_first h) = h

-- position q reads byte i of the text
pub record Last (e : Re) (text : List ℕ) (i q : ℕ) : Type 0 where
  pub reached : Reached e text i q
  pub read : reads 0 e q (get_or text i 0) ≡ true

pub reached_next : (e : Re) (text : List ℕ) (i q' : ℕ) → Reached e text (suc i) q' ↔ ((q : ℕ) × Last e text i q × (follows 0 e q q' ≡ true))
reached_next e text i q' = (λ x. go x, λ x. r_next x.1.reached x.1.read x.2)
  where
    go : Reached e text (suc i) q' → (q : ℕ) × Last e text i q × (follows 0 e q q' ≡ true)
    go (r_next x h k) = (_, record { reached = x; read = h }, k)

reached_same : {e : Re} {s t : List ℕ} {k q : ℕ} → ((i : ℕ) → i < k → get_or s i 0 ≡ get_or t i 0) → Reached e s k q → Reached e t k q
reached_same f (r_first h) = r_first h
reached_same f (r_next {i = i} x h k) = r_next (reached_same (λ i l. f i (omega arith)) x) (rw (f i (omega arith)) at h) k

-- a walk reaches each place of its text
ahead : {q c : ℕ} {e : Re} {s r : List ℕ} → Trace 0 0 e (at q) (c ∷ s) r → (At 0 e q c) × (Some s → (q' : ℕ) × (r' : List ℕ) × (follows 0 e q q' ≡ true) × Trace 0 0 e (at q') s r')
ahead (step a w done) = (a, λ n. elim n [ ])
ahead (step a w (step a' w' t)) = (a, λ n. (_, _, follows_full w, step a' w' t))

start : {e : Re} {s r : List ℕ} → Some s → Walk 0 0 e s r → (q : ℕ) × (r' : List ℕ) × (firsts 0 e q ≡ true) × Trace 0 0 e (at q) s r'
start n (link w done) = elim n [ ]
start n (link w (step a w' t)) = (_, _, firsts_full w, step a w' t)

some_drop : (s : List ℕ) (i : ℕ) → i < length s → Some (drop i s)
some_drop s i h = rw (drop-cons s i 0 h) some

walk_reaches : {e : Re} {s r : List ℕ} → Walk 0 0 e s r → (i : ℕ) → i < length s → (q : ℕ) × (r' : List ℕ) × Reached e s i q × Trace 0 0 e (at q) (drop i s) r'
walk_reaches {s = s} w zero h = let x = start (some_drop s 0 h) w in (x.0, x.1, r_first x.2, x.3)
walk_reaches {e} {s} w (suc i) h =
    let x = walk_reaches w i (omega arith) in
    let y = ahead (rw (drop-cons s i 0 (omega arith)) at x.3) in
    let z = y.1 (some_drop s (suc i) h) in
    (z.0, z.1, r_next x.2 (reads_full y.0) z.2, z.3)

-- and each place that is reached has a walk to it
reached_walk : {e : Re} {text s r : List ℕ} {i q : ℕ} → Reached e text i q → i ≤ length text → Trace 0 0 e (at q) s r → (r' : List ℕ) × Walk 0 0 e (take i text ++ s) r'
reached_walk {e} (r_first {q = q} h) l t = (_, walk (firsts_some 0 0 e q h).1 t)
reached_walk {e} {text} {s} (r_next {i = i} {q = q} {q' = q'} x h k) l t =
    let u = reached_walk {s = get_or text i 0 ∷ s} x (omega arith) (step (reads_some 0 e q (get_or text i 0) h) (follows_some 0 0 e q q' k).1 t) in
    (u.0, rw (take-suc text i 0 (omega arith), append_assoc (take i text) (get_or text i 0 ∷ []) s) u.1)

-- what begins a text with a tree
pub begins_start : {e : Re} → Open e → (text : List ℕ) → Begins e (take 0 text)
begins_start o text = let t = some_tree o 0 in record { rest = t.0; bytes = t.2; row = t.1; tree = t.3 }

pub begins_next : {e : Re} → Open e → (text : List ℕ) (i q : ℕ) → i < length text → Last e text i q → Begins e (take (suc i) text)
begins_next {e} o text i q l x =
    let t = some_rest o 0 0 (reads_some 0 e q (get_or text i 0) x.read) in
    let u = reached_walk x.reached (omega arith) t.3 in
    record { rest = t.0; bytes = t.2; row = u.0; tree = rw (take-suc text i 0 l, append_assoc (take i text) (get_or text i 0 ∷ []) t.0) (walked u.1) }

pub begins_last : {e : Re} (text : List ℕ) (i n : ℕ) → i < n → n ≤ length text → Begins e (take n text) → (q : ℕ) × Last e text i q
begins_last {e} text i n l l' b =
    let s = take n text ++ b.rest in
    let long : n ≤ length s = omega (arith, length-append (take n text) b.rest, length-take-le n text l') in
    let x = walk_reaches (complete 0 b.tree) i (omega arith) in
    let y = ahead (rw (drop-cons s i 0 (omega arith)) at x.3) in
    (x.0, record { reached = reached_same (λ k h. same k (omega arith)) x.2; read = rw (same i l) at (reads_full y.0) })
  where
    same : (k : ℕ) → k < n → get_or (take n text ++ b.rest) k 0 ≡ get_or text k 0
    same k h = get_or-append (take n text) b.rest 0 k (omega (arith, length-take-le n text l')) ∙ get_or-take n text k 0 h

-- THE PLACE: where no position can read the next byte, or the end
pub place_inside : {e : Re} (text : List ℕ) (i : ℕ) → i < length text → Begins e (take i text) → ((q : ℕ) → Last e text i q → ⊥) → Longest (Begins e) text i
place_inside {e} text i l b n = record { within = omega arith; begins = b; last = last }
  where
    last : (k : ℕ) → k ≤ length text → Begins e (take k text) → k ≤ i
    last k h c = elim (dec_le k i) [ yes z ↦ z | no z ↦ let x = begins_last text i k (omega arith) h c in absurd (n x.0 x.1) ]

pub place_end : {e : Re} (text : List ℕ) → Begins e (take (length text) text) → Longest (Begins e) text (length text)
place_end text b = record { within = omega arith; begins = b; last = λ k h c. h }
