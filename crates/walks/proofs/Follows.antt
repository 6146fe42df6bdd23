-- What may follow the positions of a node, from the same of its parts. Assumes nothing.
use mathlib.Core.Path.{◌≡◌, refl, sym, ap, ◌∙◌}
use mathlib.Core.Bool.{Bool, true, false, cond, ◌&&◌, ◌||◌, or-false, or_assoc}
use mathlib.Core.List.{List}
use mathlib.Core.Logic.{◌⊎◌, inl, inr, ⊎_elim}
use Rattle.std.proofs.lemmas.Bool.{cases_lt}
use Prim.Native.Nat.{ℕ, suc, ◌+◌, ◌-◌, ◌<◌, ◌≤◌}
use native.Mathlib.Numerals.{add-one}
use native.Mathlib.Omega.{arith}
use lib.Dec.{eqb, ltb}
use lib.ListN.{get_or}
use borrow.Author.Tests.{eq-eqb, lt-ltb, le-ltb}
use Rattle.meaning.specs.Expression.{Re, size}
use Rattle.positions.specs.Places.{In}
use Rattle.positions.specs.Tests.{nullable, ends}
use Rattle.positions.specs.Sets.{firsts, follows_in, ends_in, ends_inside, ends_down}
use Rattle.bits.specs.Truth.{both}
use Rattle.sets.specs.declared.set.Set.{Set}
use Rattle.sets.specs.Members.{has, row, rows}
use Rattle.walks.specs.Tables.{Filled, yes}
use Rattle.walks.specs.Enter.{Scanned}
use Rattle.walks.specs.Follow.{next_of, last_of, FollowAt, FollowsAt}
use Rattle.walks.proofs.Nulls.{yes_flag}
use Rattle.walks.proofs.Parts.{Leaf, leaf_eps, leaf_pos, One, one_branch, one_star, one_plus, one_opt, Two, two_cat, two_alt, Bare, Sole, Pair, one_sizes, two_sizes, leaf, single, double}
use Rattle.walks.proofs.Fill.{Put, filled_none, filled_put, filled_then, filled_at, filled_as}

-- ---- a node without parts

module _ (after ends : Set) (b : Bool) where
  eps_rows : {p k a : ℕ} {e : Re} {t : List Set} → Leaf p k a e → k ≡ 0 → Filled rows row (FollowAt p e after) p (p + size e) t t
  unfolding size
  eps_rows {p = p} leaf_eps z = filled_none p (p + 0) (omega arith)
  eps_rows (leaf_pos h) z = absurd (omega arith)

  eps_ends : {p k a : ℕ} {e : Re} → Leaf p k a e → k ≡ 0 → (j : ℕ) → has ends j ≡ (has ends j || ends_in p e b j)
  unfolding ends_in
  eps_ends leaf_eps z j = sym (or-false (has ends j))
  eps_ends (leaf_pos h) z j = absurd (omega arith)

  pos_rows : {p k a : ℕ} {e : Re} {t t' : List Set} → Leaf p k a e → k ≡ 1 → Put rows row a after t t' → Filled rows row (FollowAt p e after) p (p + size e) t t'
  unfolding size follows_in
  pos_rows leaf_eps z u = absurd (omega arith)
  pos_rows {p = p} {a = a} (leaf_pos h) z u = filled_at refl (sym (add-one p)) (filled_put p (rw h at u) (record { has_follows = λ q. rw (eq-eqb p p refl) }))

  pos_ends : {p k a : ℕ} {e : Re} (r : Set) → Leaf p k a e → k ≡ 1 → ((j : ℕ) → has r j ≡ (has ends j || (eqb j a && b))) → (j : ℕ) → has r j ≡ (has ends j || ends_in p e b j)
  unfolding ends_in
  pos_ends r leaf_eps z f j = absurd (omega arith)
  pos_ends r (leaf_pos h) z f j = f j ∙ rw h

-- ---- a node with parts

next_one : {k : ℕ} {x e : Re} (p : ℕ) (n a : Bool) (j q : ℕ) → One k x e → follows_in p x (next_of k (firsts p x q) n a) j q ≡ follows_in p e a j q
unfolding follows_in next_of
next_one p n a j q one_branch = refl
next_one p n a j q one_star = refl
next_one p n a j q one_plus = refl
next_one p n a j q one_opt = refl

last_one : {k : ℕ} {x e : Re} (p : ℕ) (b : Bool) (j : ℕ) → One k x e → ends_in p x b j ≡ ends_in p e b j
unfolding ends_in
last_one p b j one_branch = refl
last_one p b j one_star = refl
last_one p b j one_plus = refl
last_one p b j one_opt = refl

next_left : {k : ℕ} {x y e : Re} (p : ℕ) (a : Bool) (j q : ℕ) → Two k x y e → j < p + size x → follows_in p x (next_of k (firsts (p + size x) y q) (nullable y) a) j q ≡ follows_in p e a j q
unfolding follows_in next_of
next_left p a j q (two_cat {x = x} {y = y}) h = rw (lt-ltb j (p + size x) h)
next_left p a j q (two_alt {x = x}) h = rw (lt-ltb j (p + size x) h)

next_right : {k : ℕ} {x y e : Re} (p : ℕ) (a : Bool) (j q : ℕ) → Two k x y e → p + size x ≤ j → follows_in (p + size x) y a j q ≡ follows_in p e a j q
unfolding follows_in
next_right p a j q (two_cat {x = x}) h = rw (le-ltb j (p + size x) h)
next_right p a j q (two_alt {x = x}) h = rw (le-ltb j (p + size x) h)

-- a position that may be the last of a part is one of its own
out_of : (p : ℕ) (e : Re) (b : Bool) (j : ℕ) → (In p e j → ⊥) → ends_in p e b j ≡ false
out_of p e b j n = go (ends_in p e b j) refl
  where
    go : (t : Bool) → ends_in p e b j ≡ t → ends_in p e b j ≡ false
    go true z = absurd (n (ends_inside p e j (both (ends p e j) b (sym (ends_down p e b j) ∙ z)).0))
    go false z = z

side : (p : ℕ) (x y : Re) (b c : Bool) (j : ℕ) → (ends_in p x c j || ends_in (p + size x) y b j) ≡ cond (ltb j (p + size x)) (ends_in p x c j) (ends_in (p + size x) y b j)
side p x y b c j =
    ⊎_elim
    (λ l. rw (lt-ltb j (p + size x) l, out_of (p + size x) y b j (λ i. absurd (omega (arith, i)))) (or-false (ends_in p x c j)))
    (λ l. rw (le-ltb j (p + size x) l, out_of p x c j (λ i. absurd (omega (arith, i)))))
    (cases_lt j (p + size x))

last_two : {k : ℕ} {x y e : Re} (p : ℕ) (b : Bool) (j : ℕ) → Two k x y e → (ends_in p x (last_of k (nullable y) b) j || ends_in (p + size x) y b j) ≡ ends_in p e b j
unfolding ends_in last_of
last_two p b j (two_cat {x = x} {y = y}) = side p x y b (nullable y && b) j
last_two p b j (two_alt {x = x} {y = y}) = side p x y b b j

-- ---- the walk of a node

-- what comes after the left part or the only one, by the kind of the node
pub next_cat : (f n a : Bool) → (f || (n && a)) ≡ next_of 2 f n a
unfolding next_of
next_cat f n a = refl

pub next_alt : (f n a : Bool) → a ≡ next_of 3 f n a
unfolding next_of
next_alt f n a = refl

pub next_again : {k : ℕ} (f n a : Bool) → (k ≡ 5) ⊎ (k ≡ 6) → (f || a) ≡ next_of k f n a
unfolding next_of
next_again f n a (inl z) = rw z refl
next_again f n a (inr z) = rw z refl

pub next_once : {k : ℕ} (f n a : Bool) → (k ≡ 4) ⊎ (k ≡ 7) → a ≡ next_of k f n a
unfolding next_of
next_once f n a (inl z) = rw z refl
next_once f n a (inr z) = rw z refl

pub last_cat : (n b : Bool) → (n && b) ≡ last_of 2 n b
unfolding last_of
last_cat n b = refl

pub last_alt : (n b : Bool) → b ≡ last_of 3 n b
unfolding last_of
last_alt n b = refl

module _ {ks gs : List ℕ} {i arg : ℕ} {after ends : Set} {end : Bool} where
  pub follows_eps : {t : List Set} → Bare ks gs i 0 arg → FollowsAt ks gs i after end t t ends ends
  follows_eps N = record { filled = λ e m p h. eps_rows after ends end (leaf N h) refl; ended = λ e m p h. eps_ends after ends end (leaf N h) refl }

  pub follows_pos : {t t' : List Set} {r : Set} → Bare ks gs i 1 arg
      → Put rows row arg after t t' → ((j : ℕ) → has r j ≡ (has ends j || (eqb j arg && end))) → FollowsAt ks gs i after end t t' ends r
  follows_pos {r = r} N u f = record { filled = λ e m p h. pos_rows after ends end (leaf N h) refl u; ended = λ e m p h. pos_ends after ends end r (leaf N h) refl f }

  module _ {k : ℕ} {ns : List ℕ} {fs : List Set} {next : Set} (T : Scanned ks gs ns fs i) (w : (q : ℕ) → has next q ≡ next_of k (has (row fs (i - 1)) q) (yes (get_or ns (i - 1) 0)) (has after q)) where
    pub follows_one : {t t' : List Set} {r : Set} → Sole ks gs i k arg → FollowsAt ks gs (i - 1) next end t t' ends r → FollowsAt ks gs i after end t t' ends r
    follows_one N F = record {
      filled = λ e m p h.
          let s = single N h in
          let f = (T.first (i - 1) (omega arith)).has_firsts s.x (suc m) p s.part in
          filled_at refl (ap (λ (n : ℕ). p + n) (sym (one_sizes s.is).size_is))
          (filled_as (λ j a b v g. record { has_follows = λ q. g.has_follows q ∙ rw (w q, f q) (next_one p (yes (get_or ns (i - 1) 0)) (has after q) j q s.is) }) (F.filled s.x (suc m) p s.part));
      ended = λ e m p h j. let s = single N h in F.ended s.x (suc m) p s.part j ∙ rw (last_one p end j s.is);
    }

    pub follows_two : {last : Bool} {t t₁ t₂ : List Set} {seen r : Set} → Pair ks gs i k arg → last ≡ last_of k (yes (get_or ns (i - 1) 0)) end
        → FollowsAt ks gs arg next last t t₁ ends seen → FollowsAt ks gs (i - 1) after end t₁ t₂ seen r → FollowsAt ks gs i after end t t₂ ends r
    follows_two {last = last} N z F G = record {
      filled = λ e m p h.
          let d = double N h in
          let n = ap yes (T.null (i - 1) (omega arith) d.y _ _ d.right) ∙ yes_flag (nullable d.y) in
          let f = (T.first (i - 1) (omega arith)).has_firsts d.y _ _ d.right in
          filled_at refl (omega (arith, (two_sizes d.is).size_is))
          (filled_then p (p + size d.x) (p + size d.x + size d.y) (omega arith) (omega arith)
          (filled_as (λ j a b v g. record { has_follows = λ x. g.has_follows x ∙ rw (w x, f x, n) (next_left p (has after x) j x d.is b) }) (F.filled d.x _ _ d.left))
          (filled_as (λ j a b v g. record { has_follows = λ x. g.has_follows x ∙ next_right p (has after x) j x d.is a }) (G.filled d.y _ _ d.right)));
      ended = λ e m p h j.
          let d = double N h in
          let n = ap yes (T.null (i - 1) (omega arith) d.y _ _ d.right) ∙ yes_flag (nullable d.y) in
          G.ended d.y _ _ d.right j
          ∙ rw (F.ended d.x _ _ d.left j, or_assoc (has ends j) (ends_in p d.x last j) (ends_in (p + size d.x) d.y end j), z, n, last_two p end j d.is);
    }
