-- How the entries of a node's table come from those of its parts, whatever the table says. Assumes nothing.
use mathlib.Core.Path.{◌≡◌, refl, ◌∙◌}
use mathlib.Core.List.{List}
use mathlib.Core.Logic.{⊎_elim}
use Prim.Native.Nat.{ℕ, suc, ◌+◌, ◌-◌, ◌<◌, ◌≤◌}
use native.Mathlib.Omega.{arith}
use Rattle.std.proofs.lemmas.Bool.{cases_lt}
use lib.ListN.{length, get_or, set, length-set}
use lib.Seq.{get_or-set_same, get_or-set_other}
use Rattle.meaning.specs.Expression.{Re}
use Rattle.meaning.specs.ReadPattern.{nodes}
use Rattle.grammar.specs.Holds.{Holds, nodes_some, nodes_fit}
use Rattle.walks.specs.Tables.{Held, Filled, Walked, first_node}
use Rattle.walks.proofs.Parts.{Bare, Sole, Pair, leaf, single, double, leaf_nodes, one_sizes, two_sizes}

-- t' is t with v at i
pub record Put {T A : Type 0} (count : T → ℕ) (entry : T → ℕ → A) (i : ℕ) (v : A) (t t' : T) : Type 0 where
  pub same_count : count t' ≡ count t
  pub here : entry t' i ≡ v
  pub other : (j : ℕ) → (j ≡ i → ⊥) → entry t' j ≡ entry t j

pub set_put : {A : Type 0} (d : A) (t : List A) (i : ℕ) (v : A) → i < length t → Put length (λ (t : List A) j. get_or t j d) i v t (set t i v)
set_put d t i v h = record { same_count = length-set t i v; here = get_or-set_same t i v d h; other = λ j n. get_or-set_other t i j v d n }

module _ {T A : Type 0} {count : T → ℕ} {entry : T → ℕ → A} {Right : ℕ → A → Type 0} where
  pub filled_none : {t : T} (lo hi : ℕ) → hi ≤ lo → Filled count entry Right lo hi t t
  filled_none lo hi h = record { same_count = refl; right = λ j a b. absurd (omega arith); other = λ j n. refl }

  pub filled_put : {t t' : T} (i : ℕ) {v : A} → Put count entry i v t t' → Right i v → Filled count entry Right i (suc i) t t'
  filled_put {t} {t'} i u r = record {
    same_count = u.same_count;
    right = λ j a b. let z : j ≡ i = omega arith in rw (z, u.here) r;
    other = λ j n. u.other j (λ z. n (omega arith) (omega arith));
  }

  -- one part of the entries and then the next
  pub filled_then : {t t₁ t₂ : T} (lo mid hi : ℕ) → lo ≤ mid → mid ≤ hi → Filled count entry Right lo mid t t₁ → Filled count entry Right mid hi t₁ t₂ → Filled count entry Right lo hi t t₂
  filled_then {t} {t₁} {t₂} lo mid hi a b f g = record {
    same_count = g.same_count ∙ f.same_count;
    right = λ j l h. ⊎_elim (λ k. rw (g.other j (λ x y. absurd (omega arith))) (f.right j l k)) (λ k. g.right j k h) (cases_lt j mid);
    other = λ j n. g.other j (λ x y. n (omega arith) y) ∙ f.other j (λ x y. n x (omega arith));
  }

  pub filled_at : {t t' : T} {lo lo' hi hi' : ℕ} → lo ≡ lo' → hi ≡ hi' → Filled count entry Right lo hi t t' → Filled count entry Right lo' hi' t t'
  filled_at a b f = rw (← a, ← b) f

  -- what is right in one way is in another
  pub filled_as : {Wanted : ℕ → A → Type 0} {t t' : T} {lo hi : ℕ} → ((j : ℕ) → lo ≤ j → j < hi → (v : A) → Right j v → Wanted j v)
      → Filled count entry Right lo hi t t' → Filled count entry Wanted lo hi t t'
  filled_as {t' = t'} f g = record { same_count = g.same_count; right = λ j a b. f j a b (entry t' j) (g.right j a b); other = g.other }

  -- ---- along the nodes of an expression

  module _ {ks gs : List ℕ} {i : ℕ} where
    -- the node itself, once the entries of its parts are there
    whole : {m p : ℕ} {e : Re} {t t₁ t₂ : T} {v : A} → Holds ks gs m p i e
        → Filled count entry Right (first_node i e) i t t₁ → Put count entry i v t₁ t₂ → Right i v → Filled count entry Right (first_node i e) (suc i) t t₂
    whole {e = e} h f u r = filled_then (first_node i e) i (suc i) (omega (arith, nodes_some e)) (omega arith) f (filled_put i u r)

    pub walked_zero : {k arg : ℕ} {t t₁ : T} {v : A} → Bare ks gs i k arg → Put count entry i v t t₁ → Right i v → Walked count entry Right ks gs i t t₁
    walked_zero N u r e m p h = whole h (filled_none (first_node i e) i (omega (arith, leaf_nodes (leaf N h)))) u r

    pub walked_one : {k arg : ℕ} {t t₁ t₂ : T} {v : A} → Sole ks gs i k arg → Walked count entry Right ks gs (i - 1) t t₁ → Put count entry i v t₁ t₂ → Right i v → Walked count entry Right ks gs i t t₂
    walked_one N w u r e m p h =
        let s = single N h in
        let n = (one_sizes s.is).nodes_are in
        whole h (filled_at (omega (arith, s.above)) (omega (arith, s.above)) (w s.x _ _ s.part)) u r

    pub walked_two : {k arg : ℕ} {t t₁ t₂ t₃ : T} {v : A} → Pair ks gs i k arg
        → Walked count entry Right ks gs arg t t₁ → Walked count entry Right ks gs (i - 1) t₁ t₂ → Put count entry i v t₂ t₃ → Right i v → Walked count entry Right ks gs i t t₃
    walked_two {arg = arg} N w w' u r e m p h =
        let d = double N h in
        let n = (two_sizes d.is).nodes_are in
        let b : suc (arg + nodes d.y) ≡ i = d.before in
        whole h (filled_then (first_node i e) (suc arg) i (omega (arith, nodes_fit d.left)) (omega arith)
        (filled_at (omega (arith, nodes_fit d.left)) refl (w d.x _ _ d.left))
        (filled_at (omega arith) (omega (arith, nodes_some d.y)) (w' d.y _ _ d.right))) u r

    -- what the table says of the parts then
    pub right_one : {k arg : ℕ} {t t₁ : T} (s : Held ks gs i) → Sole ks gs i k arg → Walked count entry Right ks gs (i - 1) t t₁ → Right (i - 1) (entry t₁ (i - 1))
    right_one s N w = let v = single N s.holds in (w v.x _ _ v.part).right (i - 1) (omega (arith, nodes_some v.x)) (omega arith)

    module _ {k arg : ℕ} {t t₁ t₂ : T} (s : Held ks gs i) (N : Pair ks gs i k arg)
        (w : Walked count entry Right ks gs arg t t₁) (w' : Walked count entry Right ks gs (i - 1) t₁ t₂) where
      pub right_left : Right arg (entry t₂ arg)
      right_left =
          let v = double N s.holds in
          rw ((w' v.y _ _ v.right).other arg (λ a b. absurd (omega (arith, v.before, nodes_fit v.right))))
          ((w v.x _ _ v.left).right arg (omega (arith, nodes_some v.x)) (omega arith))

      pub right_right : Right (i - 1) (entry t₂ (i - 1))
      right_right = let v = double N s.holds in (w' v.y _ _ v.right).right (i - 1) (omega (arith, nodes_some v.y)) (omega arith)
