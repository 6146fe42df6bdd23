-- Which positions a node may begin with and where its positions end, from the same of its parts. Assumes nothing.
use mathlib.Core.Path.{◌≡◌, refl, sym, ◌∙◌}
use mathlib.Core.Bool.{Bool, true, false, cond, ◌&&◌, ◌||◌}
use mathlib.Core.List.{List}
use Prim.Native.Nat.{ℕ, ◌+◌, ◌-◌}
use Rattle.std.proofs.Common.{rules}
use lib.Dec.{eqb}
use Rattle.meaning.specs.Expression.{Re, size}
use Rattle.positions.specs.Tests.{nullable, leads}
use Rattle.sets.specs.declared.set.Set.{Set}
use Rattle.sets.specs.Members.{has}
use Rattle.walks.specs.Tables.{yes, NullAt, FirstAt, EndAt, leaf_first, two_first, end_of, leaf_end, two_end}
use Rattle.walks.proofs.Nulls.{yes_flag}
use Rattle.walks.proofs.Parts.{Leaf, leaf_eps, leaf_pos, One, one_branch, one_star, one_plus, one_opt, Two, two_cat, two_alt, Bare, Sole, Pair, one_sizes, two_sizes, leaf, single, double}

-- ---- first positions

leads_zero : {p k a : ℕ} {e : Re} → Leaf p k a e → (q : ℕ) → leaf_first k a q ≡ leads p e (eqb q)
unfolding leaf_first leads
leads_zero leaf_eps q = refl
leads_zero (leaf_pos h) q = rw h

pub leads_one : {k : ℕ} {x e : Re} (p : ℕ) (g : ℕ → Bool) → One k x e → leads p e g ≡ leads p x g
unfolding leads
leads_one p g one_branch = refl
leads_one p g one_star = refl
leads_one p g one_plus = refl
leads_one p g one_opt = refl

cat_first : (n a b : Bool) → two_first 2 n a b ≡ (a || (n && b))
unfolding two_first
cat_first true a b = refl
cat_first false true b = refl
cat_first false false b = refl

leads_two : {k : ℕ} {x y e : Re} (p : ℕ) (g : ℕ → Bool) → Two k x y e → two_first k (nullable x) (leads p x g) (leads (p + size x) y g) ≡ leads p e g
unfolding leads two_first
leads_two p g (two_cat {x = x} {y = y}) = cat_first (nullable x) (leads p x g) (leads (p + size x) y g)
leads_two p g two_alt = refl

module _ {ks gs : List ℕ} {i k arg : ℕ} {s : Set} where
  pub first_at_zero : Bare ks gs i k arg → ((q : ℕ) → has s q ≡ leaf_first k arg q) → FirstAt ks gs i s
  first_at_zero N f = record { has_firsts = λ e m p h q. f q ∙ leads_zero (leaf N h) q }

  pub first_at_one : Sole ks gs i k arg → FirstAt ks gs (i - 1) s → FirstAt ks gs i s
  first_at_one N f = record { has_firsts = λ e m p h q. let v = single N h in f.has_firsts v.x _ _ v.part q ∙ sym (leads_one p (eqb q) v.is) }

  pub first_at_two : {n : ℕ} {u v : Set} → Pair ks gs i k arg → NullAt ks gs arg n → FirstAt ks gs arg u → FirstAt ks gs (i - 1) v
      → ((q : ℕ) → has s q ≡ two_first k (yes n) (has u q) (has v q)) → FirstAt ks gs i s
  first_at_two N O f f' w = record {
    has_firsts = λ e m p h q.
        let d = double N h in
        w q ∙ rw (O d.x _ _ d.left, yes_flag (nullable d.x), f.has_firsts d.x _ _ d.left q, f'.has_firsts d.y _ _ d.right q) (leads_two p (eqb q) d.is);
  }

-- ---- where the positions end

end_zero : {p k a : ℕ} {e : Re} → Leaf p k a e → leaf_end k a ≡ end_of p e
unfolding leaf_end end_of size
end_zero leaf_eps = refl
end_zero (leaf_pos h) = rw h

end_one : {k : ℕ} {x e : Re} (p : ℕ) → One k x e → end_of p x ≡ end_of p e
unfolding end_of
end_one p o = rw (one_sizes o).size_is

end_sum : (p a b : ℕ) → two_end (cond (eqb a 0) 0 (p + a)) (cond (eqb b 0) 0 (p + a + b)) ≡ cond (eqb (a + b) 0) 0 (p + (a + b))
unfolding two_end
end_sum p a b = search rules

end_two : {k : ℕ} {x y e : Re} (p : ℕ) → Two k x y e → two_end (end_of p x) (end_of (p + size x) y) ≡ end_of p e
unfolding end_of
end_two {x = x} {y = y} p o = rw (two_sizes o).size_is (end_sum p (size x) (size y))

module _ {ks gs : List ℕ} {i k arg v : ℕ} where
  pub end_at_zero : Bare ks gs i k arg → v ≡ leaf_end k arg → EndAt ks gs i v
  end_at_zero N z e m p h = z ∙ end_zero (leaf N h)

  pub end_at_one : Sole ks gs i k arg → EndAt ks gs (i - 1) v → EndAt ks gs i v
  end_at_one N f e m p h = let s = single N h in f s.x _ _ s.part ∙ end_one p s.is

  pub end_at_two : {a b : ℕ} → Pair ks gs i k arg → EndAt ks gs arg a → EndAt ks gs (i - 1) b → v ≡ two_end a b → EndAt ks gs i v
  end_at_two N f f' w e m p h = let d = double N h in w ∙ rw (f d.x _ _ d.left, f' d.y _ _ d.right) (end_two p d.is)
