-- A property of each element of a row.
use Rattle.std.specs.Prelude.{Bool, true, false, ◌&&◌, List, [], ◌∷◌, ◌++◌, T}

pub data Each {A : Type 0} (P : A → Type 0) : List A → Type 0 where
  each_none : Each P []
  each_more : {x : A} {l : List A} → P x → Each P l → Each P (x ∷ l)

module _ {A : Type 0} where
  pub each_map : {P Q : A → Type 0} {l : List A} → ((x : A) → P x → Q x) → Each P l → Each Q l
  each_map f each_none = each_none
  each_map f (each_more {x = x} p r) = each_more (f x p) (each_map f r)

  pub each_append : {P : A → Type 0} {l m : List A} → Each P l → Each P m → Each P (l ++ m)
  each_append each_none m = m
  each_append (each_more p l) m = each_more p (each_append l m)

  -- a test that is computed, passed by each element
  abbrev pub every : (A → Bool) → List A → Bool
  every f [] = true
  every f (x ∷ l) = f x && every f l

pub both : (a b : Bool) → T (a && b) → T a × T b
both true b t = (tt, t)
both false b t = absurd t

module _ {A : Type 0} where
  pub each_passes : (f : A → Bool) (l : List A) → T (every f l) → Each (λ x. T (f x)) l
  each_passes f [] t = each_none
  each_passes f (x ∷ l) t = let h = both (f x) (every f l) t in each_more h.0 (each_passes f l h.1)
