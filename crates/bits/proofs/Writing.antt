-- What a row that is written over another leaves there.
use mathlib.Core.Path.{◌≡◌, refl, ap, ◌∙◌}
use mathlib.Core.List.{List, [], ◌∷◌, ◌++◌}
use Prim.Native.Nat.{ℕ, zero, suc, ◌+◌, ◌≤◌, ◌<◌}
use native.Mathlib.Omega.{arith}
use native.Mathlib.Nat.{zero-add, add-zero}
use lib.ListN.{length, take, drop, get_or, set, length-set}
use lib.Seq.{sets, sets-eq, get_or-set_same, get_or-set_other}

-- two rows, one behind the other
pub sets_then : (t : List ℕ) (a : ℕ) (r s : List ℕ) → sets (sets t a r) (a + length r) s ≡ sets t a (r ++ s)
sets_then t a [] s = ap (λ (k : ℕ). sets t k s) (add-zero a)
sets_then t a (v ∷ r) s =
    let e : a + suc (length r) ≡ suc a + length r = omega arith in
    ap (λ (k : ℕ). sets (sets (set t a v) (suc a) r) k s) e ∙ sets_then (set t a v) (suc a) r s

-- from the front on, where there is room
pub sets_front : (t r : List ℕ) → length r ≤ length t → sets t 0 r ≡ r ++ drop (length r) t
sets_front t r h = sets-eq r t 0 (omega arith) ∙ ap (λ (k : ℕ). r ++ drop k t) (zero-add (length r))

-- from the front on, as far as there is room
sets_nowhere : (a : ℕ) (r : List ℕ) → sets [] a r ≡ []
sets_nowhere a [] = refl
sets_nowhere a (v ∷ r) = sets_nowhere (suc a) r

sets_behind_one : (x : ℕ) (t : List ℕ) (a : ℕ) (r : List ℕ) → sets (x ∷ t) (suc a) r ≡ x ∷ sets t a r
sets_behind_one x t a [] = refl
sets_behind_one x t a (v ∷ r) = sets_behind_one x (set t a v) (suc a) r

pub sets_in_front : (t r : List ℕ) → sets t 0 r ≡ take (length t) r ++ drop (length r) t
sets_in_front [] [] = refl
sets_in_front (x ∷ t) [] = refl
sets_in_front [] (v ∷ r) = sets_nowhere 1 r
sets_in_front (x ∷ t) (v ∷ r) = sets_behind_one v t 0 r ∙ ap (λ (l : List ℕ). v ∷ l) (sets_in_front t r)

-- before the row, in it as far as it fits, and behind it
pub sets_before : (t : List ℕ) (a : ℕ) (r : List ℕ) (i : ℕ) → i < a → get_or (sets t a r) i 0 ≡ get_or t i 0
sets_before t a [] i h = refl
sets_before t a (v ∷ r) i h = sets_before (set t a v) (suc a) r i (omega arith) ∙ get_or-set_other t a i v 0 (λ e. omega arith)

pub sets_inside : (t : List ℕ) (a : ℕ) (r : List ℕ) (i : ℕ) → i < length r → a + i < length t → get_or (sets t a r) (a + i) 0 ≡ get_or r i 0
sets_inside t a [] i h l = absurd (omega arith)
sets_inside t a (v ∷ r) zero h l = rw (add-zero a) (sets_before (set t a v) (suc a) r a (omega arith) ∙ get_or-set_same t a v 0 (omega arith))
sets_inside t a (v ∷ r) (suc i) h l =
    let e : a + suc i ≡ suc a + i = omega arith in
    rw e (sets_inside (set t a v) (suc a) r i (omega arith) (omega (arith, length-set t a v)))

pub sets_behind : (t : List ℕ) (a : ℕ) (r : List ℕ) (i : ℕ) → a + length r ≤ i → get_or (sets t a r) i 0 ≡ get_or t i 0
sets_behind t a [] i h = refl
sets_behind t a (v ∷ r) i h = sets_behind (set t a v) (suc a) r i (omega arith) ∙ get_or-set_other t a i v 0 (λ e. omega arith)
