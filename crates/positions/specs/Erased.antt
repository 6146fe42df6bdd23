-- The marks of a tree erased leave its text.
use Rattle.std.specs.Prelude.{◌≡◌, Bool, true, false, cond, ℕ, suc, ◌+◌, ◌-◌, ◌≤◌, ◌<◌, ltb}
use Rattle.std.proofs.Math.Path.{refl}
use Rattle.std.proofs.Common.{◌∙◌, ap, arith, lt-ltb, le-ltb}
use mathlib.Core.List.{List, [], ◌∷◌, ◌++◌, append-nil}
use Rattle.meaning.specs.Expression.{Re, marks}
use Rattle.meaning.specs.Tree.{closing, letter, turn, Tree, t_eps, t_pos, t_cat, t_left, t_right, t_branch, t_none, t_turn, t_once, t_more, t_skip, t_take, erase}

pub erase_mark : (t : ℕ) (r : List ℕ) → t < 256 → erase (t ∷ r) ≡ erase r
unfolding erase
erase_mark t r h = rw (lt-ltb t 256 h)

pub erase_byte : (b : ℕ) (r : List ℕ) → erase (letter b ∷ r) ≡ b ∷ erase r
unfolding erase
erase_byte b r = let h : 256 ≤ letter b = omega arith in let k : letter b - 256 ≡ b = omega arith in rw (le-ltb (letter b) 256 h, k)

pub erase_append : (a b : List ℕ) → erase (a ++ b) ≡ erase a ++ erase b
unfolding erase
erase_append [] b = refl
erase_append (t ∷ a) b = go (erase_append a b) (ltb t 256)
  where
    go : erase (a ++ b) ≡ erase a ++ erase b → (c : Bool) → cond c (erase (a ++ b)) ((t - 256) ∷ erase (a ++ b)) ≡ cond c (erase a) ((t - 256) ∷ erase a) ++ erase b
    go h true = h
    go h false = ap (λ (l : List ℕ). (t - 256) ∷ l) h

pub erase_turn : (m : ℕ) (r : List ℕ) → m < 127 → erase (turn m r) ≡ erase r
erase_turn m r h =
    let h₁ : suc m < 256 = omega arith in
    let h₂ : closing m < 256 = omega arith in
    rw (erase_mark, erase_append r (closing m ∷ []), erase_mark (closing m) []) (unfold erase in append-nil (erase r))

pub erase_turns : (m : ℕ) (r r' : List ℕ) {s s' : List ℕ} → m < 127 → erase r ≡ s → erase r' ≡ s' → erase (turn m r ++ r') ≡ s ++ s'
erase_turns m r r' h e e' = rw (erase_append (turn m r) r', erase_turn m r h, e, e')

pub erases : {m : ℕ} {e : Re} {s r : List ℕ} → m + marks e ≤ 127 → Tree m e s r → erase r ≡ s
unfolding marks
erases h t_eps = unfold erase in refl
erases h (t_pos _) = rw erase_byte (unfold erase in refl)
erases h (t_cat t u) = let h₁ = erases (omega arith) t in let h₂ = erases (omega arith) u in rw (erase_append, h₁, h₂)
erases h (t_left t) = erases (omega arith) t
erases h (t_right t) = erases (omega arith) t
erases h (t_branch t) = erase_turn _ _ (omega arith) ∙ erases (omega arith) t
erases h t_none = unfold erase in refl
erases {m} h (t_turn {r₁ = r} {r₂ = r'} n t u) = erase_turns m r r' (omega arith) (erases (omega arith) t) (erases (omega arith) u)
erases h (t_once t) = erase_turn _ _ (omega arith) ∙ erases (omega arith) t
erases {m} h (t_more {r₁ = r} {r₂ = r'} n t n' u) = erase_turns m r r' (omega arith) (erases (omega arith) t) (erases (omega arith) u)
erases h t_skip = unfold erase in refl
erases h (t_take n t) = erase_turn _ _ (omega arith) ∙ erases (omega arith) t
