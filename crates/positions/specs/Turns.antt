-- The turns of a mark in a tree: they never nest in themselves, so its openings, its closings and its turns pair off in order, and the turn
-- count is the number of turns that read text.
use Rattle.std.specs.Prelude.{◌≡◌, refl, Bool, true, false, cond, List, [], ◌∷◌, ◌++◌, ℕ, suc, ◌+◌, ◌≤◌, ◌<◌, eqb, length}
use Rattle.std.proofs.Common.{append-nil, arith, eqb-true}
use Rattle.std.proofs.lemmas.Bool.{eqb-false}
use Rattle.meaning.specs.Expression.{Re, marks}
use Rattle.meaning.specs.Grammar.{Bytes}
use Rattle.meaning.specs.Tree.{closing, letter, turn, Tree, t_eps, t_pos, t_cat, t_left, t_right, t_branch, t_none, t_turn, t_once, t_more, t_skip, t_take, erase}
use Rattle.meaning.specs.Turns.{turn_count}
use Rattle.positions.specs.Erased.{erases}
use Rattle.positions.specs.Paired.{Clear, clear_end, clear_more, clear_append, clear_paired, Paired, p_end, p_other, p_turn, paired_append, paired_one}
use Rattle.positions.specs.Paired.{count, paired_openings, paired_closings, with_text}
use Rattle.positions.specs.Figures.{paired_count}

-- the text of one turn, if it is a turn of h
abbrev pub own_text : ℕ → ℕ → List ℕ → List (List ℕ)
own_text h m s = cond (eqb (suc m) h) (s ∷ []) []

-- what the turns and the chosen branches of the mark h read, in their order
unfoldable pub texts : ℕ → {m : ℕ} {e : Re} {s r : List ℕ} → Tree m e s r → List (List ℕ)
texts h t_eps = []
texts h (t_pos _) = []
texts h (t_cat t u) = texts h t ++ texts h u
texts h (t_left t) = texts h t
texts h (t_right t) = texts h t
texts h (t_branch {m = m} {s = s} t) = own_text h m s ++ texts h t
texts h t_none = []
texts h (t_turn {m = m} {s₁ = s} n t u) = (own_text h m s ++ texts h t) ++ texts h u
texts h (t_once {m = m} {s = s} t) = own_text h m s ++ texts h t
texts h (t_more {m = m} {s₁ = s} n t n' u) = (own_text h m s ++ texts h t) ++ texts h u
texts h t_skip = []
texts h (t_take {m = m} {s = s} n t) = own_text h m s ++ texts h t

-- h is none of the k marks that m marks stand before
pub data Outside (h m k : ℕ) : Type 0 where
  before : h ≤ m → Outside h m k
  behind : m + k < h → Outside h m k

outside_part : {h m k m' k' : ℕ} → m ≤ m' → m' + k' ≤ m + k → Outside h m k → Outside h m' k'
outside_part i j (before o) = before (omega arith)
outside_part i j (behind o) = behind (omega arith)

not_first : {h m k : ℕ} → Outside h m (suc k) → suc m ≡ h → ⊥
not_first (before o) e = omega arith
not_first (behind o) e = omega arith

letter_clear : (h b : ℕ) → h ≤ 127 → Clear h (letter b ∷ [])
letter_clear h b i = clear_more (λ (e : letter b ≡ h). omega arith) (λ (e : letter b ≡ 128 + h). omega arith) clear_end

closing_clear : (h m : ℕ) → h ≤ 127 → (suc m ≡ h → ⊥) → Clear h (closing m ∷ [])
closing_clear h m i n = clear_more (λ (e : closing m ≡ h). omega arith) (λ (e : closing m ≡ 128 + h). n (omega arith)) clear_end

turn_clear : {h m k : ℕ} {r : List ℕ} → h ≤ 127 → m + suc k ≤ 127 → Outside h m (suc k) → (Outside h (suc m) k → Clear h r) → Clear h (turn m r)
turn_clear {h} {m} i j o f =
    let inner = f (outside_part (omega arith) (omega arith) o) in
    clear_more (not_first o) (λ (e : suc m ≡ 128 + h). omega arith) (clear_append inner (closing_clear h m i (not_first o)))

-- a mark that stands outside e is neither opened nor closed in a tree of e
pub tree_clear : {h m : ℕ} {e : Re} {s r : List ℕ} → h ≤ 127 → m + marks e ≤ 127 → Outside h m (marks e) → Tree m e s r → Clear h r
unfolding marks
tree_clear i j o t_eps = clear_end
tree_clear i j o (t_pos _) = letter_clear _ _ i
tree_clear i j o (t_cat t u) =
    let left = tree_clear i (omega arith) (outside_part (omega arith) (omega arith) o) t in
    let right = tree_clear i (omega arith) (outside_part (omega arith) (omega arith) o) u in
    clear_append left right
tree_clear i j o (t_left t) = tree_clear i (omega arith) (outside_part (omega arith) (omega arith) o) t
tree_clear i j o (t_right t) = tree_clear i (omega arith) (outside_part (omega arith) (omega arith) o) t
tree_clear i j o (t_branch t) = turn_clear i j o (λ o'. tree_clear i (omega arith) o' t)
tree_clear i j o t_none = clear_end
tree_clear i j o (t_turn n t u) = clear_append (turn_clear i j o (λ o'. tree_clear i (omega arith) o' t)) (tree_clear i j o u)
tree_clear i j o (t_once t) = turn_clear i j o (λ o'. tree_clear i (omega arith) o' t)
tree_clear i j o (t_more n t n' u) = clear_append (turn_clear i j o (λ o'. tree_clear i (omega arith) o' t)) (tree_clear i j o u)
tree_clear i j o t_skip = clear_end
tree_clear i j o (t_take n t) = turn_clear i j o (λ o'. tree_clear i (omega arith) o' t)

-- a turn around a row that pairs off. A turn of h holds neither opening nor closing of h: it does not nest in itself
turn_of : {h m : ℕ} {r : List ℕ} → suc m ≡ h → Clear h r → Paired h (turn m r) (erase r ∷ [])
turn_of e c = rw e (p_turn c p_end)

turn_beside : {h m : ℕ} {r : List ℕ} {l : List (List ℕ)} → h ≤ 127 → m < 127 → (suc m ≡ h → ⊥) → Paired h r l → Paired h (turn m r) l
turn_beside {h} {m} {l = l} i j n p =
    let inner = paired_append p (clear_paired (closing_clear h m i n)) in
    p_other n (λ (e : suc m ≡ 128 + h). omega arith) (rw (append-nil l) at inner)

turn_paired : {h m : ℕ} {x : Re} {s r : List ℕ} → h ≤ 127 → m + suc (marks x) ≤ 127 → (t : Tree (suc m) x s r) → Paired h r (texts h t)
    → Paired h (turn m r) (own_text h m s ++ texts h t)
turn_paired {h} {m} {s = s} {r = r} i j t p = go (eqb (suc m) h) refl
  where
    go : (c : Bool) → eqb (suc m) h ≡ c → Paired h (turn m r) (cond c (s ∷ []) [] ++ texts h t)
    go true e =
        let same = eqb-true (suc m) h e in
        let clear = tree_clear i (omega arith) (before (omega arith)) t in
        rw (paired_one p (clear_paired clear), ← (erases (omega arith) t)) (turn_of same clear)
    go false e = turn_beside i (omega arith) (eqb-false (suc m) h e) p

-- IN A TREE THE TURNS OF A MARK PAIR OFF
pub tree_paired : {h m : ℕ} {e : Re} {s r : List ℕ} → h ≤ 127 → m + marks e ≤ 127 → (t : Tree m e s r) → Paired h r (texts h t)
unfolding marks texts
tree_paired i j t_eps = p_end
tree_paired i j (t_pos _) = clear_paired (letter_clear _ _ i)
tree_paired i j (t_cat t u) = paired_append (tree_paired i (omega arith) t) (tree_paired i (omega arith) u)
tree_paired i j (t_left t) = tree_paired i (omega arith) t
tree_paired i j (t_right t) = tree_paired i (omega arith) t
tree_paired i j (t_branch t) = turn_paired i j t (tree_paired i (omega arith) t)
tree_paired i j t_none = p_end
tree_paired i j (t_turn n t u) = paired_append (turn_paired i j t (tree_paired i (omega arith) t)) (tree_paired i j u)
tree_paired i j (t_once t) = turn_paired i j t (tree_paired i (omega arith) t)
tree_paired i j (t_more n t n' u) = paired_append (turn_paired i j t (tree_paired i (omega arith) t)) (tree_paired i j u)
tree_paired i j t_skip = p_end
tree_paired i j (t_take n t) = turn_paired i j t (tree_paired i (omega arith) t)

-- there are as many openings, and as many closings, as turns
pub tree_openings : {h m : ℕ} {e : Re} {s r : List ℕ} → h ≤ 127 → m + marks e ≤ 127 → (t : Tree m e s r) → count h r ≡ length (texts h t)
tree_openings i j t = paired_openings (tree_paired i j t)

pub tree_closings : {h m : ℕ} {e : Re} {s r : List ℕ} → h ≤ 127 → m + marks e ≤ 127 → (t : Tree m e s r) → count (128 + h) r ≡ length (texts h t)
tree_closings i j t = paired_closings (tree_paired i j t)

-- THE TURN COUNT OF A TREE: how many turns read text
pub tree_count : {h m : ℕ} {e : Re} {s r : List ℕ} → h ≤ 127 → m + marks e ≤ 127 → Bytes s → (t : Tree m e s r) → turn_count h r ≡ with_text (texts h t)
tree_count i j b t = paired_count i (tree_paired i j t) (rw (erases j t) b)
