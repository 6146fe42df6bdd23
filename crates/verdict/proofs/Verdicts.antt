-- The search's answer, with cells that suffice, is the scheduler's verdict. Assumes nothing.
use mathlib.Core.Path.{◌≡◌}
use mathlib.Core.Bool.{cond}
use mathlib.Core.List.{List}
use Prim.Native.Nat.{ℕ}
use native.Mathlib.Omega.{arith}
use lib.Dec.{eqb}
use borrow.Author.Tests.{eq-eqb, ne_eqb}
use Rattle.meaning.specs.Expression.{Re}
use Rattle.meaning.specs.Tree.{Flag, First, another, alone}
use Rattle.meaning.specs.Promise.{Trees, none, one, more, Verdict}
use Rattle.tree.specs.Search.{Searched, Sought, no_tree, a_tree}
use Rattle.verdict.specs.Suffice.{Suffice}

-- of a number and a flag
abbrev scheduled : ℕ → ℕ → ℕ
scheduled n f = cond (eqb f 1) 11 n

flagged : {e : Re} {text row : List ℕ} {f : ℕ} → First e text row → Flag e text f → Trees e text (scheduled 0 f)
flagged t (another o) = more o
flagged t (alone x) = one t.tree x

sought_trees : {e : Re} {text room room' : List ℕ} {n v f : ℕ} → Sought e text room n v f room' → Trees e text (scheduled n f)
sought_trees (no_tree x l) = none x
sought_trees (a_tree t f) = flagged t f

pub searched_verdict : {pat text cells room cells' room' : List ℕ} {n v f : ℕ} → Suffice text cells → Searched pat text cells room n v f cells' room' → Verdict pat text (scheduled n f)
searched_verdict c (Searched.long_pattern h) = Verdict.long_pattern h
searched_verdict c (Searched.long_text h l) = Verdict.long_text h l
searched_verdict c (Searched.few_cells h l k) = absurd (omega (arith, c l))
searched_verdict c (Searched.refused g r) = Verdict.refused g.short_pattern g.short_text r
searched_verdict c (Searched.sought g a s) = Verdict.judged g.short_text a (sought_trees s)

module _ {pat text cells room cells' room' : List ℕ} {n v f : ℕ} (c : Suffice text cells) (s : Searched pat text cells room n v f cells' room') where
  pub verdict_several : f ≡ 1 → Verdict pat text 11
  verdict_several z = rw (eq-eqb f 1 z) at (searched_verdict c s)

  pub verdict_told : {r : ℕ} → (f ≡ 1 → ⊥) → r ≡ n → Verdict pat text r
  verdict_told z e = rw e (rw (ne_eqb f 1 z) at (searched_verdict c s))
