-- The theorem: when a text has a tree, which is its first, and whether there is another.
use Rattle.std.specs.Prelude.{◌≡◌, refl, Bool, true, false, cond, List, ℕ, ◌≤◌}
use Rattle.std.proofs.Common.{sym, ◌∙◌, true≢false}
use Rattle.meaning.specs.Expression.{Re, marks}
use Rattle.meaning.specs.Tree.{First, Flag, another, alone, NoTree}
use Rattle.grammar.specs.Fair.{Fair}
use Rattle.positions.specs.Alive.{ended, alive, alive_full}
use Rattle.positions.specs.Complete.{complete}
use Rattle.positions.specs.Positions.{link, Walk}
use Rattle.positions.specs.Tests.{feasible, feasible_full}
use Rattle.positions.specs.Texts.{row_in, other_in, text_run, text_first, text_other}

-- the walk can begin: the empty text is passed, or an alive position comes first
abbrev pub found : Re → List ℕ → Bool
found e s = feasible 0 e (alive e s) (ended s)

abbrev pub first_row : Re → List ℕ → List ℕ
first_row e s = row_in (text_run e s)

abbrev pub other_tree : Re → List ℕ → Bool
other_tree e s = other_in (text_run e s)

walk_found : {e : Re} {s r : List ℕ} → Walk 0 0 e s r → found e s ≡ true
walk_found (link w t) = feasible_full w (alive_full t)

pub no_tree : (e : Re) (s : List ℕ) → found e s ≡ false → NoTree e s
no_tree e s n r t = true≢false (sym (walk_found (complete 0 t)) ∙ n)

module _ (e : Re) (f : Fair e) (h : marks e ≤ 127) (s : List ℕ) (i : found e s ≡ true) where
  pub first_tree : First e s (first_row e s)
  first_tree = text_first e f h s i

  pub first_flag : Flag e s (cond (other_tree e s) 1 0)
  first_flag = go (other_tree e s) refl
    where
      go : (v : Bool) → other_tree e s ≡ v → Flag e s (cond v 1 0)
      go true k = another ((text_other e f h s i).0 k)
      go false k = alone (λ o. true≢false (sym ((text_other e f h s i).1 o) ∙ k))
