-- What a walk along a text asks and what it does. Assumes nothing: these are definitions.
use Rattle.std.specs.Prelude.{◌≡◌, true, List, ℕ, ◌+◌, ◌≤◌, ◌<◌, length, drop}
use Rattle.std.proofs.lemmas.List.Edits.{sets}
use Rattle.meaning.specs.Expression.{Re, marks, size}
use Rattle.meaning.specs.Limits.{text_limit, mark_limit}
use Rattle.grammar.specs.Fair.{Fair}
use Rattle.grammar.specs.Holds.{Holds}
use Rattle.kinds.specs.Nodes.{kinds_of, args_of}
use Rattle.kinds.specs.declared.ReadPattern.{ReadPattern}
use Rattle.positions.specs.Alive.{alive}
use Rattle.positions.specs.Theorem.{found, first_row, other_tree}
use Rattle.sets.specs.Members.{has, held, limit, row}
use Rattle.walks.specs.declared.step.Step.{Step}
use Rattle.along.specs.declared.stand.Stand.{Stand}
use Rattle.along.specs.declared.walk.Tree.{Tree}
use Rattle.along.specs.Along.{Goes}
use Rattle.along.specs.Stand.{stood}
use Rattle.along.specs.Links.{Linked}

-- the root holds e, and the cells hold the positions that are alive at each place of the text, which has a tree
pub record Walkable (e : Re) (pattern : ReadPattern) (root : ℕ) (text cells : List ℕ) : Type 0 where
  pub holds : Holds (kinds_of pattern.node) (args_of pattern.node) 0 0 root e
  pub within : root < 1024
  pub fair : Fair e
  pub few : marks e ≤ mark_limit
  pub few_positions : size e ≤ limit
  pub short : length text ≤ text_limit
  pub enough : length text < length cells
  pub living : (i q : ℕ) → i ≤ length text → has (row (held cells) i) q ≡ alive e (drop i text) q
  pub a_tree : found e text ≡ true

-- for some e
pub record Walks (pattern : ReadPattern) (root : ℕ) (text cells : List ℕ) : Type 0 where
  pub e : Re
  pub walkable : Walkable e pattern root text cells

-- a byte is left, and there is room to go on
pub record Advances (pattern : ReadPattern) (root : ℕ) (text cells : List ℕ) (s : Stand) : Type 0 where
  pub linked : Linked pattern root s.position (s.at + 1)
  pub left : s.read < length text
  pub enough : length text < length cells

-- one byte more from where s stands
pub record Advanced (pattern : ReadPattern) (root : ℕ) (text cells t t' : List ℕ) (s : Stand) (r : Step) : Type 0 where
  pub goes : (e : Re) → Walkable e pattern root text cells → Goes e text t t' (stood s) r s.read (s.read + 1)

-- the length of the first tree's row, and whether there is another tree
pub record Measures (e : Re) (text : List ℕ) (r : Tree) : Type 0 where
  pub long : r.length ≡ length (first_row e text)
  pub other : r.other ≡ other_tree e text

-- the same, and the row is written as far as it fits
pub record Writes (e : Re) (text t t' : List ℕ) (r : Tree) : Type 0 where
  pub row : t' ≡ sets t 0 (first_row e text)
  pub measures : Measures e text r
