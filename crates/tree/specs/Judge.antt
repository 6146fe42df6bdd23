-- What the parts of the search ask and what they find. Assumes nothing: these are definitions.
use Rattle.std.specs.Prelude.{◌≡◌, List, ℕ, ◌-◌, ◌≤◌, ◌<◌, length, drop, replicate}
use Rattle.meaning.specs.Expression.{Re, marks, size}
use Rattle.meaning.specs.Grammar.{Bytes}
use Rattle.meaning.specs.Limits.{text_limit, mark_limit, position_limit, cells_for}
use Rattle.meaning.specs.Promise.{cleared}
use Rattle.meaning.specs.ReadPattern.{nodes}
use Rattle.grammar.specs.Fair.{Fair}
use Rattle.grammar.specs.Open.{Open}
use Rattle.grammar.specs.Holds.{Holds}
use Rattle.positions.specs.Alive.{alive}
use Rattle.positions.specs.Tests.{reads}
use Rattle.passes.specs.Masks.{classed}
use Rattle.passes.specs.Tables.{Tables}
use Rattle.passes.specs.Ways.{Memo, Preceding}
use Rattle.sets.specs.Members.{has, held, limit, none, row, rows}
use Rattle.along.specs.Links.{ChartedBy, Stock}
use Rattle.kinds.specs.Nodes.{kinds_of, args_of}
use Rattle.kinds.specs.declared.ReadPattern.{ReadPattern}
use Rattle.tree.specs.declared.judge.Kept.{Kept}
use Rattle.tree.specs.declared.prepare.Reader.{Reader}
use Rattle.tree.specs.Outcome.{Outcome, number_of, value_of, flag_of}
use Rattle.tree.specs.Search.{Sought}

-- the read pattern holds e up to its last node; e is within the limits, has its marks, and can be read
pub record Rooted (e : Re) (pattern : ReadPattern) : Type 0 where
  pub some : 1 ≤ pattern.nodes
  pub holds : Holds (kinds_of pattern.node) (args_of pattern.node) 0 0 (pattern.nodes - 1) e
  pub within : pattern.nodes - 1 < 1024
  pub fair : Fair e
  pub can_read : Open e
  pub few_marks : marks e ≤ mark_limit
  pub few_positions : size e ≤ position_limit
  pub marks_are : pattern.marks ≡ marks e

-- and nothing beside it, and its positions have these classes
pub record Given (e : Re) (pattern : ReadPattern) : Type 0 where
  pub rooted : Rooted e pattern
  pub all : nodes e ≡ pattern.nodes
  pub positions_are : pattern.positions ≡ size e
  pub classes : (q b : ℕ) → b < 256 → reads 0 e q b ≡ classed pattern.class pattern.positions q b

-- the same read pattern with so many marks
abbrev pub with_marks : ReadPattern → ℕ → ReadPattern
with_marks P m = record { node = P.node; class = P.class; nodes = P.nodes; positions = P.positions; marks = m }

-- for some e
pub record Gives (pattern : ReadPattern) : Type 0 where
  pub e : Re
  pub given : Given e pattern

-- no position reads a byte yet, and none comes before another
pub record Blank (r : Reader) : Type 0 where
  pub masks : r.mask ≡ replicate 256 none
  pub pres : r.pre ≡ replicate limit none

-- and no table has anything in it
pub record Bare (r : Reader) : Type 0 where
  pub nulls : r.tables.nodes.null ≡ replicate 1024 0
  pub firsts : r.tables.nodes.first ≡ replicate 1024 none
  pub uptos : r.tables.nodes.upto ≡ replicate 1024 0
  pub follows : r.tables.follow ≡ replicate limit none
  pub lasts : r.last ≡ none

-- the read pattern holds e, and the tables are exact
pub record Prepared (e : Re) (pattern : ReadPattern) (r : Reader) : Type 0 where
  pub rooted : Rooted e pattern
  pub charted : ChartedBy r.tables pattern (pattern.nodes - 1)
  pub each_byte : rows r.mask ≡ 256
  pub preceding : Preceding r.tables.follow r.pre
  pub tables : Tables e r.mask r.tables.follow r.last (row r.tables.nodes.first (pattern.nodes - 1))

-- for some e
pub record Prepares (pattern : ReadPattern) (r : Reader) : Type 0 where
  pub e : Re
  pub prepared : Prepared e pattern r

-- what is kept from text to text is right
pub record Serves (pattern : ReadPattern) (r : Reader) (k : Kept) : Type 0 where
  pub memo : Memo r.mask r.pre k.memo
  pub stock : Stock pattern (pattern.nodes - 1) k.links

-- the tables are exact, and the cells hold the positions that are alive at each place of the text
pub record Judgeable (e : Re) (pattern : ReadPattern) (r : Reader) (text cells : List ℕ) : Type 0 where
  pub prepared : Prepared e pattern r
  pub bytes : Bytes text
  pub short : length text ≤ text_limit
  pub enough : length text < length cells
  pub living : (i q : ℕ) → i ≤ length text → has (row (held cells) i) q ≡ alive e (drop i text) q

-- for some e
pub record Judges (pattern : ReadPattern) (r : Reader) (text cells : List ℕ) : Type 0 where
  pub e : Re
  pub judgeable : Judgeable e pattern r text cells

abbrev pub SoughtAs : Re → List ℕ → List ℕ → List ℕ → Outcome → Type 0
SoughtAs e text t t' r = Sought e text t (number_of r) (value_of r) (flag_of r) t'

-- what is found, and the cells past those that are asked for as they were
pub record Seeks (e : Re) (text cells cells' t t' : List ℕ) (r : Outcome) : Type 0 where
  pub sought : SoughtAs e text t t' r
  pub past : drop (cells_for (length text)) cells' ≡ drop (cells_for (length text)) cells
  pub same_cells : length cells' ≡ length cells

-- what is found, and the cells that are asked for zero
pub record Finds (e : Re) (text cells cells' t t' : List ℕ) (r : Outcome) : Type 0 where
  pub sought : SoughtAs e text t t' r
  pub clear : cells' ≡ cleared text cells
