-- Links: of the rows of marks between two letters, those that a walk has written once are kept in a pool, and copied when it, or the walk along
-- another text, comes by again. For each position there are four places to keep one. Assumes nothing: these are definitions.
use Rattle.std.specs.Prelude.{◌≡◌, Bool, true, false, List, ℕ, ◌+◌, ◌*◌, ◌-◌, ◌%◌, ◌≤◌, ◌<◌, ◌^◌, length, get_or, set}
use Rattle.meaning.specs.Expression.{Re, marks, size}
use Rattle.grammar.specs.Fair.{Fair}
use Rattle.grammar.specs.Holds.{Holds}
use Rattle.kinds.specs.Nodes.{kinds_of, args_of}
use Rattle.kinds.specs.declared.ReadPattern.{ReadPattern}
use Rattle.positions.specs.Positions.{at}
use Rattle.positions.specs.Runs.{Run, row_of, out_of, other_of, resume_run}
use Rattle.sets.specs.declared.set.Set.{Set}
use Rattle.sets.specs.Members.{has, limit, row, rows, Least, Stored}
use Rattle.walks.specs.declared.step.Step.{Step}
use Rattle.walks.specs.declared.step.Step.TheVariants.{Passed, Stopped}
use Rattle.walks.specs.declared.tables.Tables.{Tables}
use Rattle.walks.specs.Resume.{Placed}
use Rattle.walks.specs.Root.{Charted}
use Rattle.walks.specs.Steps.{Wrote}
use Rattle.walks.specs.Tables.{flag}
use Rattle.along.specs.declared.links.Link.{Link}
use Rattle.along.specs.declared.links.Links.{Links}
use Rattle.along.specs.Rows.{Shows}

-- how many tokens of the pool may be used
abbrev pub pool_limit : ℕ
pool_limit = 1016

-- the run R ends where the way l leads; its tokens stand in t where l says, before c; l tells its other way
pub record Leads (R : Run) (t : List ℕ) (c : ℕ) (l : Link) : Type 0 where
  pub out : out_of R ≡ at l.position
  pub long_is : l.long ≡ length (row_of R)
  pub other : l.other ≡ flag (other_of R)
  pub past : l.from + l.long ≤ c
  pub row : Shows t l.from (row_of R)

-- the way at place s
abbrev pub link_at : List Link → ℕ → Link
link_at links s = get_or links s (record { position = 0; from = 0; long = 0; other = 0 })

-- s is one of the four places of position j
pub record PlaceOf (j s : ℕ) : Type 0 where
  pub from : 4 * j ≤ s
  pub below : s < 4 * j + 4

-- s is the one of them for the way on from j to the goal: by the goal's least member
pub record PlaceFor (j : ℕ) (goal : Set) (s : ℕ) : Type 0 where
  pub member : ℕ
  pub least : Least goal member
  pub place : s ≡ 4 * j + member % 4

-- each place of a position j of e whose goal has a member keeps the run from j to that goal; the rows stand in the first c tokens of t
pub record KeptIn (e : Re) (keys : List Set) (links : List Link) (t : List ℕ) (c : ℕ) : Type 0 where
  pub link : (j s p : ℕ) → j < size e → PlaceOf j s → has (row keys s) p ≡ true → Leads (resume_run 0 0 e j (has (row keys s)) false) t c (link_at links s)

abbrev pub Kept : Re → Links → Type 0
Kept e k = KeptIn e k.keys k.links k.pool k.used

-- what is kept is right, whatever the root holds, and stands in the tokens of the pool that are used
pub record Stock (pattern : ReadPattern) (root : ℕ) (k : Links) : Type 0 where
  pub all_keys : rows k.keys ≡ 256
  pub all_links : length k.links ≡ 256
  pub all_tokens : length k.pool ≡ 1024
  pub few : k.used ≤ pool_limit
  pub kept : (e : Re) → Fair e → marks e ≤ 127 → Holds (kinds_of pattern.node) (args_of pattern.node) 0 0 root e → Kept e k

-- the tables are those of the read pattern up to the root
abbrev pub ChartedBy : Tables → ReadPattern → ℕ → Type 0
ChartedBy tables pattern root = Charted (kinds_of pattern.node) (args_of pattern.node) tables.nodes.null tables.nodes.first tables.nodes.upto tables.follow root

-- the root holds an expression of few positions, j among them, and there is room to count what is written from `from` on
pub record Linked (pattern : ReadPattern) (root j from : ℕ) : Type 0 where
  pub placed : Placed (kinds_of pattern.node) (args_of pattern.node) root j from
  pub few_positions : placed.p + size placed.e ≤ limit
  pub room : from + pool_limit < 2 ^ 64

-- the position before which a step stopped, or 0
abbrev pub position_of : Step → ℕ
position_of (Passed c w) = 0
position_of (Stopped q c w) = q

-- the step u, whose row stands from `from` on, as one whose row stands from `new` on
abbrev pub moved : ℕ → ℕ → Step → Step
moved from new (Passed c w) = Passed (new + (c - from)) w
moved from new (Stopped q c w) = Stopped q (new + (c - from)) w

-- where the step came to from `from` on is kept at place s, if it stopped; it is moved to `new`
pub record Keeps (s : ℕ) (goal : Set) (from new : ℕ) (u r : Step) (k k' : Links) : Type 0 where
  pub step : r ≡ moved from new u
  pub same_keys : rows k'.keys ≡ rows k.keys
  pub same_links : length k'.links ≡ length k.links
  pub same_pool : k'.pool ≡ k.pool
  pub same_used : k'.used ≡ k.used
  pub passed : (c : ℕ) (w : Bool) → u ≡ Passed c w → (k'.keys ≡ k.keys) × (k'.links ≡ k.links)
  pub stopped : (q c : ℕ) (w : Bool) → u ≡ Stopped q c w
      → Stored goal s k.keys k'.keys × (k'.links ≡ set k.links s (record { position = q; from = from; long = c - from; other = flag w }))

-- the way on from position j to the goal or, if `last`, to the end is gone, whatever the root holds
pub record Went (pattern : ReadPattern) (root j : ℕ) (goal : Set) (last : Bool) (t t' : List ℕ) (from : ℕ) (r : Step) : Type 0 where
  pub wrote : (e : Re) → Holds (kinds_of pattern.node) (args_of pattern.node) 0 0 root e → j < size e → Wrote t t' from r (resume_run 0 0 e j (has goal) last)
