-- What a glide along ways that are kept asks and does. Assumes nothing: these are definitions.
use Rattle.std.specs.Prelude.{◌≡◌, ◌||◌, List, ◌∷◌, ℕ, ◌+◌, ◌≤◌, ◌<◌, ◌^◌, eqb, length, drop}
use Rattle.meaning.specs.Expression.{Re, marks, size}
use Rattle.meaning.specs.Limits.{text_limit, mark_limit}
use Rattle.meaning.specs.Tree.{letter}
use Rattle.grammar.specs.Fair.{Fair}
use Rattle.positions.specs.Alive.{alive}
use Rattle.positions.specs.Sets.{follows}
use Rattle.sets.specs.declared.set.Set.{Set}
use Rattle.sets.specs.Members.{has, held, limit, row, rows}
use Rattle.walks.specs.declared.step.Step.TheVariants.{Stopped}
use Rattle.along.specs.declared.links.Link.{Link}
use Rattle.along.specs.declared.links.Links.{Links}
use Rattle.along.specs.declared.stand.Stand.{Stand}
use Rattle.along.specs.Along.{Along, Goes}
use Rattle.along.specs.Links.{KeptIn, pool_limit}
use Rattle.along.specs.Rows.{Shows, Below, Beyond}
use Rattle.along.specs.Stand.{stood}

-- the tables say of e which positions are alive at each place of the text, and which may follow each
pub record Guided (e : Re) (text cells : List ℕ) (ts : List Set) : Type 0 where
  pub fair : Fair e
  pub few : marks e ≤ mark_limit
  pub few_positions : size e ≤ limit
  pub short : length text ≤ text_limit
  pub enough : length text < length cells
  pub living : (i q : ℕ) → i ≤ length text → has (row (held cells) i) q ≡ alive e (drop i text) q
  pub long : rows ts ≡ limit
  pub follow : (j : ℕ) → j < size e → (q : ℕ) → has (row ts j) q ≡ follows 0 e j q

-- a walk of some e stands before a byte
pub record Glides (text cells : List ℕ) (ts : List Set) (k : Links) (t : List ℕ) (s : Stand) : Type 0 where
  pub e : Re
  pub guided : Guided e text cells ts
  pub along : Along e text t (stood s) s.read
  pub used : ℕ
  pub few : used ≤ pool_limit
  pub kept : KeptIn e k.keys k.links k.pool used
  pub left : s.read < length text
  pub all_keys : rows k.keys ≡ 256
  pub all_links : length k.links ≡ 256
  pub all_tokens : length k.pool ≡ 1024

-- it has come further, and stands before a byte again
pub record Glided (text cells : List ℕ) (ts : List Set) (k : Links) (t t' : List ℕ) (s r : Stand) : Type 0 where
  pub on : s.read ≤ r.read
  pub left : r.read < length text
  pub goes : (e : Re) (used : ℕ) → Guided e text cells ts → KeptIn e k.keys k.links k.pool used → Goes e text t t' (stood s) (stood r) s.read r.read

-- the way l leads to a position, its row stands in the pool, and there is room to count
pub record Recalls (l : Link) (pool : List ℕ) (s : Stand) : Type 0 where
  pub inside : l.position < limit
  pub past : l.from + l.long ≤ pool_limit
  pub all_tokens : length pool ≡ 1024
  pub room : s.at + l.long + 9 < 2 ^ 64
  pub next : s.read + 1 < 2 ^ 64

-- from where s stands the byte b is read and the way l is gone; the next `spare` tokens may be spoilt
pub record Recalled (l : Link) (pool : List ℕ) (b : ℕ) (t t' : List ℕ) (spare : ℕ) (s r : Stand) : Type 0 where
  pub read : r.read ≡ s.read + 1
  pub step : stood r ≡ Stopped l.position (s.at + 1 + l.long) (s.other || eqb l.other 1)
  pub below : Below t t' s.at
  pub row : (ρ : List ℕ) → length ρ ≡ l.long → Shows pool l.from ρ → Shows t' s.at (letter b ∷ ρ)
  pub beyond : Beyond t t' (s.at + 1 + l.long + spare)
