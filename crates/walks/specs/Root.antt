-- The tables of a whole read pattern. Assumes nothing: these are definitions.
use Rattle.std.specs.Prelude.{◌≡◌, List, ℕ, suc, ◌<◌, ◌≤◌, length}
use Rattle.meaning.specs.Expression.{Re, size}
use Rattle.meaning.specs.ReadPattern.{nodes}
use Rattle.grammar.specs.Holds.{Holds}
use Rattle.positions.specs.Tests as tests
use Rattle.positions.specs.Sets.{follows}
use Rattle.sets.specs.declared.set.Set.{Set}
use Rattle.sets.specs.Members.{has, limit, row, rows}
use Rattle.walks.specs.Tables.{Known, number, EndAt}
use Rattle.walks.specs.Enter.{Scanned}

-- the nodes up to `root` hold an expression
pub record Root (ks gs : List ℕ) (root : ℕ) : Type 0 where
  pub e : Re
  pub holds : Holds ks gs 0 0 root e
  pub all : nodes e ≡ suc root
  pub within : root < 1024
  pub few : size e ≤ limit

-- from entry `from` on the table is as it was
pub record Rest {T A : Type 0} (count : T → ℕ) (entry : T → ℕ → A) (from : ℕ) (t t' : T) : Type 0 where
  pub same_count : count t' ≡ count t
  pub same : (j : ℕ) → from ≤ j → entry t' j ≡ entry t j

-- so are the tables past the nodes, and past the positions
pub record Spared (ks gs : List ℕ) (root : ℕ) (n n' : List ℕ) (f f' : List Set) (u u' : List ℕ) (t t' : List Set) : Type 0 where
  pub null : Rest length number (suc root) n n'
  pub first : Rest rows row (suc root) f f'
  pub upto : Rest length number (suc root) u u'
  pub follow : (e : Re) → Holds ks gs 0 0 root e → Rest rows row (size e) t t'

-- of every node what it may begin with, whether it may be passed and where its positions end; of every position what may follow it
pub record Charted (ks gs ns : List ℕ) (fs : List Set) (us : List ℕ) (ts : List Set) (root : ℕ) : Type 0 where
  pub scanned : Scanned ks gs ns fs root
  pub upto : Known number (EndAt ks gs) us root
  pub long : rows ts ≡ limit
  pub follow : (e : Re) → Holds ks gs 0 0 root e → (j : ℕ) → j < size e → (q : ℕ) → has (row ts j) q ≡ follows 0 e j q

-- and the positions that may be the last
pub record Tabled (ks gs ns : List ℕ) (fs : List Set) (us : List ℕ) (ts : List Set) (root : ℕ) (last : Set) : Type 0 where
  pub charted : Charted ks gs ns fs us ts root
  pub ends : (e : Re) → Holds ks gs 0 0 root e → (j : ℕ) → has last j ≡ tests.ends 0 e j
