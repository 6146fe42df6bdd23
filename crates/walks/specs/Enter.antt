-- What the walk into a part asks and what it does. Assumes nothing: these are definitions.
use Rattle.std.specs.Prelude.{◌≡◌, Bool, false, cond, ◌&&◌, ◌||◌, List, ℕ, ◌+◌, ◌*◌, ◌<◌, ◌^◌}
use Rattle.meaning.specs.Expression.{Re, marks}
use Rattle.grammar.specs.Holds.{Holds}
use Rattle.positions.specs.Tests.{leads}
use Rattle.positions.specs.Runs.{Run, also, put, through, enter_run}
use Rattle.sets.specs.declared.set.Set.{Set}
use Rattle.sets.specs.Members.{has, row, rows}
use Rattle.walks.specs.declared.step.Step.{Step}
use Rattle.walks.specs.Tables.{Known, number, NullAt, FirstAt}
use Rattle.walks.specs.Steps.{Wrote, After}

-- l: the node leads to the goal; n: it may be passed
unfoldable pub open_to : Bool → Bool → Bool → Bool
open_to l n pass = l || (n && pass)

-- node i holds an expression whose marks fit a token, and there is room to count what is written of it from `from` on
pub record Ready (ks gs : List ℕ) (i from : ℕ) : Type 0 where
  pub e : Re
  pub m : ℕ
  pub p : ℕ
  pub holds : Holds ks gs m p i e
  pub within : i < 1024
  pub few : m + marks e < 128
  pub room : from + 2 * marks e < 2 ^ 64

-- both tables are right at the nodes up to i
pub record Scanned (ks gs ns : List ℕ) (fs : List Set) (i : ℕ) : Type 0 where
  pub null : Known number (NullAt ks gs) ns i
  pub first : Known row (FirstAt ks gs) fs i
  pub long : rows fs ≡ 1024

-- the walk into node i, from `from` on, is the run of what it holds, whatever that is
pub record EntersAt (ks gs : List ℕ) (i : ℕ) (goal : Set) (pass : Bool) (t t' : List ℕ) (from : ℕ) (r : Step) : Type 0 where
  pub wrote : (e : Re) (m p : ℕ) → Holds ks gs m p i e → Wrote t t' from r (enter_run m p e (has goal) pass)

-- the same after the step s
pub record OnAt (ks gs : List ℕ) (i : ℕ) (goal : Set) (pass : Bool) (t t' : List ℕ) (s r : Step) : Type 0 where
  pub wrote : (e : Re) (m p : ℕ) → Holds ks gs m p i e → After s t t' r (enter_run m p e (has goal) pass)

-- a turn under the mark if l, and if b there is the way without it too
abbrev pub turning : ℕ → Bool → Bool → Run → Run
turning mark l b R = cond l (also b (put mark R)) through

-- one more turn over node i, if it leads to the goal
pub record TurnsAt (ks gs : List ℕ) (i mark : ℕ) (goal : Set) (pass : Bool) (t t' : List ℕ) (from : ℕ) (r : Step) : Type 0 where
  pub wrote : (e : Re) (m p : ℕ) → Holds ks gs m p i e → Wrote t t' from r (turning mark (leads p e (has goal)) pass (enter_run m p e (has goal) false))
