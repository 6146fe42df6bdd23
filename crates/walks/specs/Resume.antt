-- What the walk on from a position asks and what it does. Assumes nothing: these are definitions.
use Rattle.std.specs.Prelude.{◌≡◌, Bool, true, false, List, ℕ, suc, ◌+◌, ◌-◌, ◌*◌, ◌≤◌, ◌<◌, ◌^◌, get_or}
use Rattle.meaning.specs.Expression.{Re, marks}
use Rattle.meaning.specs.Tree.{closing}
use Rattle.grammar.specs.Holds.{Holds}
use Rattle.positions.specs.Places.{In}
use Rattle.positions.specs.Tests.{leads}
use Rattle.positions.specs.Runs.{put, enter_run, resume_run, loop}
use Rattle.sets.specs.declared.set.Set.{Set}
use Rattle.sets.specs.Members.{has}
use Rattle.walks.specs.declared.step.Step.{Step}
use Rattle.walks.specs.Steps.{Wrote, After}

-- node i holds an expression with the position j, whose marks fit a token, and there is room to count what is written of it from `from` on
pub record Placed (ks gs : List ℕ) (i j from : ℕ) : Type 0 where
  pub e : Re
  pub m : ℕ
  pub p : ℕ
  pub holds : Holds ks gs m p i e
  pub within : i < 1024
  pub inside : In p e j
  pub few : m + marks e < 128
  pub room : from + 8 * marks e < 2 ^ 64

-- node n has two parts, and position j is in the right one: us has where the positions of each node end
pub record Rightward (ks gs us : List ℕ) (n j : ℕ) : Type 0 where
  pub two : 2 ≤ get_or ks n 0
  pub pair : get_or ks n 0 ≤ 3
  pub past : get_or us (get_or gs n 0) 0 ≤ j

abbrev pub WhetherRight : List ℕ → List ℕ → List ℕ → ℕ → ℕ → Bool → Type 0
WhetherRight ks gs us n j true = Rightward ks gs us n j
WhetherRight ks gs us n j false = Rightward ks gs us n j → ⊥

-- from node i on to right parts, each of which has the position j
pub data Spine (ks gs us : List ℕ) (i j : ℕ) : ℕ → Type 0 where
  from_here : Spine ks gs us i j i
  further : {n : ℕ} → Spine ks gs us i j n → Rightward ks gs us n j → Spine ks gs us i j (n - 1)

-- and no further than node n
pub record Holder (ks gs us : List ℕ) (i j n : ℕ) : Type 0 where
  pub spine : Spine ks gs us i j n
  pub last : Rightward ks gs us n j → ⊥

-- the walk on from position j of node i, from `from` on, is the run of what it holds, whatever that is
pub record ResumesAt (ks gs : List ℕ) (i j : ℕ) (goal : Set) (pass : Bool) (t t' : List ℕ) (from : ℕ) (r : Step) : Type 0 where
  pub wrote : (e : Re) (m p : ℕ) → Holds ks gs m p i e → In p e j → Wrote t t' from r (resume_run m p e j (has goal) pass)

-- after the step s out of node i the turn is closed, and one more made, if it leads to the goal
pub record AgainAt (ks gs : List ℕ) (i mark : ℕ) (goal : Set) (pass : Bool) (t t' : List ℕ) (s r : Step) : Type 0 where
  pub wrote : (e : Re) (m p : ℕ) → Holds ks gs (suc m) p i e → mark ≡ suc m → After s t t' r (put (closing m) (loop m (leads p e (has goal)) pass (enter_run (suc m) p e (has goal) false)))
