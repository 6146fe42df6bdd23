-- How far a walk along a text has come. Assumes nothing: these are definitions.
use Rattle.std.specs.Prelude.{◌≡◌, Bool, List, ℕ, ◌+◌, ◌*◌, ◌-◌, ◌≤◌, length, drop}
use Rattle.meaning.specs.Expression.{Re, marks}
use Rattle.positions.specs.Alive.{ended, alive}
use Rattle.positions.specs.Positions.{Out}
use Rattle.positions.specs.Runs.{run}
use Rattle.positions.specs.Tests.{Ok}
use Rattle.positions.specs.Texts.{chain, rest_run, text_run}
use Rattle.walks.specs.declared.step.Step.{Step}
use Rattle.walks.specs.Steps.{cursor, step_of}
use Rattle.along.specs.Rows.{Shows, Beyond}

-- after i bytes: the tokens so far, which stand in t, where they lead, and the rest of the chain of runs
pub record Along (e : Re) (text t : List ℕ) (s : Step) (i : ℕ) : Type 0 where
  pub row : List ℕ
  pub out : Out
  pub other : Bool
  pub shows : Shows t 0 row
  pub step : s ≡ step_of out (length row) other
  pub whole : text_run e text ≡ chain (run row out other) (rest_run e out (drop i text))
  pub ok : Ok (alive e (drop i text)) (ended (drop i text)) out
  pub few : length row ≤ 2 * marks e + i * (4 * marks e + 1)

-- no row ends before this: each byte that is left writes a token at least
abbrev pub soonest : List ℕ → Step → ℕ → ℕ
soonest text s i = cursor s + (length text - i)

-- a walk has come from s, after i bytes, to s', after i': from where the row ends at the soonest t is as it was
pub record Came (e : Re) (text t t' : List ℕ) (s s' : Step) (i i' : ℕ) : Type 0 where
  pub along : Along e text t' s' i'
  pub later : soonest text s i ≤ soonest text s' i'
  pub beyond : Beyond t t' (soonest text s' i')

-- a walk of e that has come to s comes to s'
abbrev pub Goes : Re → List ℕ → List ℕ → List ℕ → Step → Step → ℕ → ℕ → Type 0
Goes e text t t' s s' i i' = Along e text t s i → Came e text t t' s s' i i'
