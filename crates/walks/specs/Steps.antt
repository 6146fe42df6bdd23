-- What a walk between two letters writes, and how it ends: as a run says. Assumes nothing: these are definitions.
use Rattle.std.specs.Prelude.{◌≡◌, Bool, ◌||◌, List, [], ℕ, ◌+◌, length}
use Rattle.std.proofs.lemmas.List.Edits.{sets}
use Rattle.positions.specs.Positions.{Out, pass, at}
use Rattle.positions.specs.Runs.{Run, run, row_of, out_of, other_of, and_then}
use Rattle.walks.specs.declared.step.Step.{Step}
use Rattle.walks.specs.declared.step.Step.TheVariants.{Passed, Stopped}

-- how many tokens are counted
abbrev pub cursor : Step → ℕ
cursor (Passed c w) = c
cursor (Stopped q c w) = c

-- with another way if more
abbrev pub noted : Bool → Step → Step
noted more (Passed c w) = Passed c (w || more)
noted more (Stopped q c w) = Stopped q c (w || more)

abbrev pub step_of : Out → ℕ → Bool → Step
step_of pass c w = Passed c w
step_of (at q) c w = Stopped q c w

-- the row of the run is written from `from` on, as far as it fits, so that t becomes t'; the answer is r
pub record Wrote (t t' : List ℕ) (from : ℕ) (r : Step) (R : Run) : Type 0 where
  pub row : t' ≡ sets t from (row_of R)
  pub step : r ≡ step_of (out_of R) (from + length (row_of R)) (other_of R)

-- the same after a step, which was the last where it stopped
abbrev pub After : Step → List ℕ → List ℕ → Step → Run → Type 0
After (Passed c w) t t' r R = Wrote t t' c r (and_then (run [] pass w) R)
After (Stopped q c w) t t' r R = (t' ≡ t) × (r ≡ Stopped q c w)
