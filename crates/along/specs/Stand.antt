-- Where a walk along a text stands. Assumes nothing: these are definitions.
use Rattle.std.specs.Prelude.{◌≡◌, Bool, ℕ}
use Rattle.walks.specs.declared.step.Step.{Step}
use Rattle.walks.specs.declared.step.Step.TheVariants.{Passed, Stopped}
use Rattle.walks.specs.Steps.{cursor}
use Rattle.along.specs.declared.stand.Stand.{Stand}

-- the step that came to where s stands
abbrev pub stood : Stand → Step
stood s = Stopped s.position s.at s.other

-- whether another way was open
abbrev pub other_of_step : Step → Bool
other_of_step (Passed c w) = w
other_of_step (Stopped q c w) = w

-- r is where the step s stands after i bytes
pub record Stands (s : Step) (i : ℕ) (r : Stand) : Type 0 where
  pub read : r.read ≡ i
  pub counted : r.at ≡ cursor s
  pub other : r.other ≡ other_of_step s
  pub step : (q c : ℕ) (w : Bool) → s ≡ Stopped q c w → stood r ≡ s
