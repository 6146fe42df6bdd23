-- Which refusal of a night applies first, or none: n is the length of the row, k how many records the table has, M how many marks the pattern. Assumes nothing:
-- these are definitions.
use Rattle.std.specs.Prelude.{◌≡◌, List, ◌⊎◌, ℕ, ◌≤◌, ◌<◌, ⊤, Result, Ok, Err, length}
use Rattle.meaning.specs.Limits.{report_limit, last_limit}
use Rattle.meaning.specs.Night.{sum, greatest}
use Rattle.sheet.specs.declared.figures.Refusal.{Refusal}
use Rattle.sheet.specs.declared.figures.Refusal.TheVariants.{WrongLengths, WrongMarks, MuchLast}

pub data Objects (lengths : List ℕ) (n : ℕ) (last : List ℕ) (k M : ℕ) : Result ⊤ Refusal → Type 0 where
  to_lengths : (report_limit < length lengths) ⊎ (sum lengths ≡ n → ⊥) → Objects lengths n last k M (Err WrongLengths)
  to_marks : length lengths ≤ report_limit → sum lengths ≡ n → (k ≡ M → ⊥) ⊎ (length last ≡ M → ⊥) → Objects lengths n last k M (Err WrongMarks)
  to_last : length lengths ≤ report_limit → sum lengths ≡ n → k ≡ M → length last ≡ M → last_limit < greatest last → Objects lengths n last k M (Err MuchLast)
  to_nothing : {done : ⊤} → length lengths ≤ report_limit → sum lengths ≡ n → k ≡ M → length last ≡ M → greatest last ≤ last_limit → Objects lengths n last k M (Ok done)
