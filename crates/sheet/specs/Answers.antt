-- The number and the value that an answer of the sheet stands for. Assumes nothing: these are definitions.
use Rattle.std.specs.Prelude.{ℕ, Result, Ok, Err}
use Rattle.pattern.specs.Answers as pattern
use Rattle.sheet.specs.declared.figures.Refusal.{Refusal}
use Rattle.sheet.specs.declared.figures.Refusal.TheVariants.{Pattern, LittleLent, WrongLengths, WrongMarks, MuchLast}

-- of a refusal; what a refused pattern stands for, the pattern reader says
abbrev pub refusal_number : Refusal → ℕ
refusal_number (Pattern why) = pattern.refusal_number why
refusal_number LittleLent = 3
refusal_number WrongLengths = 12
refusal_number WrongMarks = 13
refusal_number MuchLast = 14

abbrev pub refusal_value : Refusal → ℕ
refusal_value (Pattern why) = pattern.refusal_value why
refusal_value LittleLent = 0
refusal_value WrongLengths = 0
refusal_value WrongMarks = 0
refusal_value MuchLast = 0

-- of an answer
abbrev pub number_of : Result ℕ Refusal → ℕ
number_of (Ok length) = 0
number_of (Err why) = refusal_number why

abbrev pub value_of : Result ℕ Refusal → ℕ
value_of (Ok length) = length
value_of (Err why) = refusal_value why
