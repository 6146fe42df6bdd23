-- The number, value and flag that an answer of the first tree stands for. Assumes nothing: these are definitions.
use Rattle.std.specs.Prelude.{cond, ℕ, Result, Ok, Err}
use Rattle.pattern.specs.Answers as pattern
use Rattle.tree.specs.declared.outcome.Refusal.{Refusal}
use Rattle.tree.specs.declared.outcome.Refusal.TheVariants.{Pattern, LongText, FewCells, NoTree, SmallRoom}
use Rattle.along.specs.declared.walk.Tree.{Tree}

-- of a refusal; what a refused pattern stands for, the pattern reader says
abbrev pub refusal_number : Refusal → ℕ
refusal_number (Pattern why) = pattern.refusal_number why
refusal_number LongText = 2
refusal_number FewCells = 3
refusal_number (NoTree place) = 8
refusal_number (SmallRoom length) = 9

abbrev pub refusal_value : Refusal → ℕ
refusal_value (Pattern why) = pattern.refusal_value why
refusal_value LongText = 0
refusal_value FewCells = 0
refusal_value (NoTree place) = place
refusal_value (SmallRoom length) = length

-- of an answer
abbrev pub Outcome : Type 0
Outcome = Result Tree Refusal

abbrev pub number_of : Outcome → ℕ
number_of (Ok tree) = 0
number_of (Err refusal) = refusal_number refusal

abbrev pub value_of : Outcome → ℕ
value_of (Ok tree) = tree.length
value_of (Err refusal) = refusal_value refusal

abbrev pub flag_of : Outcome → ℕ
flag_of (Ok tree) = cond tree.other 1 0
flag_of (Err refusal) = 0
