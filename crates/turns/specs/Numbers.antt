-- The number and the count that an answer of the turn count stands for. Assumes nothing: these are definitions.
use Rattle.std.specs.Prelude.{ℕ, Result, Ok, Err}
use Rattle.turns.specs.declared.NoMark.{NoMark}

abbrev pub number_of : Result ℕ NoMark → ℕ
number_of (Ok c) = 0
number_of (Err e) = 10

abbrev pub count_of : Result ℕ NoMark → ℕ
count_of (Ok c) = c
count_of (Err e) = 0
