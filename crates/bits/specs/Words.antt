-- Words of w digits in a row, as one test of numbers. Assumes nothing.
use Rattle.std.specs.Prelude.{ℕ, ◌/◌, ◌%◌, Bool, List, get_or}
use Rattle.bits.specs.Bit.{bit}

-- the number q is the digit `q % w` of the word `q / w`
abbrev pub in_words : ℕ → List ℕ → ℕ → Bool
in_words w l q = bit w (get_or l (q / w) 0) (q % w)
