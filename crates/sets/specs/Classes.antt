-- Membership of a class of bytes: all that a contract says of one. Assumes nothing.
use Rattle.std.specs.Prelude.{ℕ, ◌^◌, ◌<◌, ◌≡◌, Bool, length, get_or}
use Rattle.sets.specs.declared.class.Class.{Class}
use Rattle.bits.specs.Words.{in_words}

unfoldable pub among : Class → ℕ → Bool
among k q = in_words 64 k.words q

-- k is a class that code can hold: `class_fits` of proofs/ClassLaws shows it
pub record ClassFits (k : Class) : Type 0 where
  pub four : length k.words ≡ 4
  pub fits : (i : ℕ) → get_or k.words i 0 < 2 ^ 64
