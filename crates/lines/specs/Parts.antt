-- Where an input parts into pattern and text, and whether a line begins with a word.
use Rattle.std.specs.Prelude.{◌≡◌, Bool, true, false, List, ℕ, ◌+◌, ◌≤◌, length, take, drop}
use Rattle.meaning.specs.Desk.{pattern_in, text_in}

-- r is where the first byte 10 of s stands, or the length of s where there is none: before it stands the pattern, behind it the text
pub record Split (s : List ℕ) (r : ℕ) : Type 0 where
  pub within : r ≤ length s
  pub before : pattern_in s ≡ take r s
  pub behind : text_in s ≡ drop (r + 1) s

-- r says whether A holds
abbrev pub Said : Bool → Type 0 → Type 0
Said true A = A
Said false A = A → ⊥

-- the line begins with the word
abbrev pub Headed : List ℕ → List ℕ → Type 0
Headed line word = take (length word) line ≡ word
