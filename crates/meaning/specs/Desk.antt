-- The desk: which bytes it writes for the bytes it takes. Assumes nothing: these are definitions.
use Rattle.std.specs.Prelude.{cond, List, [], ◌∷◌, ◌++◌, ℕ, zero, suc, ◌+◌, ◌-◌, ◌/◌, ◌%◌, eqb, ltb, take, replicate}
use Rattle.meaning.specs.Promise.{Answered}

-- bytes taken, cells and tokens lent
abbrev pub input_limit : ℕ
input_limit = 8192

abbrev pub desk_cells : ℕ
desk_cells = 4097

abbrev pub desk_tokens : ℕ
desk_tokens = 8192

-- the pattern is what stands before the first byte 10, the text what stands after it
unfoldable pub pattern_in : List ℕ → List ℕ
pattern_in [] = []
pattern_in (b ∷ s) = cond (eqb b 10) [] (b ∷ pattern_in s)

unfoldable pub text_in : List ℕ → List ℕ
text_in [] = []
text_in (b ∷ s) = cond (eqb b 10) s (text_in s)

-- the decimal digits of n, of which there are at most k
unfoldable pub digits : ℕ → ℕ → List ℕ
digits zero n = []
digits (suc k) n = cond (ltb n 10) ((48 + n) ∷ []) (digits k (n / 10) ++ ((48 + n % 10) ∷ []))

-- a space, and n in decimal; no number here has more than twenty digits
abbrev pub spaced : ℕ → List ℕ
spaced n = 32 ∷ digits 20 n

-- ANSWER, the number, the value and the flag, each after one space
unfoldable pub answer_line : ℕ → ℕ → ℕ → List ℕ
answer_line n v f = 65 ∷ 78 ∷ 83 ∷ 87 ∷ 69 ∷ 82 ∷ (spaced n ++ (spaced v ++ (spaced f ++ (10 ∷ []))))

-- a space, then o, c or b with the mark or the byte in decimal
unfoldable pub token : ℕ → List ℕ
token t = cond (ltb t 128) (32 ∷ 111 ∷ digits 20 t) (cond (ltb t 256) (32 ∷ 99 ∷ digits 20 (t - 128)) (32 ∷ 98 ∷ digits 20 (t - 256)))

unfoldable pub tokens : List ℕ → List ℕ
tokens [] = []
tokens (t ∷ row) = token t ++ tokens row

-- TREE and the tokens
unfoldable pub tree_line : List ℕ → List ℕ
tree_line row = 84 ∷ 82 ∷ 69 ∷ 69 ∷ (tokens row ++ (10 ∷ []))

-- line one, and line two only for 0
unfoldable pub desk_lines : ℕ → ℕ → ℕ → List ℕ → List ℕ
desk_lines n v f row = answer_line n v f ++ cond (eqb n 0) (tree_line row) []

-- of this input the desk writes this output
pub data Desk (input : List ℕ) : List ℕ → Type 0 where
  desk : {n v f : ℕ} {cells room : List ℕ}
      → Answered (pattern_in (take input_limit input)) (text_in (take input_limit input)) (replicate desk_cells 0) (replicate desk_tokens 0) n v f cells room
      → Desk input (desk_lines n v f (take v room))
