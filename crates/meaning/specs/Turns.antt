-- The counted turns of a mark in a row of tokens, which need not be a tree: how many they are, and how many bytes they read. Assumes nothing:
-- these are definitions.
use Rattle.std.specs.Prelude.{Bool, false, ◌&&◌, ◌||◌, cond, List, [], ◌∷◌, ℕ, ◌+◌, max, eqb}
use Rattle.meaning.specs.Grammar.{range}

-- tests of a token: it opens the mark h, closes it, is a byte token
abbrev pub opens : ℕ → ℕ → Bool
opens h t = eqb t h

abbrev pub closes : ℕ → ℕ → Bool
closes h t = eqb t (128 + h)

abbrev pub is_byte : ℕ → Bool
is_byte t = range 256 511 t

-- some token of a row passes a test
unfoldable pub some_token : (ℕ → Bool) → List ℕ → Bool
some_token f [] = false
some_token f (t ∷ row) = f t || some_token f row

-- the tokens of a row before its first closing of h; all of them, where it has none
unfoldable pub up_to_closing : ℕ → List ℕ → List ℕ
up_to_closing h [] = []
up_to_closing h (t ∷ row) = cond (closes h t) [] (t ∷ up_to_closing h row)

-- an opening of h is counted, where this row stands behind it: h is closed there, and a byte token stands before its next closing
abbrev pub is_counted : ℕ → List ℕ → Bool
is_counted h row = some_token (closes h) row && some_token is_byte (up_to_closing h row)

-- how many openings of h in a row are counted
unfoldable pub turn_count : ℕ → List ℕ → ℕ
turn_count h [] = 0
turn_count h (t ∷ row) = cond (opens h t && is_counted h row) 1 0 + turn_count h row

-- how many tokens of a row are byte tokens
unfoldable pub bytes_in : List ℕ → ℕ
bytes_in [] = 0
bytes_in (t ∷ row) = cond (is_byte t) 1 0 + bytes_in row

-- how many bytes the turn of h read that t opens, where this row stands behind it; 0, where t opens none that is counted
abbrev pub turn_bytes : ℕ → ℕ → List ℕ → ℕ
turn_bytes h t row = cond (opens h t && is_counted h row) (bytes_in (up_to_closing h row)) 0

-- how many bytes the counted turns of h in a row read, and how many the longest of them read; 0, where there is none
unfoldable pub bytes_read : ℕ → List ℕ → ℕ
bytes_read h [] = 0
bytes_read h (t ∷ row) = turn_bytes h t row + bytes_read h row

unfoldable pub longest_turn : ℕ → List ℕ → ℕ
longest_turn h [] = 0
longest_turn h (t ∷ row) = max (turn_bytes h t row) (longest_turn h row)
