-- A night: its reports, their answers in turn, and the figures of each mark over all of them. Assumes nothing: these are definitions.
use Rattle.std.specs.Prelude.{cond, List, [], ◌∷◌, map, ℕ, zero, suc, ◌+◌, ◌≤◌, ◌<◌, max, eqb, length, take, drop}
use Rattle.meaning.specs.declared.Record.{Record}
use Rattle.meaning.specs.Expression.{Re}
use Rattle.meaning.specs.Limits.{text_limit}
use Rattle.meaning.specs.Promise.{Judged}
use Rattle.meaning.specs.Turns.{turn_count, bytes_read, longest_turn}

unfoldable pub sum : List ℕ → ℕ
sum [] = 0
sum (n ∷ ns) = n + sum ns

unfoldable pub greatest : List ℕ → ℕ
greatest [] = 0
greatest (n ∷ ns) = max n (greatest ns)

-- the reports that stand in a row of bytes one after another, by their lengths
unfoldable pub reports_in : List ℕ → List ℕ → List (List ℕ)
reports_in [] bytes = []
reports_in (n ∷ lengths) bytes = take n bytes ∷ reports_in lengths (drop n bytes)

-- the row that counts, by number and value of an answer and the tree room afterwards: with 0 the row at the front, else none
abbrev pub counted_row : ℕ → ℕ → List ℕ → List ℕ
counted_row n v room = cond (eqb n 0) (take v room) []

-- one report of a night, from this tree room: its number, the row that counts, and the tree room afterwards
pub data Report (e : Re) (text room : List ℕ) : ℕ → List ℕ → List ℕ → Type 0 where
  long_text : text_limit < length text → Report e text room 2 [] room
  judged : {n v f : ℕ} {room' : List ℕ} → length text ≤ text_limit → Judged e text room n v f room' → Report e text room n (counted_row n v room') room'

-- the reports of a night in turn, from this tree room: their numbers, the rows that count, and the tree room at the end
pub data Night (e : Re) : List (List ℕ) → List ℕ → List ℕ → List (List ℕ) → List ℕ → Type 0 where
  no_more : {room : List ℕ} → Night e [] room [] [] room
  then : {text room row room₁ numbers room' : List ℕ} {texts rows : List (List ℕ)} {n : ℕ}
      → Report e text room n row room₁ → Night e texts room₁ numbers rows room' → Night e (text ∷ texts) room (n ∷ numbers) (row ∷ rows) room'

-- the record of mark h: each figure is the sum or the maximum over the rows of the night
abbrev pub record_of : List (List ℕ) → ℕ → Record
record_of rows h = record {
  turns = sum (map (turn_count h) rows);
  bytes = sum (map (bytes_read h) rows);
  longest = greatest (map (longest_turn h) rows);
}

-- the records of the k marks behind the first m
unfoldable pub records : List (List ℕ) → ℕ → ℕ → List Record
records rows m zero = []
records rows m (suc k) = record_of rows (suc m) ∷ records rows (suc m) k
