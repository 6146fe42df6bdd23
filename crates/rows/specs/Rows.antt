-- A TREE line read back: which row it holds, and what is left in the room. Assumes nothing: these are definitions.
use Rattle.std.specs.Prelude.{◌≡◌, List, [], ◌∷◌, ℕ, ◌≤◌, ◌<◌, length, Result, Ok, Err}
use Rattle.meaning.specs.Promise.{written}
use Rattle.meaning.specs.Desk.{tree_line}
use Rattle.rows.specs.declared.RowError.{RowError}
use Rattle.rows.specs.declared.RowError.TheVariants.{SmallRoom, NoRow}

-- a row of numbers of sixteen bits
pub data Below : List ℕ → Type 0 where
  none : Below []
  more : {t : ℕ} {row : List ℕ} → t < 65536 → Below row → Below (t ∷ row)

-- the line is that of the row
pub record Line (line row : List ℕ) : Type 0 where
  pub below : Below row
  pub is : line ≡ tree_line row

-- of this line and this room: the result, and the room afterwards
pub data RowOf (line room : List ℕ) : Result ℕ RowError → List ℕ → Type 0 where
  tokens : {row : List ℕ} → Line line row → length row ≤ length room → RowOf line room (Ok (length row)) (written row room)
  small_room : {row : List ℕ} → Line line row → length room < length row → RowOf line room (Err (SmallRoom (length row))) room
  no_row : ((row : List ℕ) → Line line row → ⊥) → RowOf line room (Err NoRow) room
