-- The search for the first tree: which number, value and flag may come of an input, and which contents of the lent rows. Where there is a
-- tree, its length and its flag are said whether or not the room holds its row. Assumes nothing: these are definitions.
use Rattle.std.specs.Prelude.{cond, List, ℕ, ◌≤◌, ◌<◌, leb, ltb, length, Ok, Err}
use Rattle.meaning.specs.Expression.{Re}
use Rattle.meaning.specs.Grammar.{Longest}
use Rattle.meaning.specs.Limits.{pattern_limit, text_limit, cells_for}
use Rattle.meaning.specs.Promise.{Refused, Accepted, Ready, cleared, written}
use Rattle.meaning.specs.Tree.{First, Flag, NoTree, Begins}
use Rattle.tree.specs.declared.outcome.Refusal.TheVariants.{SmallRoom}
use Rattle.tree.specs.Outcome.{Outcome}

-- the row at the front, if the room holds it
abbrev pub kept : List ℕ → List ℕ → List ℕ
kept row room = cond (leb (length row) (length room)) (written row room) room

-- of an accepted pattern: number, value, flag, and the tree room afterwards
pub data Sought (e : Re) (text room : List ℕ) : ℕ → ℕ → ℕ → List ℕ → Type 0 where
  no_tree : {place : ℕ} → NoTree e text → Longest (Begins e) text place → Sought e text room 8 place 0 room
  a_tree : {row : List ℕ} {flag : ℕ} → First e text row → Flag e text flag → Sought e text room 0 (length row) flag (kept row room)

-- of any input: number, value, flag, and the cells and the tree room afterwards
pub data Searched (pat text cells room : List ℕ) : ℕ → ℕ → ℕ → List ℕ → List ℕ → Type 0 where
  long_pattern : pattern_limit < length pat → Searched pat text cells room 1 0 0 cells room
  long_text : length pat ≤ pattern_limit → text_limit < length text → Searched pat text cells room 2 0 0 cells room
  few_cells : length pat ≤ pattern_limit → length text ≤ text_limit → length cells < cells_for (length text) → Searched pat text cells room 3 0 0 cells room
  refused : {n v : ℕ} → Ready pat text cells → Refused pat n v → Searched pat text cells room n v 0 cells room
  sought : {e : Re} {n v f : ℕ} {room' : List ℕ} → Ready pat text cells → Accepted pat e → Sought e text room n v f room'
      → Searched pat text cells room n v f (cleared text cells) room'

-- what is told of it in a room of so many tokens: of a tree whose row the room does not hold, the length alone
abbrev pub tell : Outcome → ℕ → Outcome
tell (Ok tree) room = cond (ltb room tree.length) (Err (SmallRoom tree.length)) (Ok tree)
tell (Err refusal) room = Err refusal
