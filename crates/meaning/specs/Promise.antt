-- The promise of each call: which number, value, flag and contents of the lent rows may come of an input. One constructor for each line of
-- the table of answers, with what says that no earlier line applies. Assumes nothing: these are definitions.
use Rattle.std.specs.Prelude.{List, ◌++◌, ◌⊎◌, ℕ, ◌≤◌, ◌<◌, length, drop, replicate}
use Rattle.meaning.specs.Expression.{Re, marks, size}
use Rattle.meaning.specs.Grammar.{Pattern, Viable, Longest}
use Rattle.meaning.specs.Tree.{Tree, First, Other, Flag, NoTree, Begins}
use Rattle.meaning.specs.Limits.{pattern_limit, text_limit, nesting_limit, position_limit, mark_limit, cells_for}
use Rattle.meaning.specs.ReadPattern.{ReadPattern, read_pattern, no_parts}
use Rattle.meaning.specs.Turns.{turn_count}

-- the pattern is refused with this number and value
pub data Refused (pat : List ℕ) : ℕ → ℕ → Type 0 where
  not_a_pattern : {place : ℕ} → ((e : Re) (d : ℕ) → Pattern pat e d → ⊥) → Longest Viable pat place → Refused pat 4 place
  nested : {e : Re} {d : ℕ} → Pattern pat e d → nesting_limit < d → Refused pat 5 0
  positions : {e : Re} {d : ℕ} → Pattern pat e d → d ≤ nesting_limit → position_limit < size e → Refused pat 6 0
  over_marks : {e : Re} {d : ℕ} → Pattern pat e d → d ≤ nesting_limit → size e ≤ position_limit → mark_limit < marks e → Refused pat 7 0

-- the pattern denotes e, within every limit
pub record Accepted (pat : List ℕ) (e : Re) : Type 0 where
  pub short : length pat ≤ pattern_limit
  pub depth : ℕ
  pub denotes : Pattern pat e depth
  pub nesting : depth ≤ nesting_limit
  pub few_positions : size e ≤ position_limit
  pub few_marks : marks e ≤ mark_limit

-- the pattern reader alone: number, value, read pattern
pub data Read (pat : List ℕ) : ℕ → ℕ → ReadPattern → Type 0 where
  long_pattern : pattern_limit < length pat → Read pat 1 0 no_parts
  refused : {n v : ℕ} → length pat ≤ pattern_limit → Refused pat n v → Read pat n v no_parts
  accepted : {e : Re} → Accepted pat e → Read pat 0 0 (read_pattern e)

-- the first n + 1 cells zero; the row at the front
abbrev pub cleared : List ℕ → List ℕ → List ℕ
cleared text cells = replicate (cells_for (length text)) 0 ++ drop (cells_for (length text)) cells

abbrev pub written : List ℕ → List ℕ → List ℕ
written row room = row ++ drop (length row) room

-- lines 8, 9 and 0 for an accepted pattern: number, value, flag, and the tree room afterwards
pub data Judged (e : Re) (text room : List ℕ) : ℕ → ℕ → ℕ → List ℕ → Type 0 where
  no_tree : {place : ℕ} → NoTree e text → Longest (Begins e) text place → Judged e text room 8 place 0 room
  small_room : {row : List ℕ} → First e text row → length room < length row → Judged e text room 9 (length row) 0 room
  tree : {row : List ℕ} {flag : ℕ} → First e text row → length row ≤ length room → Flag e text flag → Judged e text room 0 (length row) flag (written row room)

-- no line before 4 applies
pub record Ready (pat text cells : List ℕ) : Type 0 where
  pub short_pattern : length pat ≤ pattern_limit
  pub short_text : length text ≤ text_limit
  pub cells_enough : cells_for (length text) ≤ length cells

-- the first tree: number, value, flag, and the cells and the tree room afterwards
pub data Answered (pat text cells room : List ℕ) : ℕ → ℕ → ℕ → List ℕ → List ℕ → Type 0 where
  long_pattern : pattern_limit < length pat → Answered pat text cells room 1 0 0 cells room
  long_text : length pat ≤ pattern_limit → text_limit < length text → Answered pat text cells room 2 0 0 cells room
  few_cells : length pat ≤ pattern_limit → length text ≤ text_limit → length cells < cells_for (length text) → Answered pat text cells room 3 0 0 cells room
  refused : {n v : ℕ} → Ready pat text cells → Refused pat n v → Answered pat text cells room n v 0 cells room
  judged : {e : Re} {n v f : ℕ} {room' : List ℕ} → Ready pat text cells → Accepted pat e → Judged e text room n v f room'
      → Answered pat text cells room n v f (cleared text cells) room'

-- the turn count: number and count
pub data Counted (row : List ℕ) (mark : ℕ) : ℕ → ℕ → Type 0 where
  no_mark : (mark < 1) ⊎ (mark_limit < mark) → Counted row mark 10 0
  counted : 1 ≤ mark → mark ≤ mark_limit → Counted row mark 0 (turn_count mark row)

-- none, one or more trees
pub data Trees (e : Re) (text : List ℕ) : ℕ → Type 0 where
  none : NoTree e text → Trees e text 8
  one : {row : List ℕ} → Tree 0 e text row → (Other e text → ⊥) → Trees e text 0
  more : Other e text → Trees e text 11

-- the scheduler's number
pub data Verdict (pat text : List ℕ) : ℕ → Type 0 where
  long_pattern : pattern_limit < length pat → Verdict pat text 1
  long_text : length pat ≤ pattern_limit → text_limit < length text → Verdict pat text 2
  refused : {n v : ℕ} → length pat ≤ pattern_limit → length text ≤ text_limit → Refused pat n v → Verdict pat text n
  judged : {e : Re} {n : ℕ} → length text ≤ text_limit → Accepted pat e → Trees e text n → Verdict pat text n
