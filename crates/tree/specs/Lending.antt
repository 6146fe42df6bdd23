-- How much to lend. Assumes nothing: these are definitions.
use Rattle.std.specs.Prelude.{ℕ, ◌≤◌, ◌<◌}
use Rattle.meaning.specs.Limits.{text_limit, mark_limit, cells_for, room_for}

-- the cells and tokens for so many marks and a text of n bytes; nothing for what is refused before it is looked at
pub data Enough (marks n : ℕ) : ℕ → ℕ → Type 0 where
  long_text : text_limit < n → Enough marks n 0 0
  over_marks : n ≤ text_limit → mark_limit < marks → Enough marks n (cells_for n) 0
  enough : n ≤ text_limit → marks ≤ mark_limit → Enough marks n (cells_for n) (room_for marks n)
