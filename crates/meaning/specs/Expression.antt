-- Expressions: what a pattern says once its signs are read. Assumes nothing: these are definitions.
use Rattle.std.specs.Prelude.{Bool, ℕ, suc, ◌+◌}

-- A position holds the test that its byte must pass. A list of two or more branches is a chain of `alt` over `branch`es, with the last branch
-- on the right of the outermost. The items of a branch are a chain of `cat`, joined to the right: its left part is the first item, its right
-- part the branch of the others. So a group that stands before others in a branch is told apart from its items.
pub data Re : Type 0 where
  eps : Re
  pos : (ℕ → Bool) → Re
  cat : Re → Re → Re
  alt : Re → Re → Re
  branch : Re → Re
  star : Re → Re
  plus : Re → Re
  opt : Re → Re

-- How many marks an expression has: one for each branch of a list and each repeated item. Marks are numbered by where they stand: if m
-- marks stand before a branch or a repeated item, it has the mark m + 1, and m + 1 marks stand before what it holds.
unfoldable pub marks : Re → ℕ
marks eps = 0
marks (pos c) = 0
marks (cat x y) = marks x + marks y
marks (alt x y) = marks x + marks y
marks (branch x) = suc (marks x)
marks (star x) = suc (marks x)
marks (plus x) = suc (marks x)
marks (opt x) = suc (marks x)

-- How many positions it has, numbered from 0 in the same way.
unfoldable pub size : Re → ℕ
size eps = 0
size (pos c) = 1
size (cat x y) = size x + size y
size (alt x y) = size x + size y
size (branch x) = size x
size (star x) = size x
size (plus x) = size x
size (opt x) = size x
