-- The cells that the verdict lends. Assumes nothing: this is a definition.
use Rattle.std.specs.Prelude.{List, ℕ, ◌≤◌, length}
use Rattle.meaning.specs.Limits.{text_limit, cells_for}

-- there are cells for the text, if it is not too long
abbrev pub Suffice : List ℕ → List ℕ → Type 0
Suffice text cells = length text ≤ text_limit → cells_for (length text) ≤ length cells
