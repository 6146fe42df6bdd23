-- The limits, by name. Assumes nothing: these are definitions.
use Rattle.std.specs.Prelude.{ℕ, ◌+◌, ◌*◌, max}

-- bytes of a pattern and of a text
abbrev pub pattern_limit : ℕ
pattern_limit = 512

abbrev pub text_limit : ℕ
text_limit = 4096

-- groups inside each other, positions, marks
abbrev pub nesting_limit : ℕ
nesting_limit = 64

abbrev pub position_limit : ℕ
position_limit = 64

abbrev pub mark_limit : ℕ
mark_limit = 64

-- work cells that a text of n bytes needs
abbrev pub cells_for : ℕ → ℕ
cells_for n = n + 1

-- no tree of n bytes with M marks has more tokens
abbrev pub room_for : ℕ → ℕ → ℕ
room_for M n = n + 2 * (M * max n 1)

-- of a night: reports, last night's turns of a mark, work cells and bytes of the sheet that are lent
abbrev pub report_limit : ℕ
report_limit = 1000

abbrev pub last_limit : ℕ
last_limit = 4096000

abbrev pub night_cells : ℕ
night_cells = 4097

abbrev pub sheet_bytes : ℕ
sheet_bytes = 8192
