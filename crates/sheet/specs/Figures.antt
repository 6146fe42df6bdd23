-- What a night comes to, whichever table of records is lent. Assumes nothing: these are definitions.
use Rattle.std.specs.Prelude.{◌≡◌, List, ℕ, ◌≤◌, Result, Ok, Err, length, take}
use Rattle.meaning.specs.declared.Record.{Record}
use Rattle.meaning.specs.Expression.{Re}
use Rattle.meaning.specs.Limits.{pattern_limit, mark_limit}
use Rattle.meaning.specs.Promise.{Accepted}
use Rattle.meaning.specs.Sheet.{Sheeted}
use Rattle.sheet.specs.declared.figures.Made.{Made}
use Rattle.sheet.specs.declared.figures.Refusal.{Refusal}
use Rattle.sheet.specs.Answers.{refusal_number, refusal_value}

-- all of the promise but the table, which has k records: a sheet that is made has the figures of as many marks, and they go to the table; with a refusal it stays
abbrev pub Makes : List ℕ → List ℕ → List ℕ → List ℕ → ℕ → List ℕ → List ℕ → List ℕ → Result Made Refusal → List ℕ → List ℕ → List ℕ → Type 0
Makes pat bytes lengths last k cells room sheet (Ok made) cells' room' sheet' = (k ≤ mark_limit)
    × ((table : List Record) → length table ≡ k → Sheeted pat bytes lengths last cells room table sheet 0 made.length cells' room' (take k made.figures) sheet')
Makes pat bytes lengths last k cells room sheet (Err why) cells' room' sheet' = (table : List Record) → length table ≡ k
    → Sheeted pat bytes lengths last cells room table sheet (refusal_number why) (refusal_value why) cells' room' table sheet'

-- the same, for whichever pattern denotes e
abbrev pub Completes : Re → List ℕ → List ℕ → List ℕ → ℕ → List ℕ → List ℕ → List ℕ → Result Made Refusal → List ℕ → List ℕ → List ℕ → Type 0
Completes e bytes lengths last k cells room sheet made cells' room' sheet' = (pat : List ℕ) → length pat ≤ pattern_limit → Accepted pat e
    → Makes pat bytes lengths last k cells room sheet made cells' room' sheet'
