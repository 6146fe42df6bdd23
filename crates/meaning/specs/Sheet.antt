-- The night sheet: its bytes, and the promise of the call. Assumes nothing: these are definitions.
use Rattle.std.specs.Prelude.{◌≡◌, cond, List, [], ◌∷◌, ◌++◌, ◌⊎◌, ℕ, ◌-◌, ◌≤◌, ◌<◌, eqb, ltb, length, drop, replicate}
use Rattle.meaning.specs.declared.Record.{Record}
use Rattle.meaning.specs.Expression.{Re, marks}
use Rattle.meaning.specs.Limits.{pattern_limit, report_limit, last_limit, night_cells, sheet_bytes}
use Rattle.meaning.specs.Desk.{digits}
use Rattle.meaning.specs.Promise.{Refused, Accepted, written}
use Rattle.meaning.specs.Night.{Night, sum, greatest, reports_in, records}

-- a number in decimal, and byte 10
abbrev pub line : ℕ → List ℕ
line n = digits 20 n ++ (10 ∷ [])

unfoldable pub lines : List ℕ → List ℕ
lines [] = []
lines (n ∷ ns) = line n ++ lines ns

-- the three lines of each mark
unfoldable pub mark_lines : List Record → List ℕ
mark_lines [] = []
mark_lines (r ∷ rs) = line r.turns ++ (line r.bytes ++ (line r.longest ++ mark_lines rs))

-- turns tonight less turns last night, with + or - in front; 0 has no sign
abbrev pub change : ℕ → ℕ → List ℕ
change tonight last = cond (eqb tonight last) (line 0) (cond (ltb last tonight) (43 ∷ line (tonight - last)) (45 ∷ line (last - tonight)))

-- the change of each mark
unfoldable pub change_lines : List Record → List ℕ → List ℕ
change_lines [] last = []
change_lines (r ∷ rs) [] = []
change_lines (r ∷ rs) (n ∷ last) = change r.turns n ++ change_lines rs last

-- the sections in their order, each after its count: the numbers of the reports, the marks, the changes
unfoldable pub sheet_text : List ℕ → List Record → List ℕ → List ℕ
sheet_text numbers rs last =
    line (length numbers) ++ (lines numbers ++
    (line (length rs) ++ (mark_lines rs ++
    (line (length rs) ++ change_lines rs last))))

-- one record for each mark of e
abbrev pub tonight : Re → List (List ℕ) → List Record
tonight e rows = records rows 0 (marks e)

-- no line before 4 applies
pub record SheetLent (pat cells sheet : List ℕ) : Type 0 where
  pub short_pattern : length pat ≤ pattern_limit
  pub cells_enough : night_cells ≤ length cells
  pub sheet_enough : sheet_bytes ≤ length sheet

-- 12 does not apply
pub record LengthsRight (bytes lengths : List ℕ) : Type 0 where
  pub few_reports : length lengths ≤ report_limit
  pub adds_up : sum lengths ≡ length bytes

-- neither does 13
pub record MarksRight (e : Re) (table : List Record) (last : List ℕ) : Type 0 where
  pub each_record : length table ≡ marks e
  pub each_last : length last ≡ marks e

-- the night sheet: number, value, and the cells, the tree room, the table and the sheet afterwards
pub data Sheeted (pat bytes lengths last cells room : List ℕ) (table : List Record) (sheet : List ℕ) : ℕ → ℕ → List ℕ → List ℕ → List Record → List ℕ → Type 0 where
  long_pattern : pattern_limit < length pat → Sheeted pat bytes lengths last cells room table sheet 1 0 cells room table sheet
  little_lent : length pat ≤ pattern_limit → (length cells < night_cells) ⊎ (length sheet < sheet_bytes)
      → Sheeted pat bytes lengths last cells room table sheet 3 0 cells room table sheet
  refused : {n v : ℕ} → SheetLent pat cells sheet → Refused pat n v → Sheeted pat bytes lengths last cells room table sheet n v cells room table sheet
  wrong_lengths : {e : Re} → SheetLent pat cells sheet → Accepted pat e → (report_limit < length lengths) ⊎ (sum lengths ≡ length bytes → ⊥)
      → Sheeted pat bytes lengths last cells room table sheet 12 0 cells room table sheet
  wrong_marks : {e : Re} → SheetLent pat cells sheet → Accepted pat e → LengthsRight bytes lengths → (length table ≡ marks e → ⊥) ⊎ (length last ≡ marks e → ⊥)
      → Sheeted pat bytes lengths last cells room table sheet 13 0 cells room table sheet
  much_last : {e : Re} → SheetLent pat cells sheet → Accepted pat e → LengthsRight bytes lengths → MarksRight e table last → last_limit < greatest last
      → Sheeted pat bytes lengths last cells room table sheet 14 0 cells room table sheet
  sheeted : {e : Re} {numbers room' : List ℕ} {rows : List (List ℕ)} → SheetLent pat cells sheet → Accepted pat e → LengthsRight bytes lengths → MarksRight e table last
      → greatest last ≤ last_limit → Night e (reports_in lengths bytes) room numbers rows room'
      → Sheeted pat bytes lengths last cells room table sheet 0 (length (sheet_text numbers (tonight e rows) last))
      (replicate night_cells 0 ++ drop night_cells cells) room' (tonight e rows) (written (sheet_text numbers (tonight e rows) last) sheet)
