-- What the reports of a night ask and what they leave. The figures of mark m + 1 stand at place m. Assumes nothing: these are definitions.
use Rattle.std.specs.Prelude.{◌≡◌, List, ◌++◌, map, ℕ, suc, ◌+◌, ◌≤◌, ◌<◌, ◌^◌, length, take, drop, replicate}
use Rattle.meaning.specs.Expression.{Re}
use Rattle.meaning.specs.Limits.{text_limit, mark_limit, report_limit, night_cells}
use Rattle.meaning.specs.Night.{Report, Night, sum, greatest, reports_in}
use Rattle.meaning.specs.Turns.{turn_count, bytes_read, longest_turn}
use Rattle.meaning.specs.declared.Record.{Record}
use Rattle.tally.specs.Tally.{Tallied, blank, figures_at}

-- a report more can be counted
pub record Spacious (figures : List Record) : Type 0 where
  pub more_turns : (m : ℕ) → m < mark_limit → (figures_at figures m).turns + text_limit < 2 ^ 64
  pub more_bytes : (m : ℕ) → m < mark_limit → (figures_at figures m).bytes + text_limit < 2 ^ 64

-- nothing is counted yet
pub record Zero (numbers : List ℕ) (figures : List Record) : Type 0 where
  pub no_numbers : numbers ≡ replicate report_limit 0
  pub no_figures : figures ≡ replicate mark_limit blank

-- one report: the row that counts is counted, and the cells past those of a night are as they were
pub record Reported (e : Re) (text cells cells' room room' : List ℕ) (figures figures' : List Record) (n : ℕ) : Type 0 where
  pub row : List ℕ
  pub report : Report e text room n row room'
  pub tallied : Tallied row figures figures'
  pub few : (h : ℕ) → h ≤ mark_limit → bytes_read h row ≤ text_limit
  pub past : drop night_cells cells' ≡ drop night_cells cells
  pub same_cells : length cells' ≡ length cells

-- each figure is the sum or the maximum over these rows
pub record Counts (rows : List (List ℕ)) (figures : List Record) : Type 0 where
  pub turns_of : (m : ℕ) → m < mark_limit → (figures_at figures m).turns ≡ sum (map (turn_count (suc m)) rows)
  pub bytes_of : (m : ℕ) → m < mark_limit → (figures_at figures m).bytes ≡ sum (map (bytes_read (suc m)) rows)
  pub longest_of : (m : ℕ) → m < mark_limit → (figures_at figures m).longest ≡ greatest (map (longest_turn (suc m)) rows)

-- all reports: judged in turn, and the rows that count are counted
pub record Totals (e : Re) (bytes lengths room room' numbers : List ℕ) (figures : List Record) : Type 0 where
  pub rows : List (List ℕ)
  pub night : Night e (reports_in lengths bytes) room (take (length lengths) numbers) rows room'
  pub counts : Counts rows figures

-- with the cells of a night in use
pub record Passed (e : Re) (bytes lengths cells cells' room room' numbers : List ℕ) (figures : List Record) : Type 0 where
  pub totals : Totals e bytes lengths room room' numbers figures
  pub past : drop night_cells cells' ≡ drop night_cells cells
  pub same_cells : length cells' ≡ length cells

-- with the cells of a night cleared
pub record Nightly (e : Re) (bytes lengths cells cells' room room' numbers : List ℕ) (figures : List Record) : Type 0 where
  pub totals : Totals e bytes lengths room room' numbers figures
  pub clear : cells' ≡ replicate night_cells 0 ++ drop night_cells cells
