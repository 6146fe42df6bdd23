-- From the parts of a night to the promise of the sheet. Assumes nothing.
use mathlib.Core.Path.{◌≡◌}
use mathlib.Core.List.{List, ◌++◌}
use mathlib.Core.Logic.{◌⊎◌, inl, inr}
use Prim.Native.Nat.{ℕ, ◌≤◌}
use native.Mathlib.Omega.{arith}
use lib.ListN.{length, take, drop, replicate}
use Rattle.std.specs.Prelude.{⊤, Ok, Err}
use Rattle.meaning.specs.declared.Record.{Record}
use Rattle.meaning.specs.Expression.{Re, marks}
use Rattle.meaning.specs.Limits.{pattern_limit, mark_limit, night_cells, sheet_bytes}
use Rattle.meaning.specs.Sheet.{SheetLent, LengthsRight, Sheeted, wrong_lengths, wrong_marks, much_last, sheeted, sheet_text, tonight}
use Rattle.laws.specs.SheetFits.{sheeted_small}
use Rattle.lines.specs.Wrote.{Wrote}
use Rattle.night.specs.Reports.{Nightly}
use Rattle.sheet.specs.declared.figures.Refusal.{Refusal}
use Rattle.sheet.specs.Checks.{Objects, to_lengths, to_marks, to_last, to_nothing}
use Rattle.sheet.specs.Figures.{Completes}
use Rattle.sheet.proofs.RecordLaws.{counted}
use Rattle.sheet.proofs.TextLaws.{wrote_written}

-- nothing is refused
module _ (bytes : List ℕ) {lengths last : List ℕ} {k M : ℕ} {done : ⊤} where
  pub right_lengths : Objects lengths (length bytes) last k M (Ok done) → LengthsRight bytes lengths
  right_lengths (to_nothing x y p q d) = record { few_reports = x; adds_up = y }

  pub each_last : Objects lengths (length bytes) last k M (Ok done) → length last ≡ M
  each_last (to_nothing x y p q d) = q

module _ (e : Re) (bytes lengths last cells room sheet : List ℕ) (k M : ℕ) (j : M ≡ marks e) (c : night_cells ≤ length cells) (s : sheet_bytes ≤ length sheet) where
  lent : {pat : List ℕ} → length pat ≤ pattern_limit → SheetLent pat cells sheet
  lent l = record { short_pattern = l; cells_enough = c; sheet_enough = s }

  -- a refusal of the night
  pub objected : {why : Refusal} → Objects lengths (length bytes) last k M (Err why) → Completes e bytes lengths last k cells room sheet (Err why) cells room sheet
  objected (to_lengths d) = λ pat l a table h. wrong_lengths (lent l) a d
  objected (to_marks x y d) = λ pat l a table h. wrong_marks (lent l) a (record { few_reports = x; adds_up = y }) (other d h)
    where
      other : {i : ℕ} → (k ≡ M → ⊥) ⊎ (length last ≡ M → ⊥) → i ≡ k → (i ≡ marks e → ⊥) ⊎ (length last ≡ marks e → ⊥)
      other (inl u) h = inl (λ w. u (omega arith))
      other (inr u) h = inr (λ w. u (omega arith))
  objected (to_last x y p q d) =
      λ pat l a table h. much_last (lent l) a (record { few_reports = x; adds_up = y }) (record { each_record = omega arith; each_last = omega arith }) d

  module _ {cells' room' sheet' numbers : List ℕ} {figures : List Record} {v : ℕ} (few : marks e ≤ mark_limit) (wide : mark_limit ≤ length figures)
      (N : Nightly e bytes lengths cells cells' room room' numbers figures)
      (W : Wrote sheet 0 (sheet_text (take (length lengths) numbers) (take M figures) last) sheet' v) where
    the_records : take M figures ≡ tonight e N.totals.rows
    the_records = rw j (counted N.totals.rows N.totals.counts (marks e) few (omega arith))

    pub completed : {done : ⊤} → Objects lengths (length bytes) last k M (Ok done)
        → Completes e bytes lengths last k cells room sheet (Ok (record { length = v; figures = figures })) cells' room' sheet'
    completed (to_nothing x y p q d) = λ pat l a. (
      omega arith,
      λ table h.
          let made : Sheeted pat bytes lengths last cells room table sheet 0 _ (replicate night_cells 0 ++ drop night_cells cells) room' (tonight e N.totals.rows) _
          = sheeted (lent l) a (record { few_reports = x; adds_up = y }) (record { each_record = omega arith; each_last = omega arith }) d N.totals.night in
          let w = wrote_written (rw the_records at W) (omega (arith, (sheeted_small made).0)) in
          rw (N.clear, p, the_records, w.0, w.1) made,
    )
