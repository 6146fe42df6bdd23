-- The figures of the marks, and a row counted in them. The figures of mark m + 1 stand at place m. Assumes nothing: these are definitions.
use Rattle.std.specs.Prelude.{◌≡◌, List, ℕ, suc, ◌+◌, ◌<◌, ◌^◌, max, get_or}
use Rattle.meaning.specs.declared.Record.{Record}
use Rattle.meaning.specs.Limits.{mark_limit}
use Rattle.meaning.specs.Turns.{turn_count, bytes_read, longest_turn}

-- nothing is counted
abbrev pub blank : Record
blank = record { turns = 0; bytes = 0; longest = 0 }

-- those of the mark at place m
abbrev pub figures_at : List Record → ℕ → Record
figures_at figures m = get_or figures m blank

-- a row can be counted in them
pub record Holds (row : List ℕ) (figures : List Record) : Type 0 where
  pub turns_held : (m : ℕ) → m < mark_limit → (figures_at figures m).turns + turn_count (suc m) row < 2 ^ 64
  pub bytes_held : (m : ℕ) → m < mark_limit → (figures_at figures m).bytes + bytes_read (suc m) row < 2 ^ 64

-- the row is counted in them
pub record Tallied (row : List ℕ) (figures figures' : List Record) : Type 0 where
  pub more_turns : (m : ℕ) → m < mark_limit → (figures_at figures' m).turns ≡ (figures_at figures m).turns + turn_count (suc m) row
  pub more_bytes : (m : ℕ) → m < mark_limit → (figures_at figures' m).bytes ≡ (figures_at figures m).bytes + bytes_read (suc m) row
  pub longer : (m : ℕ) → m < mark_limit → (figures_at figures' m).longest ≡ max (figures_at figures m).longest (longest_turn (suc m) row)
