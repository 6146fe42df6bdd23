-- The figures of a night are its records, one for each mark. Assumes nothing.
use mathlib.Core.Path.{◌≡◌, refl}
use mathlib.Core.List.{List, [], ◌∷◌}
use Prim.Native.Nat.{ℕ, zero, suc, ◌+◌, ◌≤◌, ◌<◌}
use native.Mathlib.Omega.{arith}
use lib.ListN.{length, get_or, take}
use Rattle.meaning.specs.declared.Record.{Record}
use Rattle.meaning.specs.Limits.{mark_limit}
use Rattle.meaning.specs.Night.{record_of, records}
use Rattle.tally.specs.Tally.{blank, figures_at}
use Rattle.night.specs.Reports.{Counts}

module _ (rows : List (List ℕ)) where
  -- the k marks behind the first j
  records_behind : (figures : List Record) (j k : ℕ) → k ≤ length figures → ((m : ℕ) → m < k → get_or figures m blank ≡ record_of rows (suc (j + m)))
      → take k figures ≡ records rows j k
  unfolding records
  records_behind figures j zero l each = refl
  records_behind [] j (suc k) l each = absurd (omega arith)
  records_behind (f ∷ figures) j (suc k) l each =
      let e : suc (j + 0) ≡ suc j = omega arith in
      rw (rw e at (each 0 (omega arith)), records_behind figures (suc j) k (omega arith) (λ m h. let e' : suc (j + suc m) ≡ suc (suc j + m) = omega arith in rw e' at (each (suc m) (omega arith))))

  pub counted : {figures : List Record} → Counts rows figures → (k : ℕ) → k ≤ mark_limit → k ≤ length figures → take k figures ≡ records rows 0 k
  counted {figures} c k l l' = records_behind figures 0 k l' (λ m h. let e : suc (0 + m) ≡ suc m = omega arith in rw e (figures_are m (omega arith)))
    where
      figures_are : (m : ℕ) → m < mark_limit → figures_at figures m ≡ record_of rows (suc m)
      figures_are m i = rw (← c.turns_of m i, ← c.bytes_of m i, ← c.longest_of m i) refl
