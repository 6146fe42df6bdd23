-- What the flat scan says of itself. Assumes nothing: these are definitions.
use Rattle.std.specs.Prelude.{◌≡◌, List, ℕ, length, get_or, ⊤}
use Rattle.std.specs.declared.result.Result.{Result}
use Rattle.std.specs.declared.result.Result.TheVariants.{Ok, Err}
use Rattle.meaning.specs.Expression.{Re}
use Rattle.grammar.specs.Machine.{Sign}
use Rattle.grammar.specs.Place.{Stops, Reading}
use Rattle.grammar.specs.Flat.{Last, last_none, last_bar, last_item, last_atom, Scanning}
use Rattle.pattern.specs.Letters.{On}
use Rattle.pattern.specs.declared.letters.Misplaced.{Misplaced}
use Rattle.pattern.specs.declared.scan.Behind.{Behind}
use Rattle.pattern.specs.declared.scan.Behind.TheVariants.{Nothing, Bar, Item, Atom}
use Rattle.pattern.specs.declared.scan.Reach.{Reach}

abbrev pub last_of : Behind → Last
last_of Nothing = last_none
last_of Bar = last_bar
last_of Item = last_item
last_of Atom = last_atom

-- what the machine has read of s up to c
abbrev pub Reaches : List ℕ → Reach → Type 0
Reaches s c = Scanning s c.at c.groups (last_of c.behind)

abbrev pub reach_at : ℕ → ℕ → Behind → Reach
reach_at i n b = record { at = i; groups = n; behind = b }

-- one turn, from i on
abbrev pub Turned : List ℕ → ℕ → Result Reach Misplaced → Type 0
Turned s i (Ok d) = Reaches s d × On (length s) i d.at
Turned s i (Err m) = Stops s m.0

-- none of ( ) | and no sign stands at i
pub record LetterDue (s : List ℕ) (i : ℕ) : Type 0 where
  pub no_open : get_or s i 0 ≡ 40 → ⊥
  pub no_close : get_or s i 0 ≡ 41 → ⊥
  pub no_bar : get_or s i 0 ≡ 124 → ⊥
  pub no_sign : (f : Re → Re) → Sign (get_or s i 0) f → ⊥

-- the whole row is a pattern, or the place of the mistake in it
abbrev pub Scanned : List ℕ → Result ⊤ Misplaced → Type 0
Scanned s (Ok done) = Reading s
Scanned s (Err m) = Stops s m.0

-- the same of every row that was read to its end, at c
abbrev pub Ended : Reach → Result ⊤ Misplaced → Type 0
Ended c r = (s : List ℕ) → Reaches s c → c.at ≡ length s → Scanned s r
