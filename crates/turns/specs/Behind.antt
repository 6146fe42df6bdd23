-- What is known of the row behind a place, and how one token more before it changes that. Assumes nothing: these are definitions.
use Rattle.std.specs.Prelude.{◌≡◌, List, ◌∷◌, ℕ}
use Rattle.meaning.specs.Turns.{closes, some_token, is_counted, turn_count}
use Rattle.turns.specs.declared.Behind.{Behind}

-- this row stands behind the place
pub record Stands (h : ℕ) (row : List ℕ) (b : Behind) : Type 0 where
  pub closed : b.closed ≡ some_token (closes h) row
  pub counted : b.counted ≡ is_counted h row
  pub turns : b.turns ≡ turn_count h row

-- whichever row it is: the row with the token t in front of it stands behind the place before
abbrev pub Lengthens : ℕ → ℕ → Behind → Behind → Type 0
Lengthens h t b b' = (row : List ℕ) → Stands h row b → Stands h (t ∷ row) b'
