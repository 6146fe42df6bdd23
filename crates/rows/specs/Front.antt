-- How a TREE line is read from its front: a number, a token, then token by token. Assumes nothing: these are definitions.
use Rattle.std.specs.Prelude.{◌≡◌, cond, List, [], ◌∷◌, ◌++◌, ℕ, ◌+◌, ◌*◌, ◌-◌, ◌≤◌, ◌<◌, eqb, ltb, length, drop, Option, Some, None}
use Rattle.std.proofs.lemmas.List.Edits.{sets}
use Rattle.meaning.specs.Desk.{token, tokens}
use Rattle.rows.specs.declared.Front.{Front}
use Rattle.rows.specs.declared.Front.TheVariants.{Token, End}
use Rattle.rows.specs.Rows.{Below}

-- the number v, with the digits at the front of s behind its own
unfoldable pub number_on : ℕ → List ℕ → ℕ
number_on v [] = v
number_on v (b ∷ s) = cond (ltb b 48) v (cond (ltb 57 b) v (number_on (v * 10 + (b - 48)) s))

-- r is the number at the front of s, where that is small
pub record NumberIn (s : List ℕ) (r : ℕ) : Type 0 where
  pub exact : number_on 0 s < 65536 → r ≡ number_on 0 s
  pub small : r < 655360

-- what is added to the number behind a letter
abbrev pub base : ℕ → ℕ
base letter = cond (eqb letter 111) 0 (cond (eqb letter 99) 128 256)

-- s is the tokens of the row and the end of a line
pub record Rest (s row : List ℕ) : Type 0 where
  pub below : Below row
  pub is : s ≡ tokens row ++ (10 ∷ [])

-- s begins with this token, of k bytes, and is no rest of a line if what stands behind it is none
pub record Begins (s : List ℕ) (t k : ℕ) : Type 0 where
  pub fits : t < 65536
  pub is : s ≡ token t ++ drop k s
  pub some : 1 ≤ k
  pub within : k ≤ length s
  pub only : ((row : List ℕ) → Rest (drop k s) row → ⊥) → (row : List ℕ) → Rest s row → ⊥

-- with what s begins, if it is the rest of a line
abbrev pub FrontOf : List ℕ → Option Front → Type 0
FrontOf s (Some (Token t k)) = Begins s t k
FrontOf s (Some End) = s ≡ 10 ∷ []
FrontOf s None = (row : List ℕ) → Rest s row → ⊥

-- room became room': a row of the kind P has n tokens and stands at the front, as far as the room goes
pub record Put (P : List ℕ → Type 0) (room : List ℕ) (n : ℕ) (room' : List ℕ) : Type 0 where
  pub row : List ℕ
  pub is : P row
  pub counted : n ≡ length row
  pub put : room' ≡ sets room 0 row

-- how many tokens the row of the kind P has, or that there is none
abbrev pub Finds : (List ℕ → Type 0) → List ℕ → Option ℕ → List ℕ → Type 0
Finds P room (Some n) room' = Put P room n room'
Finds P room None room' = (row : List ℕ) → P row → ⊥
