-- The calls as C sees them: the number of the answer is the result, and its other figures go to the front of `out`. Assumes nothing: these are
-- definitions. The scheduler's verdict has no `out`: its promise is `Verdict` itself.
use Rattle.std.specs.Prelude.{◌≡◌, List, [], ◌∷◌, ◌++◌, ℕ, length, take, drop}
use Rattle.meaning.specs.Promise.{Answered, Read, Counted}
use Rattle.meaning.specs.ReadPattern.{ReadPattern}
use Rattle.meaning.specs.declared.Record.{Record}
use Rattle.meaning.specs.Sheet.{Sheeted}

-- the figures in their order, as far as out is long; the rest of it as it was
abbrev pub in_front : List ℕ → List ℕ → List ℕ
in_front figures out = take (length out) figures ++ drop (length figures) out

-- dimmhalt_first_tree: value, flag
pub record FirstTreeCall (pat text cells room out : List ℕ) (r : ℕ) (cells' room' out' : List ℕ) : Type 0 where
  pub value : ℕ
  pub flag : ℕ
  pub answered : Answered pat text cells room r value flag cells' room'
  pub told : out' ≡ in_front (value ∷ flag ∷ []) out

-- dimmhalt_read: value, positions, marks
pub record ReadCall (pat out : List ℕ) (r : ℕ) (out' : List ℕ) : Type 0 where
  pub value : ℕ
  pub parts : ReadPattern
  pub read : Read pat r value parts
  pub told : out' ≡ in_front (value ∷ parts.positions ∷ parts.marks ∷ []) out

-- dimmhalt_turns: count
pub record TurnsCall (row : List ℕ) (mark : ℕ) (out : List ℕ) (r : ℕ) (out' : List ℕ) : Type 0 where
  pub count : ℕ
  pub counted : Counted row mark r count
  pub told : out' ≡ in_front (count ∷ []) out

-- dimmhalt_sheet: value
pub record SheetCall (pat bytes lengths last cells room : List ℕ) (table : List Record) (sheet out : List ℕ) (r : ℕ)
    (cells' room' : List ℕ) (table' : List Record) (sheet' out' : List ℕ) : Type 0 where
  pub value : ℕ
  pub sheeted : Sheeted pat bytes lengths last cells room table sheet r value cells' room' table' sheet'
  pub told : out' ≡ in_front (value ∷ []) out
