-- Membership of a set: all that a contract says of one. Assumes nothing.
use Rattle.std.specs.Prelude.{ℕ, ◌≤◌, ◌<◌, ◌≡◌, Bool, true, false, ◌&&◌, not, List, length, get_or, map, eqb, Option, Some, None}
use Rattle.sets.specs.declared.set.Set.{Set}
use Rattle.bits.specs.Bit.{bit}
use Rattle.bits.specs.Tally.{tally, any}

-- members are below this
abbrev pub limit : ℕ
limit = 64

unfoldable pub has : Set → ℕ → Bool
has s p = bit limit s.bits p

-- how many members s has
unfoldable pub size : Set → ℕ
size s = tally (has s) limit

-- s has no member
unfoldable pub vacant : Set → Bool
vacant s = not (any (has s) limit)

-- s and t have a member in common
unfoldable pub meets : Set → Set → Bool
meets s t = any (λ q. has s q && has t q) limit

-- s and t have the same members
abbrev pub Alike : Set → Set → Type 0
Alike s t = (q : ℕ) → has s q ≡ has t q

-- r is the least member of s, or the limit where there is none
pub record Least (s : Set) (r : ℕ) : Type 0 where
  pub within : r ≤ limit
  pub below : (q : ℕ) → q < r → has s q ≡ false
  pub here : r < limit → has s r ≡ true

-- r is the least member of s, if there is one
abbrev pub LeastOf : Set → Option ℕ → Type 0
LeastOf s (Some p) = (p < limit) × Least s p
LeastOf s None = Least s limit

-- the least member of s was taken out, if there is one, and t is left
abbrev pub Popped : Set → Option ℕ → Set → Type 0
Popped s (Some p) t = (p < limit) × Least s p × ((q : ℕ) → has t q ≡ (has s q && not (eqb q p)))
Popped s None t = Least s limit × (t ≡ s)

-- the set with no member
abbrev pub none : Set
none = record { bits = 0 }

-- a table of sets: how many it has, and the one at p
abbrev pub rows : List Set → ℕ
rows l = length l

abbrev pub row : List Set → ℕ → Set
row l p = get_or l p none

-- m is the table l with s at p
pub record Stored (s : Set) (p : ℕ) (l m : List Set) : Type 0 where
  pub same_rows : rows m ≡ rows l
  pub here : row m p ≡ s
  pub other : (q : ℕ) → (q ≡ p → ⊥) → row m q ≡ row l q

-- the table that cells of one word hold
abbrev pub of_word : ℕ → Set
of_word w = record { bits = w }

unfoldable pub held : List ℕ → List Set
held cells = map of_word cells
