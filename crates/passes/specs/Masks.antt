-- Which positions read a byte, as a table with a row for each byte. Assumes nothing: these are definitions.
use Rattle.std.specs.Prelude.{◌≡◌, Bool, ◌&&◌, ◌||◌, List, [], ℕ, ◌/◌, ◌%◌, ◌≤◌, ◌<◌, eqb, ltb, get_or}
use Rattle.bits.specs.Bit.{bit}
use Rattle.sets.specs.declared.class.Class.{Class}
use Rattle.sets.specs.Classes.{among}
use Rattle.sets.specs.declared.set.Set.{Set}
use Rattle.sets.specs.Members.{has, row, rows}

-- byte b stands in word w, whose value is x
unfoldable pub in_word : ℕ → ℕ → ℕ → Bool
in_word x w b = eqb (b / 64) w && bit 64 x (b % 64)

-- position k joined the rows of the bytes in word w, whose value is x
pub record Noted (x w k : ℕ) (l m : List Set) : Type 0 where
  pub same_rows : rows m ≡ rows l
  pub joins : (b q : ℕ) → has (row m b) q ≡ (has (row l b) q || (in_word x w b && eqb q k))

-- position k joined the rows of the bytes of its class, and the rows past those of bytes stay
pub record Marked (class : Class) (k : ℕ) (l m : List Set) : Type 0 where
  pub same_rows : rows m ≡ rows l
  pub joins : (b q : ℕ) → b < 256 → has (row m b) q ≡ (has (row l b) q || (among class b && eqb q k))
  pub past : (b q : ℕ) → 256 ≤ b → has (row m b) q ≡ has (row l b) q

-- position q, of n, has the byte b in its class
unfoldable pub classed : List Class → ℕ → ℕ → ℕ → Bool
classed class n q b = ltb q n && among (get_or class q (record { words = [] })) b

-- each of n positions joined the rows of its bytes, and the rows past those of bytes stay
pub record Masked (class : List Class) (n : ℕ) (l m : List Set) : Type 0 where
  pub same_rows : rows m ≡ rows l
  pub joins : (b q : ℕ) → b < 256 → has (row m b) q ≡ (has (row l b) q || classed class n q b)
  pub past : (b q : ℕ) → 256 ≤ b → has (row m b) q ≡ has (row l b) q
