-- What the readers of a list, a branch, an item and an atom say of themselves. Assumes nothing: these are definitions.
use Rattle.std.specs.Prelude.{◌≡◌, Bool, true, false, List, ℕ, ◌+◌, ◌≤◌, ◌<◌, length, get_or}
use Rattle.std.specs.declared.option.Option.{Option}
use Rattle.std.specs.declared.option.Option.TheVariants.{Some, None}
use Rattle.meaning.specs.Expression.{Re}
use Rattle.kinds.specs.declared.Node.{Node}
use Rattle.kinds.specs.declared.Node.TheVariants.{Star, Plus, Opt}
use Rattle.grammar.specs.Machine.{Sign}
use Rattle.grammar.specs.Contract.{AtomDone, ItemDone, ItemFails, BranchDone, FrontsDone, ListDone, ListFails}
use Rattle.pattern.specs.Stores.{Stores, Moved, Wrote}
use Rattle.pattern.specs.declared.nodes.Cursor.{Cursor}

-- the byte b stands at i
pub record ByteAt (s : List ℕ) (i b : ℕ) : Type 0 where
  pub inside : i < length s
  pub is : get_or s i 0 ≡ b

abbrev pub WhetherAt : List ℕ → ℕ → ℕ → Bool → Type 0
WhetherAt s i b true = ByteAt s i b
WhetherAt s i b false = ByteAt s i b → ⊥

-- an item can start at i
pub record Goes (s : List ℕ) (i : ℕ) : Type 0 where
  pub inside : i < length s
  pub no_bar : get_or s i 0 ≡ 124 → ⊥
  pub no_close : get_or s i 0 ≡ 41 → ⊥

-- where a branch ends
pub data End (s : List ℕ) (i : ℕ) : Type 0 where
  of_text : length s ≤ i → End s i
  by_bar : get_or s i 0 ≡ 124 → End s i
  by_close : get_or s i 0 ≡ 41 → End s i

abbrev pub Going : List ℕ → ℕ → Bool → Type 0
Going s i true = Goes s i
Going s i false = End s i

-- the node that the sign at i makes, its mark not numbered, where there is a sign
pub data Signed (s : List ℕ) (i : ℕ) : Option Node → Type 0 where
  star_at : ByteAt s i 42 → Signed s i (Some (Star 0))
  plus_at : ByteAt s i 43 → Signed s i (Some (Plus 0))
  opt_at : ByteAt s i 63 → Signed s i (Some (Opt 0))
  none_at : (i < length s → (f : Re → Re) → Sign (get_or s i 0) f → ⊥) → Signed s i None

-- from c to d stands what is read as some expression, which was written, and which opens no more groups in each other than may be
pub record ReadTo (k : ℕ) (D : List ℕ → ℕ → ℕ → Re → ℕ → Type 0) (s : List ℕ) (left : ℕ) (c d : Cursor) (S S' : Stores) : Type 0 where
  pub reading : Re
  pub deep : ℕ
  pub shallow : deep ≤ left
  pub done : D s c.at d.at reading deep
  pub moved : Moved k (length s) c d
  pub wrote : Wrote c d S S' reading

-- branches, up to a | that d stands at
abbrev pub FrontsAt : List ℕ → ℕ → ℕ → Re → ℕ → Type 0
FrontsAt s i j e d = FrontsDone s i (j + 1) e d

abbrev pub Atomed : List ℕ → ℕ → Cursor → Stores → Stores → Option Cursor → Type 0
Atomed s left c S S' (Some d) = ReadTo 1 AtomDone s left c d S S'
Atomed s left c S S' None = ItemFails s c.at left

abbrev pub Itemed : List ℕ → ℕ → Cursor → Stores → Stores → Option Cursor → Type 0
Itemed s left c S S' (Some d) = ReadTo 1 ItemDone s left c d S S'
Itemed s left c S S' None = ItemFails s c.at left

abbrev pub Branched : List ℕ → ℕ → Cursor → Stores → Stores → Option Cursor → Type 0
Branched s left c S S' (Some d) = ReadTo 1 BranchDone s left c d S S' × End s d.at
Branched s left c S S' None = ItemFails s c.at left

abbrev pub Listed : List ℕ → ℕ → Cursor → Stores → Stores → Option Cursor → Type 0
Listed s left c S S' (Some d) = ReadTo 1 ListDone s left c d S S' × (d.at < length s → get_or s d.at 0 ≡ 41)
Listed s left c S S' None = ListFails s c.at left
