-- Tables of the nodes of a read pattern. Assumes nothing: these are definitions.
use Rattle.std.specs.Prelude.{◌≡◌, Bool, cond, not, ◌&&◌, ◌||◌, List, ℕ, suc, ◌+◌, ◌-◌, ◌<◌, ◌≤◌, eqb, get_or}
use Rattle.meaning.specs.Expression.{Re, size}
use Rattle.meaning.specs.ReadPattern.{nodes}
use Rattle.grammar.specs.Holds.{Holds}
use Rattle.positions.specs.Tests.{nullable}
use Rattle.positions.specs.Sets.{firsts}
use Rattle.sets.specs.declared.set.Set.{Set}
use Rattle.sets.specs.Members.{has, limit}

-- node i holds an expression, whose positions are among those that a set can have
pub record Held (ks gs : List ℕ) (i : ℕ) : Type 0 where
  pub e : Re
  pub m : ℕ
  pub p : ℕ
  pub holds : Holds ks gs m p i e
  pub within : i < 1024
  pub few : p + size e ≤ limit

-- t' is t but for the entries from lo up to hi, hi not included, of which each is right
pub record Filled {T A : Type 0} (count : T → ℕ) (entry : T → ℕ → A) (Right : ℕ → A → Type 0) (lo hi : ℕ) (t t' : T) : Type 0 where
  pub same_count : count t' ≡ count t
  pub right : (j : ℕ) → lo ≤ j → j < hi → Right j (entry t' j)
  pub other : (j : ℕ) → (lo ≤ j → j < hi → ⊥) → entry t' j ≡ entry t j

-- the first of the nodes of e, of which i is the last
abbrev pub first_node : ℕ → Re → ℕ
first_node i e = suc i - nodes e

-- a walk of the part at node i has filled the entries of its nodes
abbrev pub Walked : {T A : Type 0} → (T → ℕ) → (T → ℕ → A) → (ℕ → A → Type 0) → List ℕ → List ℕ → ℕ → T → T → Type 0
Walked count entry Right ks gs i t t' = (e : Re) (m p : ℕ) → Holds ks gs m p i e → Filled count entry Right (first_node i e) (suc i) t t'

abbrev pub number : List ℕ → ℕ → ℕ
number t j = get_or t j 0

-- a yes is written as 1, a no as 0
abbrev pub flag : Bool → ℕ
flag b = cond b 1 0

-- read, anything but 0 is a yes
abbrev pub yes : ℕ → Bool
yes v = not (eqb v 0)

-- v says whether node i may be passed over no text, whatever it holds
abbrev pub NullAt : List ℕ → List ℕ → ℕ → ℕ → Type 0
NullAt ks gs i v = (e : Re) (m p : ℕ) → Holds ks gs m p i e → v ≡ flag (nullable e)

-- the same by the kind of a node, from what is said of its parts
unfoldable pub leaf_null : ℕ → Bool
leaf_null k = eqb k 0

unfoldable pub one_null : ℕ → Bool → Bool
one_null k x = (eqb k 5 || eqb k 7) || x

unfoldable pub two_null : ℕ → Bool → Bool → Bool
two_null k x y = cond (eqb k 2) (x && y) (x || y)

-- a table is right at the nodes up to i
abbrev pub Known : {T A : Type 0} → (T → ℕ → A) → (ℕ → A → Type 0) → T → ℕ → Type 0
Known entry Right t i = (j : ℕ) → j ≤ i → Right j (entry t j)

-- s has the positions that node i may begin with, whatever it holds
pub record FirstAt (ks gs : List ℕ) (i : ℕ) (s : Set) : Type 0 where
  pub has_firsts : (e : Re) (m p : ℕ) → Holds ks gs m p i e → (q : ℕ) → has s q ≡ firsts p e q

unfoldable pub leaf_first : ℕ → ℕ → ℕ → Bool
leaf_first k p q = eqb k 1 && eqb q p

unfoldable pub two_first : ℕ → Bool → Bool → Bool → Bool
two_first k n a b = cond (eqb k 3) (a || b) (cond n (a || b) a)

-- one past the last position of e, 0 where it has none
unfoldable pub end_of : ℕ → Re → ℕ
end_of p e = cond (eqb (size e) 0) 0 (p + size e)

-- v is that of node i, whatever it holds
abbrev pub EndAt : List ℕ → List ℕ → ℕ → ℕ → Type 0
EndAt ks gs i v = (e : Re) (m p : ℕ) → Holds ks gs m p i e → v ≡ end_of p e

unfoldable pub leaf_end : ℕ → ℕ → ℕ
leaf_end k p = cond (eqb k 1) (p + 1) 0

unfoldable pub two_end : ℕ → ℕ → ℕ
two_end x y = cond (eqb y 0) x y
