-- Rows in the room for a tree and in the pool: what stands there, what is copied, what is left as it was. Assumes nothing: these are definitions.
use Rattle.std.specs.Prelude.{◌≡◌, List, ℕ, ◌+◌, ◌≤◌, ◌<◌, length, get_or}

-- the row r stands in t from `from` on, as far as t goes
abbrev pub Shows : List ℕ → ℕ → List ℕ → Type 0
Shows t from r = (i : ℕ) → i < length r → from + i < length t → get_or t (from + i) 0 ≡ get_or r i 0

-- t' is as long as t, with the same tokens before c
pub record Below (t t' : List ℕ) (c : ℕ) : Type 0 where
  pub same_length : length t' ≡ length t
  pub same : (i : ℕ) → i < c → get_or t' i 0 ≡ get_or t i 0

-- the same from c on
pub record Beyond (t t' : List ℕ) (c : ℕ) : Type 0 where
  pub same_length : length t' ≡ length t
  pub same : (i : ℕ) → c ≤ i → get_or t' i 0 ≡ get_or t i 0

-- the `long` tokens that stand in the pool from `from` on are copied to `new`, as far as they fit, and the next `spare` tokens may be spoilt
pub record Laid (pool t t' : List ℕ) (from long new spare : ℕ) : Type 0 where
  pub below : Below t t' new
  pub copied : (i : ℕ) → i < long → new + i < length t → get_or t' (new + i) 0 ≡ get_or pool (from + i) 0
  pub beyond : Beyond t t' (new + long + spare)
