-- What the passes over a text compute from tables of sets: row b of `mask` has the positions that read byte b, row q of `follow` those that
-- may come after q, row q of `pre` those that may come before q. Assumes nothing: these are definitions.
use Rattle.std.specs.Prelude.{◌≡◌, Bool, false, ◌&&◌, ◌||◌, cond, List, [], ◌∷◌, ℕ, suc, ◌≤◌, ◌<◌, eqb, ltb, length, drop, replicate, get_or}
use Rattle.bits.specs.Tally.{any}
use Rattle.sets.specs.declared.set.Set.{Set}
use Rattle.sets.specs.Members.{has, limit, none, row, rows}
use Rattle.positions.specs.Alive.{ended}
use Rattle.passes.specs.declared.backward.Recent.{Recent}

-- q is in the row of a position of s: by `follow` it may come after one, by `pre` before one
unfoldable pub joined : List Set → (ℕ → Bool) → ℕ → Bool
joined table s q = any (λ p. s p && has (row table p) q) limit

-- a position of g may come after q, or, if b, the end
unfoldable pub onward : List Set → Set → ℕ → (ℕ → Bool) → Bool → Bool
onward follow ends q g b = any (λ p. has (row follow q) p && g p) limit || (b && has ends q)

-- the positions that can read the first byte of a text and then the rest of it to the end
unfoldable pub living : List Set → List Set → Set → List ℕ → ℕ → Bool
living mask follow ends [] q = false
living mask follow ends (c ∷ s) q = has (row mask c) q && onward follow ends q (living mask follow ends s) (ended s)

-- the cells hold those for each rest of the text
pub record Backed (mask follow : List Set) (ends : Set) (text : List ℕ) (l m : List Set) : Type 0 where
  pub same_rows : rows m ≡ rows l
  pub here : (i q : ℕ) → i ≤ length text → has (row m i) q ≡ living mask follow ends (drop i text) q
  pub past : (i : ℕ) → length text < i → row m i ≡ row l i

-- the positions of g that read byte c
abbrev pub readers : List Set → (ℕ → Bool) → ℕ → ℕ → Bool
readers mask g c q = g q && has (row mask c) q

-- how many bytes of a text can be read one after another, the first at a position of g
unfoldable pub readable : List Set → List Set → (ℕ → Bool) → List ℕ → ℕ
readable mask follow g [] = 0
readable mask follow g (c ∷ s) = cond (any (readers mask g c) limit) (suc (readable mask follow (joined follow (readers mask g c)) s)) 0

-- ---- steps back

-- position k joined the row of each member of s
pub record Listed (s : Set) (k : ℕ) (l m : List Set) : Type 0 where
  pub same_rows : rows m ≡ rows l
  pub joins : (p q : ℕ) → has (row m p) q ≡ (has (row l p) q || (has s p && eqb q k))

-- each position below n joined the rows of those that may come after it
pub record Reversed (follow : List Set) (n : ℕ) (l m : List Set) : Type 0 where
  pub same_rows : rows m ≡ rows l
  pub joins : (p q : ℕ) → has (row m p) q ≡ (has (row l p) q || (ltb q n && has (row follow q) p))

-- row q of `pre` has those that may come before q, by `follow`
abbrev pub Preceding : List Set → List Set → Type 0
Preceding follow pre = Reversed follow limit (replicate limit none) pre

-- the positions that read byte b and may come before a position of s
abbrev pub leading : List Set → List Set → ℕ → (ℕ → Bool) → ℕ → Bool
leading mask pre b s q = has (row mask b) q && joined pre s q

-- what was found last for byte b, and from which set
abbrev pub last_found : List Recent → ℕ → Recent
last_found memo b = get_or memo b (record { next = none; found = none })

-- what was found last for each byte leads to the set that it was found from
pub record Memo (mask pre : List Set) (memo : List Recent) : Type 0 where
  pub each_byte : 256 ≤ length memo
  pub known : (b q : ℕ) → has (last_found memo b).found q ≡ leading mask pre b (has (last_found memo b).next) q

-- r has those that lead to s over byte b, and what is kept stays right
pub record Recalled (mask pre : List Set) (b : ℕ) (s r : Set) (memo : List Recent) : Type 0 where
  pub found : (q : ℕ) → has r q ≡ leading mask pre b (has s) q
  pub kept : Memo mask pre memo
