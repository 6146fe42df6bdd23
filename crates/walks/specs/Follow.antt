-- Which positions may follow a position, and which may be the last, filled from the root down. Assumes nothing: these are definitions.
use Rattle.std.specs.Prelude.{◌≡◌, Bool, cond, ◌&&◌, ◌||◌, List, ℕ, ◌+◌, eqb}
use Rattle.meaning.specs.Expression.{Re, size}
use Rattle.grammar.specs.Holds.{Holds}
use Rattle.positions.specs.Sets.{follows_in, ends_in}
use Rattle.sets.specs.declared.set.Set.{Set}
use Rattle.sets.specs.Members.{has, row, rows}
use Rattle.walks.specs.Tables.{Filled}

-- whether a position may come after the left part of a node of kind k, or its only part: f tells whether the right part or the only one may
-- begin with it, n whether the right part may be passed, a whether it may come after the node
unfoldable pub next_of : ℕ → Bool → Bool → Bool → Bool
next_of k f n a = cond (eqb k 2) (f || (n && a)) (cond (eqb k 5 || eqb k 6) (f || a) a)

-- the same of the end of the text, after the left part
unfoldable pub last_of : ℕ → Bool → Bool → Bool
last_of k n b = cond (eqb k 3) b (n && b)

-- s has the positions that may follow position j of e, after which the set `after` may come
pub record FollowAt (p : ℕ) (e : Re) (after : Set) (j : ℕ) (s : Set) : Type 0 where
  pub has_follows : (q : ℕ) → has s q ≡ follows_in p e (has after q) j q

-- the rows of the positions of node i are filled, and r is `ends` and those that may be the last
pub record FollowsAt (ks gs : List ℕ) (i : ℕ) (after : Set) (end : Bool) (t t' : List Set) (ends r : Set) : Type 0 where
  pub filled : (e : Re) (m p : ℕ) → Holds ks gs m p i e → Filled rows row (FollowAt p e after) p (p + size e) t t'
  pub ended : (e : Re) (m p : ℕ) → Holds ks gs m p i e → (j : ℕ) → has r j ≡ (has ends j || ends_in p e end j)
