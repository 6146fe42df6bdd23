-- Tables that are exact for an expression. Assumes nothing: these are definitions.
use Rattle.std.specs.Prelude.{◌≡◌, List, ℕ, ◌<◌}
use Rattle.meaning.specs.Expression.{Re, size}
use Rattle.sets.specs.declared.set.Set.{Set}
use Rattle.sets.specs.Members.{has, row}
use Rattle.positions.specs.Tests.{reads, ends}
use Rattle.positions.specs.Sets.{firsts, follows}

-- which positions read a byte, may follow a position, may be the last, may be the first
pub record Tables (e : Re) (mask follow : List Set) (last first : Set) : Type 0 where
  pub reading : (b q : ℕ) → b < 256 → has (row mask b) q ≡ reads 0 e q b
  pub following : (j q : ℕ) → j < size e → has (row follow j) q ≡ follows 0 e j q
  pub ending : (q : ℕ) → has last q ≡ ends 0 e q
  pub beginning : (q : ℕ) → has first q ≡ firsts 0 e q
