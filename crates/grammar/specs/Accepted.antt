-- What every accepted pattern has: all that the laws of trees and of rows ask for.
use Rattle.std.specs.Prelude.{List, ℕ, ◌-◌, ◌<◌}
use Rattle.std.proofs.Common.{arith}
use Rattle.meaning.specs.Expression.{Re}
use Rattle.meaning.specs.Grammar.{Bytes}
use Rattle.meaning.specs.ReadPattern.{nodes, read_pattern}
use Rattle.meaning.specs.Promise.{Accepted}
use Rattle.grammar.specs.Bounds.{pattern_small}
use Rattle.grammar.specs.Fair.{Fair, pattern_fair}
use Rattle.grammar.specs.Open.{Open, pattern_open}
use Rattle.grammar.specs.Holds.{Holds, read_pattern_holds}

module _ {pat : List ℕ} {e : Re} (a : Accepted pat e) where
  pub accepted_fair : Fair e
  accepted_fair = pattern_fair a.denotes

  pub accepted_open : Bytes pat → Open e
  accepted_open b = pattern_open b a.denotes

  pub accepted_nodes : nodes e < 1024
  accepted_nodes = omega (arith, (pattern_small a.denotes).few_nodes, a.short)

  pub accepted_holds : Holds (read_pattern e).kind (read_pattern e).arg 0 0 (nodes e - 1) e
  accepted_holds = read_pattern_holds e (omega (arith, accepted_nodes))
