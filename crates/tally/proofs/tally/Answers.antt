-- `tally::tally` meets its contract. Assumes nothing.
use mathlib.Core.Path.{refl}
use native.Mathlib.Omega.{arith}
use borrow.Author.Rules.{rules}
use Rattle.tally.proofs.Steps.{behind_end}
use Rattle.tally.proofs.tally.Goals as goal

pub loop-place-init : goal.loop-place-init
loop-place-init c = (omega arith, refl, search rules, behind_end c.args.row.now _ _ refl)

pub step-place-requires-clause-underway : goal.step-place-requires-clause-underway
step-place-requires-clause-underway c =
    let l = c.loop-place in
    record {
      f₀ = _;
      holds = c.requires;
      inside = l.invariant.0;
      behind = l.invariant.3;
      wide_closed = omega arith;
      wide_figures = omega arith;
    }
