-- `sheet::checks::add_up` meets its contract. Assumes nothing.
use native.Mathlib.Omega.{arith}
use Rattle.meaning.specs.Night.{sum}
use Rattle.laws.specs.Sums.{sum_from, sum_end}
use Rattle.sheet.proofs.CheckLaws.{adds_not, adds_as}
use Rattle.sheet.proofs.checks.add_up.Goals as goal

pub returns-in_default : goal.returns-in_default
returns-in_default c =
    let lengths = c.args.lengths.now in
    adds_not (sum lengths) c.args.n (λ z. omega (arith, z, c.in_default.ensures, c.loop-length.invariant, sum_from lengths c.loop-length.length-index (omega arith)))

pub loop-length-preserved : goal.loop-length-preserved
loop-length-preserved c = omega (arith, c.in-Some.ensures, c.loop-length.invariant, sum_from c.args.lengths.now c.loop-length.length-index (omega arith))

pub returns : goal.returns
returns c =
    let lengths = c.args.lengths.now in
    adds_as (sum lengths) c.args.n c.loop-length.left (omega (arith, c.loop-length.invariant, sum_end lengths c.loop-length.length-index (omega arith)))
