-- `sets::set::Set::is_empty` meets its contract. Assumes nothing.
use native.Mathlib.Omega.{arith}
use Rattle.sets.specs.Members.{has, vacant}
use Rattle.bits.proofs.Bits.{bit_empty}
use Rattle.sets.proofs.set.Set.is_empty.Goals as goal

pub returns : goal.returns
unfolding has vacant
returns c = bit_empty 64 c.args.self.bits (omega arith)
