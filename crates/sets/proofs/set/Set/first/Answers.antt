-- `sets::set::Set::first` meets its contract. Assumes nothing.
use Rattle.std.proofs.Common.{ℕ, ap, ◌∙◌, arith}
use lib.Count.{trailing_le}
use Rattle.bits.specs.Bit.{bit}
use Rattle.bits.proofs.Bits.{bit_none, bit_before, bit_first}
use Rattle.sets.specs.Members.{limit, has}
use Rattle.sets.proofs.SetLaws.{lowest_lt}
use Rattle.sets.proofs.set.Set.first.Goals as goal

pub returns-then-self-eq0 : goal.returns-then-self-eq0
unfolding has
returns-then-self-eq0 c = record {
  within = omega arith;
  below = λ q _. ap (λ (x : ℕ). bit limit x q) c.if-self-eq0.true ∙ bit_none limit q;
  here = λ h. absurd (omega arith);
}

pub returns : goal.returns
unfolding has
returns c =
    let x = c.args.self.bits in
    let low = lowest_lt x (omega arith) (omega arith) in
    (low, record { within = trailing_le 64 x; below = bit_before 64 x; here = bit_first 64 x })
