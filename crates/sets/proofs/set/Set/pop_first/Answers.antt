-- `sets::set::Set::pop_first` meets its contract. Assumes nothing.
use Rattle.std.proofs.Common.{refl, arith}
use Rattle.sets.proofs.SetLaws.{has_bits, popped}
use Rattle.sets.proofs.set.Set.pop_first.Goals as goal

pub overflow_sub-self : goal.overflow_sub-self
overflow_sub-self c = let least = c.in_ok-p.ensures in omega (arith, has_bits _ c.in_ok-p.p (least.1.here least.0))

pub returns : goal.returns
returns c =
    let least = c.in_ok-p.ensures in
    (least.0, least.1, popped c.args.self.now _ c.in_ok-p.p (has_bits _ _ (least.1.here least.0)) (omega arith) refl least.0 least.1)
