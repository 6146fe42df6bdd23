-- `along::walk::advance` meets its contract. Assumes nothing.
use mathlib.Core.Path.{◌≡◌, ap, ◌∙◌}
use Prim.Native.Nat.{ℕ, ◌+◌}
use native.Mathlib.Omega.{arith}
use lib.ListN.{get_or, set}
use Rattle.along.proofs.Advance.{ended_at, walk_came}
use Rattle.along.proofs.walk.advance.Goals as goal
use Rattle.along.proofs.walk.advance.Goals.{After-put-at}

-- the letter is written
written : (c : After-put-at) → c.put-at.new.tree ≡ set c.args.tree.now c.args.s.at (256 + get_or c.args.text.now c.args.s.read 0)
written c = c.put-at.ensures.1 ∙ ap (λ (b : ℕ). set c.args.tree.now c.args.s.at b) c.letter.ensures

pub returns-clause-advanced : goal.returns-clause-advanced
returns-clause-advanced c =
    let left = c.requires.advances.left in
    let put = (goal.at.returns-clause-advanced c).After-put-at in
    record {
      goes = λ e w a.
          walk_came w left a c.load-goal.ensures (ended_at c.args.text.now _ (omega (arith, left))) c.put-at.ensures.0 (written put)
          c.onward.ensures.went c.also.ensures;
    }
