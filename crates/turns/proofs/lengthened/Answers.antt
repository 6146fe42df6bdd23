-- `turns::lengthened` meets its contract: one law for each way that a token may go. Assumes nothing.
use mathlib.Core.Path.{◌≡◌, refl}
use mathlib.Core.Bool.{Bool, true, false, cond}
use Prim.Native.Nat.{◌+◌}
use mir.Val.{bool_byte}
use mathlib.Core.Logic.{inl, inr}
use native.Mathlib.Omega.{arith}
use Rattle.turns.proofs.Tokens.{opened, closed, byte, passed}
use Rattle.turns.proofs.lengthened.Goals as goal

pub returns-then-t-mark : goal.returns-then-t-mark
returns-then-t-mark c = λ row s. opened s (omega arith) (omega (arith, c.if-t-mark.true)) refl _ (rw c.from.ensures (go c.args.behind.counted))
  where
    go : (b : Bool) → c.args.behind.turns + bool_byte b ≡ cond b 1 0 + c.args.behind.turns
    go true = omega arith
    go false = omega arith

pub returns-then-t-mark-2 : goal.returns-then-t-mark-2
returns-then-t-mark-2 c = λ row s. closed s (omega arith)

pub returns-in-256-to-511 : goal.returns-in-256-to-511
returns-in-256-to-511 c = λ row s. byte s (omega arith) (omega arith) (omega arith)

pub returns-in_default-3 : goal.returns-in_default-3
returns-in_default-3 c = λ row s. passed s c.if-t-mark.false (λ e. c.if-t-mark-2.false (omega arith)) (inl (omega arith))

pub returns-in_default-3-2 : goal.returns-in_default-3-2
returns-in_default-3-2 c = λ row s. passed s c.if-t-mark.false (λ e. c.if-t-mark-2.false (omega arith)) (inr (omega arith))
