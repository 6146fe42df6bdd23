-- `turns::turns` meets its contract. Assumes nothing.
use mathlib.Core.Logic.{inl, inr}
use native.Mathlib.Omega.{arith}
use Rattle.meaning.specs.Promise.{no_mark}
use Rattle.turns.proofs.Counts.{left_all, left_fewer, no_more, left_none}
use Rattle.turns.proofs.turns.Goals as goal

pub returns-then-mark-lt1 : goal.returns-then-mark-lt1
returns-then-mark-lt1 c = no_mark (elim c.then-mark-lt1.either [ inl l ↦ inl (omega arith) | inr l ↦ inr l.1 ])

pub loop-token-init : goal.loop-token-init
loop-token-init c = left_all _ (cc)

pub lengthened-behind-requires-clause-few_turns : goal.lengthened-behind-requires-clause-few_turns
lengthened-behind-requires-clause-few_turns c = omega (arith, no_more c.loop-token.invariant)

pub loop-token-preserved : goal.loop-token-preserved
loop-token-preserved c = left_fewer c.loop-token.invariant _ c.in-Some.ensures.steps c.lengthened-behind.ensures

pub returns : goal.returns
returns c = left_none c.loop-token.invariant c.in-None.ensures.steps.0 (omega arith) (omega arith)
