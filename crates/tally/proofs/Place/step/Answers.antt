-- `tally::Place::step` meets its contract: a law for each kind of token. Assumes nothing.
use native.Mathlib.Omega.{arith}
use Rattle.tally.proofs.Moves.{moved_byte, moved_other, opening_takes, moved_opening}
use Rattle.tally.proofs.Place.step.Goals as goal

pub returns-then-token-le511 : goal.returns-then-token-le511
returns-then-token-le511 c = moved_byte c.requires.underway (omega arith) (omega arith)

pub returns-else-token-le511 : goal.returns-else-token-le511
returns-else-token-le511 c = moved_other c.requires.underway (omega arith) (λ e. omega arith) (λ p l e. omega arith) (λ p l e. omega arith)

pub opening-requires : goal.opening-requires
opening-requires c = opening_takes c.requires.underway (omega arith) _ (omega arith) (omega arith) (omega arith)

pub returns-in-1-to-64 : goal.returns-in-1-to-64
returns-in-1-to-64 c = moved_opening c.requires.underway (omega arith) _ (omega arith) (omega arith) (omega arith) c.opening.ensures

pub returns-in_default : goal.returns-in_default
returns-in_default c = moved_other c.requires.underway (omega arith) (λ e. omega arith) (λ p l e. omega arith) (λ p l e. omega arith)

pub returns-in_default-2 : goal.returns-in_default-2
returns-in_default-2 c = moved_other c.requires.underway (omega arith) (λ e. omega arith) (λ p l e. omega arith) (λ p l e. omega arith)

pub returns-in_default-3 : goal.returns-in_default-3
returns-in_default-3 c = moved_other c.requires.underway (omega arith) (λ e. omega arith) (λ p l e. omega arith) (λ p l e. omega arith)
