-- `sign` meets its contract. Assumes nothing.
use Rattle.std.proofs.Common.{arith, ◌∙◌, sym}
use Rattle.grammar.specs.ByteTests.{no_sign}
use Rattle.pattern.specs.Parts.{star_at, plus_at, opt_at, none_at}
use Rattle.pattern.proofs.Signs.{no_byte}
use Rattle.pattern.proofs.parts.sign.Goals as goal

pub returns-in_err-get : goal.returns-in_err-get
returns-in_err-get c = rw c.from_residual.ensures (none_at (λ l f s. omega (arith, no_byte c.in_err-get.ensures.lookup.0)))

pub returns-in-42 : goal.returns-in-42
returns-in-42 c = let b = c.in_ok-get.ensures.lookup.3 in star_at (record { inside = b.0; is = sym (b.1 0) ∙ c.in-42.is })

pub returns-in-43 : goal.returns-in-43
returns-in-43 c = let b = c.in_ok-get.ensures.lookup.3 in plus_at (record { inside = b.0; is = sym (b.1 0) ∙ c.in-43.is })

pub returns-in-63 : goal.returns-in-63
returns-in-63 c = let b = c.in_ok-get.ensures.lookup.3 in opt_at (record { inside = b.0; is = sym (b.1 0) ∙ c.in-63.is })

pub returns-in_default : goal.returns-in_default
returns-in_default c =
    let b = c.in_ok-get.ensures.lookup.3.1 0 in
    none_at (λ l. no_sign (λ e. omega arith) (λ e. omega arith) (λ e. omega arith))
