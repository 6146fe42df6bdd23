-- `class_byte` meets its contract. Assumes nothing.
use Rattle.std.proofs.Common.{◌≡◌, false, arith, rules}
use Rattle.grammar.specs.ClassContract.{bare_at, quoted_at, char_end, char_stray, char_cut}
use Rattle.meaning.specs.Grammar.{one_of, class_signs}
use Rattle.pattern.proofs.Signs.{no_byte, class_plain, class_stray}
use Rattle.pattern.proofs.letters.class_byte.Goals as goal

pub returns-in_default : goal.returns-in_default
returns-in_default c = char_end (omega (arith, no_byte c.in_default.ensures.lookup.0))

pub returns-in-91 : goal.returns-in-91
returns-in-91 c =
    let b = c.in-Some.ensures.lookup.3 in
    char_stray b.0 (class_stray (rw (b.1 0) at c.in-91.is))

pub returns-in-None : goal.returns-in-None
returns-in-None c =
    let b = c.in-Some.ensures.lookup.3 in
    char_cut (omega (arith, b.0, no_byte c.in-None.ensures.lookup.0)) (omega (arith, b.1 0))

pub returns-in-Some-get : goal.returns-in-Some-get
returns-in-Some-get c =
    let b = c.in-Some.ensures.lookup.3 in
    let d = c.in-Some-get.ensures.lookup.3 in
    (rw (d.1 0) (quoted_at d.0 (omega (arith, b.1 0))), record { on = omega arith; inside = omega (arith, d.0) })

pub returns-in_default-byte : goal.returns-in_default-byte
returns-in_default-byte c =
    let b = c.in-Some.ensures.lookup.3 in
    let plain : one_of class_signs c.in-Some.field-0.now ≡ false = class_plain {b = c.in-Some.field-0.now} (search rules) (λ e. omega arith) in
    (rw (b.1 0) (bare_at b.0 (rw (b.1 0) at plain)), record { on = omega arith; inside = omega (arith, b.0) })
