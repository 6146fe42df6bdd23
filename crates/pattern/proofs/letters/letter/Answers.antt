-- `letter` meets its contract: one law for each way through it. Assumes nothing.
use Rattle.std.proofs.Common.{◌≡◌, ◌∙◌, sym, arith}
use Rattle.meaning.specs.Grammar.{any}
use Rattle.grammar.specs.Contract.{atom_plain, atom_dot, atom_escaped, atom_cut, atom_stray}
use Rattle.pattern.proofs.Classes.{byte_letter, class_letter}
use Rattle.pattern.proofs.Signs.{no_byte, is_stray, plain}
use Rattle.pattern.proofs.letters.letter.Goals as goal

pub returns-in-91 : goal.returns-in-91
returns-in-91 c =
    let b = c.in-Some.ensures.lookup.3 in
    class_letter c.args.p.now c.args.at c.class.result b.0 (sym (b.1 0) ∙ c.in-91.is) c.class.ensures

pub returns-in_default-get : goal.returns-in_default-get
returns-in_default-get c =
    let b = c.in-Some.ensures.lookup.3 in
    atom_cut _ _ b.0 (sym (b.1 0) ∙ c.in-92.is) (omega (arith, b.0, no_byte c.in_default-get.ensures.lookup.0))

pub returns-in-Some-get : goal.returns-in-Some-get
returns-in-Some-get c =
    let b = c.in-Some.ensures.lookup.3 in
    let d = c.in-Some-get.ensures.lookup.3 in
    byte_letter _ _ _ (rw (d.1 0) (atom_escaped _ _ b.0 (sym (b.1 0) ∙ c.in-92.is) d.0)) c.none.ensures c.with.ensures (omega (arith, d.0))

pub returns-in-46 : goal.returns-in-46
returns-in-46 c =
    let b = c.in-Some.ensures.lookup.3 in
    record { test = any; done = atom_dot _ _ b.0 (sym (b.1 0) ∙ c.in-46.is); says = c.all.ensures; on = omega (arith, b.0) }

pub returns-then-stray : goal.returns-then-stray
returns-then-stray c =
    let b = c.in-Some.ensures.lookup.3 in
    atom_stray _ _ b.0 (rw (b.1 0) at (is_stray {b = c.in-Some.field-0.now} (c.stray.ensures ∙ c.if-stray.true)))

pub returns-in_default-b : goal.returns-in_default-b
returns-in_default-b c =
    let b = c.in-Some.ensures.lookup.3 in
    let is = b.1 0 in
    let no_group = λ (e : c.in-Some.field-0.now ≡ 40). c.requires.1 (record { inside = b.0; is = sym is ∙ e }) in
    let starts = plain (c.stray.ensures ∙ c.if-stray.false) no_group (λ e. omega arith) (λ e. omega arith) (λ e. omega arith) in
    byte_letter _ _ _ (rw is (atom_plain _ _ b.0 (rw is at starts))) c.none-in_default-b.ensures c.with-in_default-b.ensures (omega (arith, b.0))
