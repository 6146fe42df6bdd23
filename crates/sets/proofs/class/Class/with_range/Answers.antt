-- `sets::class::Class::with_range` meets its contract. Assumes nothing.
use mathlib.Core.Path.{◌≡◌, sym, ap, ◌∙◌}
use mathlib.Core.Bool.{Bool, ◌&&◌, ◌||◌, or-false, or_assoc}
use Prim.Native.Nat.{ℕ, ◌+◌, ◌≤◌}
use native.Mathlib.Omega.{arith}
use lib.Dec.{eqb, leb, ltb}
use Rattle.sets.specs.Classes.{among}
use Rattle.bits.proofs.Ranges.{range_more, range_end, range_none}
use Rattle.sets.proofs.class.Class.with_range.Goals as goal

-- a class has those from c on that are below c: none
first : (c q : ℕ) (s : Bool) → s ≡ (s || (leb c q && ltb q c))
first c q s = sym (ap (λ (t : Bool). s || t) (range_none c q) ∙ or-false s)

-- a class with b more, where it has those from c on that are below b
more : (c b q : ℕ) (s r w : Bool) → c ≤ b → w ≡ (r || eqb q b) → r ≡ (s || (leb c q && ltb q b)) → w ≡ (s || (leb c q && ltb q (b + 1)))
more c b q s r w l e i =
    e ∙ ap (λ (t : Bool). t || eqb q b) i ∙ or_assoc s (leb c q && ltb q b) (eqb q b) ∙ ap (λ (t : Bool). s || t) (sym (range_more c b q l))

pub returns-then-c-d : goal.returns-then-c-d
returns-then-c-d c q =
    let a = c.args in
    more a.c a.c q _ _ _ (omega arith) (c.with.ensures q) (first a.c q (among a.self q))
    ∙ ap (λ (t : Bool). among a.self q || t) (range_end a.c a.d (a.c + 1) q (omega arith) (omega arith))

pub loop-b-init : goal.loop-b-init
loop-b-init c = let a = c.args in (omega arith, λ q. first a.c q (among a.self q))

pub loop-b-preserved : goal.loop-b-preserved
loop-b-preserved c = (omega arith, λ q. more c.args.c c.loop-b.b q _ _ _ (omega arith) (c.add.ensures q) (c.loop-b.invariant.1 q))

pub returns-else-c-d : goal.returns-else-c-d
returns-else-c-d c q =
    let a = c.args in
    let l = c.loop-b in
    l.invariant.1 q ∙ ap (λ (t : Bool). among a.self q || t) (range_end a.c a.d l.b q (omega arith) l.invariant.0)

pub returns-else-c-d-2 : goal.returns-else-c-d-2
returns-else-c-d-2 c q =
    let a = c.args in
    let l = c.loop-b in
    more a.c l.b q _ _ _ (omega arith) (c.add.ensures q) (l.invariant.1 q)
    ∙ ap (λ (t : Bool). among a.self q || t) (range_end a.c a.d (l.b + 1) q (omega arith) (omega arith))
