-- What a caller's proof may want of classes beside the contracts. Assumes nothing.
use mathlib.Core.Path.{◌≡◌, sym, ap, ◌∙◌}
use mathlib.Core.Bool.{Bool}
use mathlib.Core.List.{List, [], ◌∷◌}
use Prim.Native.Nat.{ℕ, zero, suc, ◌+◌, ◌*◌, ◌/◌, ◌%◌, ◌<◌}
use native.Mathlib.Omega.{arith}
use borrow.Author.Rules.{rules}
use lib.ListN.{length, get_or}
use Rattle.std.proofs.Math.ListN.{get_or-eq_default}
use mir.Syntax.{w64}
use mir.Val.{Val, Fits}
use denote.Laws.{Is}
use Rattle.bits.specs.Bit.{bit}
use Rattle.meaning.specs.ReadPattern.{binary}
use Rattle.sets.specs.declared.class.Class.{Class}
use Rattle.sets.specs.Classes.{among, ClassFits}
use Rattle.sets.specs.contracts.class.Class.{the_row}
use Rattle.bits.proofs.Bits.{bit_number, bit_binary}

-- a parameter's `c.good` has the premise at its place, as `c.good.0`, and a call's result has it as `c.f.ok`
pub class_fits : {k : Class} {vs : List Val} → Is the_row k vs → ClassFits k
class_fits {k} {vs} h = record { four = search rules; fits = λ i. let f : Fits w64 (get_or k.words i 0) = search rules in f.fits }

-- the words of a class that holds what f holds of
pub class_word : (k : Class) (f : ℕ → Bool) → ClassFits k → ((q : ℕ) → q < 256 → among k q ≡ f q)
    → (i : ℕ) → i < 4 → get_or k.words i 0 ≡ binary 64 (λ j. f (64 * i + j))
unfolding among
class_word k f h e i l =
    bit_number 64 (get_or k.words i 0) (λ j. f (64 * i + j)) (h.fits i)
    (λ p m.
    let w : (64 * i + p) / 64 ≡ i = omega arith in
    let d : (64 * i + p) % 64 ≡ p = omega arith in
    sym (ap (λ (j : ℕ). bit 64 (get_or k.words j 0) ((64 * i + p) % 64)) w ∙ ap (λ (j : ℕ). bit 64 (get_or k.words i 0) j) d) ∙ e (64 * i + p) (omega arith))

-- and a class with those words
pub word_class : (k : Class) (f : ℕ → Bool) → ((i : ℕ) → i < 4 → get_or k.words i 0 ≡ binary 64 (λ j. f (64 * i + j)))
    → (q : ℕ) → q < 256 → among k q ≡ f q
unfolding among
word_class k f e q l =
    let i = q / 64 in
    ap (λ (x : ℕ). bit 64 x (q % 64)) (e i (omega arith)) ∙ bit_binary 64 (λ j. f (64 * i + j)) (q % 64) (omega arith) ∙ ap f (omega arith)

-- the words of a row of four, one by one
pub four_words : (a b c d : ℕ) (l : List ℕ) → length l ≡ 4 → a ≡ get_or l 0 0 → b ≡ get_or l 1 0 → c ≡ get_or l 2 0 → d ≡ get_or l 3 0
    → (i : ℕ) → get_or (a ∷ b ∷ c ∷ d ∷ []) i 0 ≡ get_or l i 0
four_words a b c d l h e f g k zero = e
four_words a b c d l h e f g k (suc zero) = f
four_words a b c d l h e f g k (suc (suc zero)) = g
four_words a b c d l h e f g k (suc (suc (suc zero))) = k
four_words a b c d l h e f g k (suc (suc (suc (suc i)))) = sym (get_or-eq_default l 0 (omega arith))
