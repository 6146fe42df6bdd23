-- Words of w digits in a row, `in_words w l q`. Assumes nothing.
use mathlib.Core.Path.{◌≡◌, refl, sym, ap, ap₂, ◌∙◌}
use mathlib.Core.Bool.{Bool, true, false, ◌&&◌, ◌||◌, or-false}
use mathlib.Core.List.{List}
use Prim.Native.Nat.{ℕ, ◌+◌, ◌*◌, ◌/◌, ◌%◌, ◌^◌, ◌<◌}
use native.Mathlib.Nat.{div-add-mod', mod-lt}
use lib.Dec.{eqb}
use lib.Bits.{bit_or}
use lib.ListN.{length, get_or, set}
use lib.Seq.{get_or-set_same, get_or-set_other}
use borrow.Author.Tests.{eqb-true, eqb-false, eq-eqb}
use Rattle.bits.specs.Bit.{bit}
use Rattle.bits.specs.Words.{in_words}
use Rattle.bits.specs.Truth.{alike, both, and_both}
use Rattle.bits.proofs.Bits.{bit_or_lem, bit_shl}

-- the digits of m join word i
words_or : (w : ℕ) (l : List ℕ) (i m q : ℕ) → i < length l
    → in_words w (set l i (bit_or (get_or l i 0) m)) q ≡ (in_words w l q || (eqb (q / w) i && bit w m (q % w)))
words_or w l i m q h = here (eqb (q / w) i) refl
  where
    v : ℕ
    v = bit_or (get_or l i 0) m

    here : (t : Bool) → eqb (q / w) i ≡ t → in_words w (set l i v) q ≡ (in_words w l q || (t && bit w m (q % w)))
    here true e =
        let k : q / w ≡ i = eqb-true (q / w) i e in
        ap (λ (j : ℕ). bit w (get_or (set l i v) j 0) (q % w)) k ∙ ap (λ (x : ℕ). bit w x (q % w)) (get_or-set_same l i v 0 h)
        ∙ bit_or_lem w (get_or l i 0) m (q % w) ∙ ap (λ (j : ℕ). bit w (get_or l j 0) (q % w) || bit w m (q % w)) (sym k)
    here false e =
        ap (λ (x : ℕ). bit w x (q % w)) (get_or-set_other l i (q / w) v 0 (eqb-false (q / w) i e)) ∙ sym (or-false (in_words w l q))

-- a number is its word and its digit
parts : (w q b : ℕ) → (eqb (q / w) (b / w) && eqb (q % w) (b % w)) ≡ eqb q b
parts w q b =
    alike _ _
    (λ e. let s = both (eqb (q / w) (b / w)) (eqb (q % w) (b % w)) e in
    eq-eqb q b
    (sym (div-add-mod' q w) ∙ ap₂ (λ (m n : ℕ). m * w + n) (eqb-true (q / w) (b / w) s.0) (eqb-true (q % w) (b % w) s.1) ∙ div-add-mod' b w))
    (λ e. let h : q ≡ b = eqb-true q b e in
    and_both (eq-eqb (q / w) (b / w) (ap (λ (n : ℕ). n / w) h)) (eq-eqb (q % w) (b % w) (ap (λ (n : ℕ). n % w) h)))

-- the number b joins
pub words_with : (w : ℕ) (l : List ℕ) (b q : ℕ) → 0 < w → b / w < length l
    → in_words w (set l (b / w) (bit_or (get_or l (b / w) 0) (1 * 2 ^ (b % w) % 2 ^ w))) q ≡ (in_words w l q || eqb q b)
words_with w l b q z h =
    words_or w l (b / w) (1 * 2 ^ (b % w) % 2 ^ w) q h
    ∙ ap (λ (t : Bool). in_words w l q || t) (ap (λ (t : Bool). eqb (q / w) (b / w) && t) (bit_shl w (b % w) (q % w) (mod-lt b z)) ∙ parts w q b)
