-- A word of w digits as a test of numbers, `bit w x p`, under the operations that code has on words. Every law is over the width w. Assumes nothing.
use mathlib.Core.Path.{◌≡◌, refl, sym, ap, ◌∙◌}
use mathlib.Core.Bool.{Bool, true, false, ◌&&◌, ◌||◌, not, and-or_distrib_left, and-false, and_assoc, true≢false}
use Prim.Native.Nat.{ℕ, ◌-◌, ◌*◌, ◌/◌, ◌%◌, ◌^◌, ◌<◌}
use native.Mathlib.Nat.{mod-lt, mod-eq_of_lt, one-mul}
use native.Mathlib.Omega.{arith}
use lib.Dec.{eqb, ltb}
use lib.Bits.{bit_and, bit_or}
use lib.Pow.{pow-lt, pow_pos}
use lib.Count.{count_trailing_zeros}
use borrow.Author.Tests.{eqb-true, eq-eqb, ne_eqb, ltb-true, lt-ltb}
use Rattle.bits.specs.Bit.{digit, bit}
use Rattle.meaning.specs.ReadPattern.{binary}
use Rattle.bits.specs.Tally.{any}
use Rattle.bits.specs.Truth.{both}
use Rattle.bits.proofs.Tallies.{Agree, any_none, any_some}
use Rattle.bits.proofs.Digit.{digit_or, digit_and, digit_none, digit_one, digit_not, trailing_below, trailing_at, digit_drop}
use Rattle.bits.proofs.Numbers.{number, digit_binary}

-- ---- below the width, and past it

pub bit_within : (w x p : ℕ) → p < w → bit w x p ≡ digit x p
unfolding bit
bit_within w x p l = ap (λ (t : Bool). t && digit x p) (lt-ltb p w l)

pub bit_lt : (w x p : ℕ) → bit w x p ≡ true → p < w
unfolding bit
bit_lt w x p e = ltb-true p w (both (ltb p w) (digit x p) e).0

-- ---- a word is settled by its binary

pub bit_number : (w x : ℕ) (f : ℕ → Bool) → x < 2 ^ w → Agree (bit w x) f w → x ≡ binary w f
bit_number w x f h e = number w x f h (λ p l. sym (bit_within w x p l) ∙ e p l)

pub bit_binary : (w : ℕ) (f : ℕ → Bool) (p : ℕ) → p < w → bit w (binary w f) p ≡ f p
bit_binary w f p l = bit_within w (binary w f) p l ∙ digit_binary w f p l

pub bit_same : (w x y : ℕ) → x < 2 ^ w → y < 2 ^ w → Agree (bit w x) (bit w y) w → x ≡ y
bit_same w x y h l e = bit_number w x (bit w y) h e ∙ sym (bit_number w y (bit w y) l (λ p _. refl))

-- ---- `0`, `x == 0`, `(x >> p) % 2 == 1`

pub bit_none : (w p : ℕ) → bit w 0 p ≡ false
unfolding bit
bit_none w p = ap (λ (b : Bool). ltb p w && b) (digit_none p) ∙ and-false (ltb p w)

pub bit_empty : (w x : ℕ) → x < 2 ^ w → eqb x 0 ≡ not (any (bit w x) w)
bit_empty w x h = go (any (bit w x) w) refl
  where
    go : (t : Bool) → any (bit w x) w ≡ t → eqb x 0 ≡ not t
    go true e = let s = any_some (bit w x) w e in ne_eqb x 0 (λ z. true≢false (sym s.2 ∙ ap (λ (n : ℕ). bit w n s.0) z ∙ bit_none w s.0))
    go false e = eq-eqb x 0 (bit_same w x 0 h (pow_pos w) (λ p l. any_none (bit w x) w e p l ∙ sym (bit_none w p)))

pub bit_has : (w x p : ℕ) → p < w → eqb (x / 2 ^ p % 2) 1 ≡ bit w x p
unfolding digit
bit_has w x p l = sym (bit_within w x p l)

-- ---- `x | y`, `x & y`, `x & !y`

pub bit_or_lem : (w x y p : ℕ) → bit w (bit_or x y) p ≡ (bit w x p || bit w y p)
unfolding bit
bit_or_lem w x y p = ap (λ (b : Bool). ltb p w && b) (digit_or x y p) ∙ and-or_distrib_left (ltb p w) (digit x p) (digit y p)

pub bit_and_lem : (w x y p : ℕ) → bit w (bit_and x y) p ≡ (bit w x p && bit w y p)
unfolding bit
bit_and_lem w x y p = ap (λ (b : Bool). ltb p w && b) (digit_and x y p) ∙ both (ltb p w) (digit x p) (digit y p)
  where
    both : (t a b : Bool) → (t && (a && b)) ≡ ((t && a) && (t && b))
    both true a b = refl
    both false a b = refl

pub bit_minus : (w x y p : ℕ) → y < 2 ^ w → bit w (bit_and x ((2 ^ w - 1) - y)) p ≡ (bit w x p && not (bit w y p))
unfolding bit
bit_minus w x y p h = bit_and_lem w x ((2 ^ w - 1) - y) p ∙ under (ltb p w) refl
  where
    under : (t : Bool) → ltb p w ≡ t → ((t && digit x p) && (t && digit ((2 ^ w - 1) - y) p)) ≡ ((t && digit x p) && not (t && digit y p))
    under true e = ap (λ (b : Bool). digit x p && b) (digit_not w y p h (ltb-true p w e))
    under false e = refl

-- ---- `1 << p` as the machine has it, `x | 1 << p`, `x & !(1 << p)`

pub bit_shl : (w p q : ℕ) → p < w → bit w (1 * 2 ^ p % 2 ^ w) q ≡ eqb q p
unfolding bit
bit_shl w p q l =
    ap (λ (n : ℕ). ltb q w && digit n q) (mod-eq_of_lt (omega (arith, pow-lt l)) ∙ one-mul (2 ^ p)) ∙ ap (λ (b : Bool). ltb q w && b) (digit_one p q)
    ∙ within (eqb q p) refl
  where
    within : (t : Bool) → eqb q p ≡ t → (ltb q w && t) ≡ t
    within true e = ap (λ (b : Bool). b && true) (lt-ltb q w (rw (eqb-true q p e) l))
    within false e = and-false (ltb q w)

pub bit_with : (w x p q : ℕ) → p < w → bit w (bit_or x (1 * 2 ^ p % 2 ^ w)) q ≡ (bit w x q || eqb q p)
bit_with w x p q l = bit_or_lem w x (1 * 2 ^ p % 2 ^ w) q ∙ ap (λ (b : Bool). bit w x q || b) (bit_shl w p q l)

pub bit_without : (w x p q : ℕ) → p < w → bit w (bit_and x ((2 ^ w - 1) - 1 * 2 ^ p % 2 ^ w)) q ≡ (bit w x q && not (eqb q p))
bit_without w x p q l = bit_minus w x (1 * 2 ^ p % 2 ^ w) q (mod-lt _ (pow_pos w)) ∙ ap (λ (b : Bool). bit w x q && not b) (bit_shl w p q l)

-- ---- `trailing_zeros` and `x & (x - 1)`

pub bit_before : (w x q : ℕ) → q < count_trailing_zeros w x → bit w x q ≡ false
unfolding bit
bit_before w x q l = ap (λ (b : Bool). ltb q w && b) (trailing_below w x q l) ∙ and-false (ltb q w)

pub bit_first : (w x : ℕ) → count_trailing_zeros w x < w → bit w x (count_trailing_zeros w x) ≡ true
bit_first w x l = bit_within w x (count_trailing_zeros w x) l ∙ trailing_at w x l

pub bit_drop : (w x q : ℕ) → 0 < x → x < 2 ^ w → bit w (bit_and x (x - 1)) q ≡ (bit w x q && not (eqb q (count_trailing_zeros w x)))
unfolding bit
bit_drop w x q h l = ap (λ (b : Bool). ltb q w && b) (digit_drop w x q h l) ∙ sym (and_assoc (ltb q w) (digit x q) (not (eqb q (count_trailing_zeros w x))))
