-- The digits of a number, `digit x p`, under the operations that code has on words. Every law is over the width k. Assumes nothing.
use mathlib.Core.Path.{◌≡◌, refl, sym, ap, ap₂, ◌∙◌}
use mathlib.Core.Bool.{Bool, true, false, ◌&&◌, ◌||◌, not, and-true}
use Prim.Native.Nat.{ℕ, zero, suc, ◌-◌, ◌*◌, ◌/◌, ◌%◌, ◌^◌, ◌<◌, min, max, suc-le-suc, zero-le}
use native.Mathlib.Nat.{div-one, zero-div, pow-suc, not-suc-le-zero, le_of_suc-le-suc, mul-div_cancel, mul-mod_left}
use native.Mathlib.Numerals.{one-add}
use native.Mathlib.Omega.{arith}
use lib.Dec.{eqb, eqb-suc-suc, eqb-zero-suc, eqb-suc-zero}
use lib.Arith.{digits_mod}
use lib.Pow.{shr-shr}
use lib.Bits.{bit_and, bit_or, or_shr, and_shr, or_step, and_step, and_self}
use lib.Count.{count_trailing_zeros, under}
use Rattle.bits.specs.Bit.{digit}

-- ---- a digit is 0 or 1

pub parity : (P : ℕ → Type 0) → P 0 → P 1 → (x : ℕ) → P (x % 2)
parity P z o x = go (x % 2) (omega arith)
  where
    go : (d : ℕ) → d < 2 → P d
    go zero h = z
    go (suc zero) h = o
    go (suc (suc d)) h = absurd (omega arith)

parity₂ : (P : ℕ → ℕ → Type 0) → P 0 0 → P 0 1 → P 1 0 → P 1 1 → (x y : ℕ) → P (x % 2) (y % 2)
parity₂ P a b c d x y = parity (λ m. P m (y % 2)) (parity (λ n. P 0 n) a b y) (parity (λ n. P 1 n) c d y) x

-- ---- the lowest digit, and the rest

pub digit_low : (x : ℕ) → digit x 0 ≡ eqb (x % 2) 1
unfolding digit
digit_low x = ap (λ (n : ℕ). eqb (n % 2) 1) (div-one x)

pub digit_next : (x p : ℕ) → digit x (suc p) ≡ digit (x / 2) p
unfolding digit
digit_next x p = ap (λ (n : ℕ). eqb (n % 2) 1) (sym (shr-shr x 1 p ∙ ap (λ (n : ℕ). x / 2 ^ n) (one-add p)))

pub half_lt : (k x : ℕ) → x < 2 ^ suc k → x / 2 < 2 ^ k
half_lt k x h = let l : x < 2 ^ k * 2 = rw pow-suc at h in omega arith

-- ---- `x | y`, `x & y`

-- an operation digit by digit, from what it does to the lowest
digit_by : (op : ℕ → ℕ → ℕ) (b : Bool → Bool → Bool) → ((x y p : ℕ) → op x y / 2 ^ p ≡ op (x / 2 ^ p) (y / 2 ^ p))
    → ((x y : ℕ) → eqb (op x y % 2) 1 ≡ b (eqb (x % 2) 1) (eqb (y % 2) 1)) → (x y p : ℕ) → digit (op x y) p ≡ b (digit x p) (digit y p)
unfolding digit
digit_by op b shr low x y p = ap (λ (n : ℕ). eqb (n % 2) 1) (shr x y p) ∙ low (x / 2 ^ p) (y / 2 ^ p)

pub digit_or : (x y p : ℕ) → digit (bit_or x y) p ≡ (digit x p || digit y p)
digit_or =
    digit_by bit_or (λ a b. a || b) or_shr
    (λ x y. ap (λ (n : ℕ). eqb (n % 2) 1) (or_step x y) ∙ ap (λ (n : ℕ). eqb n 1) (digits_mod (bit_or (x / 2) (y / 2)) (omega arith))
    ∙ parity₂ (λ m n. eqb (max m n) 1 ≡ (eqb m 1 || eqb n 1)) refl refl refl refl x y)

pub digit_and : (x y p : ℕ) → digit (bit_and x y) p ≡ (digit x p && digit y p)
digit_and =
    digit_by bit_and (λ a b. a && b) and_shr
    (λ x y. ap (λ (n : ℕ). eqb (n % 2) 1) (and_step x y) ∙ ap (λ (n : ℕ). eqb n 1) (digits_mod (bit_and (x / 2) (y / 2)) (omega arith))
    ∙ parity₂ (λ m n. eqb (min m n) 1 ≡ (eqb m 1 && eqb n 1)) refl refl refl refl x y)

-- ---- no digit, and one

pub digit_none : (p : ℕ) → digit 0 p ≡ false
unfolding digit
digit_none p = ap (λ (n : ℕ). eqb (n % 2) 1) (zero-div (2 ^ p))

pub digit_one : (p q : ℕ) → digit (2 ^ p) q ≡ eqb q p
digit_one zero zero = digit_low 1
digit_one zero (suc q) = digit_next 1 q ∙ digit_none q ∙ sym (eqb-suc-zero q)
digit_one (suc p) zero =
    digit_low (2 ^ suc p) ∙ ap (λ (n : ℕ). eqb (n % 2) 1) (pow-suc 2 p) ∙ ap (λ (n : ℕ). eqb n 1) (mul-mod_left (2 ^ p) 2) ∙ sym (eqb-zero-suc p)
digit_one (suc p) (suc q) =
    digit_next (2 ^ suc p) q ∙ ap (λ (n : ℕ). digit (n / 2) q) (pow-suc 2 p) ∙ ap (λ (n : ℕ). digit n q) (mul-div_cancel (2 ^ p) (suc-le-suc zero-le))
    ∙ digit_one p q ∙ sym (eqb-suc-suc q p)

-- ---- `!x` of a width k

pub digit_not : (k x p : ℕ) → x < 2 ^ k → p < k → digit ((2 ^ k - 1) - x) p ≡ not (digit x p)
digit_not zero x p h l = absurd (not-suc-le-zero l)
digit_not (suc k) x zero h l =
    let hp : x < 2 ^ k * 2 = rw pow-suc at h in
    let e : ((2 ^ k * 2 - 1) - x) % 2 ≡ 1 - x % 2 = omega arith in
    digit_low ((2 ^ suc k - 1) - x) ∙ ap (λ (n : ℕ). eqb (((n - 1) - x) % 2) 1) (pow-suc 2 k) ∙ ap (λ (n : ℕ). eqb n 1) e
    ∙ parity (λ d. eqb (1 - d) 1 ≡ not (eqb d 1)) refl refl x ∙ ap not (sym (digit_low x))
digit_not (suc k) x (suc p) h l =
    let hp : x < 2 ^ k * 2 = rw pow-suc at h in
    let e : ((2 ^ k * 2 - 1) - x) / 2 ≡ (2 ^ k - 1) - x / 2 = omega arith in
    digit_next ((2 ^ suc k - 1) - x) p ∙ ap (λ (n : ℕ). digit (((n - 1) - x) / 2) p) (pow-suc 2 k) ∙ ap (λ (n : ℕ). digit n p) e
    ∙ digit_not k (x / 2) p (half_lt k x h) (le_of_suc-le-suc l) ∙ ap not (sym (digit_next x p))

-- ---- the lowest digit that is set

under_cases : (P : ℕ → Type 0) (x t : ℕ) → (x % 2 ≡ 0 → P (suc t)) → (x % 2 ≡ 1 → P 0) → P (under (x % 2) t)
under_cases P x t f g = parity (λ d. x % 2 ≡ d → P (under d t)) f g x refl

pub trailing_below : (k x q : ℕ) → q < count_trailing_zeros k x → digit x q ≡ false
unfolding count_trailing_zeros
trailing_below zero x q h = absurd (not-suc-le-zero h)
trailing_below (suc k) x zero h =
    under_cases (λ (n : ℕ). 0 < n → digit x 0 ≡ false) x (count_trailing_zeros k (x / 2)) (λ e _. digit_low x ∙ ap (λ (n : ℕ). eqb n 1) e)
    (λ _ l. absurd (not-suc-le-zero l)) h
trailing_below (suc k) x (suc q) h =
    under_cases (λ (n : ℕ). suc q < n → digit x (suc q) ≡ false) x (count_trailing_zeros k (x / 2))
    (λ _ l. digit_next x q ∙ trailing_below k (x / 2) q (le_of_suc-le-suc l)) (λ _ l. absurd (not-suc-le-zero l)) h

pub trailing_at : (k x : ℕ) → count_trailing_zeros k x < k → digit x (count_trailing_zeros k x) ≡ true
unfolding count_trailing_zeros
trailing_at zero x h = absurd (not-suc-le-zero h)
trailing_at (suc k) x h =
    under_cases (λ (n : ℕ). n < suc k → digit x n ≡ true) x (count_trailing_zeros k (x / 2))
    (λ _ l. digit_next x (count_trailing_zeros k (x / 2)) ∙ trailing_at k (x / 2) (le_of_suc-le-suc l)) (λ e _. digit_low x ∙ ap (λ (n : ℕ). eqb n 1) e) h

-- ---- `x & (x - 1)`: the lowest digit that is set goes

pub digit_drop : (k x q : ℕ) → 0 < x → x < 2 ^ k → digit (bit_and x (x - 1)) q ≡ (digit x q && not (eqb q (count_trailing_zeros k x)))
unfolding count_trailing_zeros
digit_drop zero x q h l = absurd (omega arith)
digit_drop (suc k) x q h l =
    under_cases (λ (n : ℕ). digit (bit_and x (x - 1)) q ≡ (digit x q && not (eqb q n))) x (count_trailing_zeros k (x / 2))
    (even (λ q h. digit_drop k (x / 2) q h (half_lt k x l)) q) (odd q)
  where
    -- the digits above the lowest
    rest : (y q : ℕ) → (x - 1) / 2 ≡ y → digit (bit_and x (x - 1)) (suc q) ≡ digit (bit_and (x / 2) y) q
    rest y q e = digit_next (bit_and x (x - 1)) q ∙ ap (λ (n : ℕ). digit n q) (and_shr x (x - 1) 1 ∙ ap (λ (n : ℕ). bit_and (x / 2) n) e)

    Less : Type 0
    Less = (q : ℕ) → 0 < x / 2 → digit (bit_and (x / 2) (x / 2 - 1)) q ≡ (digit (x / 2) q && not (eqb q (count_trailing_zeros k (x / 2))))

    even : Less → (q : ℕ) → x % 2 ≡ 0 → digit (bit_and x (x - 1)) q ≡ (digit x q && not (eqb q (suc (count_trailing_zeros k (x / 2)))))
    even ih zero e =
        let z : digit x 0 ≡ false = digit_low x ∙ ap (λ (n : ℕ). eqb n 1) e in
        digit_and x (x - 1) 0 ∙ ap (λ (b : Bool). b && digit (x - 1) 0) z ∙ sym (ap (λ (b : Bool). b && not (eqb 0 (suc (count_trailing_zeros k (x / 2))))) z)
    even ih (suc q) e =
        rest (x / 2 - 1) q (omega arith) ∙ ih q (omega arith)
        ∙ ap₂ (λ (a b : Bool). a && not b) (sym (digit_next x q)) (sym (eqb-suc-suc q (count_trailing_zeros k (x / 2))))

    odd : (q : ℕ) → x % 2 ≡ 1 → digit (bit_and x (x - 1)) q ≡ (digit x q && not (eqb q 0))
    odd zero e =
        let even_less : (x - 1) % 2 ≡ 0 = omega arith in
        digit_and x (x - 1) 0 ∙ ap (λ (b : Bool). digit x 0 && b) (digit_low (x - 1) ∙ ap (λ (n : ℕ). eqb n 1) even_less)
    odd (suc q) e =
        rest (x / 2) q (omega arith) ∙ ap (λ (n : ℕ). digit n q) (and_self (x / 2)) ∙ sym (and-true (digit (x / 2) q))
        ∙ ap₂ (λ (a b : Bool). a && not b) (sym (digit_next x q)) (sym (eqb-suc-zero q))
