-- A number of k digits is the number that has its digits. Assumes nothing.
use mathlib.Core.Path.{◌≡◌, refl, sym, ap, ◌∙◌}
use mathlib.Core.Bool.{Bool, true, false}
use Prim.Native.Nat.{ℕ, zero, suc, ◌+◌, ◌*◌, ◌/◌, ◌%◌, ◌^◌, ◌<◌}
use native.Mathlib.Nat.{not-suc-le-zero, le_of_suc-le-suc}
use native.Mathlib.Omega.{arith}
use lib.Dec.{eqb}
use lib.Arith.{lt-one}
use borrow.Author.Tests.{eq-eqb, ne_eqb}
use Rattle.bits.specs.Bit.{digit}
use Rattle.meaning.specs.ReadPattern.{binary}
use Rattle.bits.specs.Tally.{one}
use Rattle.bits.proofs.Digit.{parity, digit_low, digit_next, half_lt}
use Rattle.bits.proofs.Tallies.{Agree, agree_first, agree_rest}

lowest : (x : ℕ) → x % 2 ≡ one (digit x 0)
lowest x = parity (λ d. d ≡ one (eqb d 1)) refl refl x ∙ ap one (sym (digit_low x))

pub number : (k x : ℕ) (f : ℕ → Bool) → x < 2 ^ k → Agree (digit x) f k → x ≡ binary k f
unfolding binary
number zero x f h e = lt-one h
number (suc k) x f h e =
    let low : x % 2 ≡ one (f 0) = lowest x ∙ ap one (agree_first (digit x) f e) in
    let rest : x / 2 ≡ binary k (λ j. f (suc j)) = number k (x / 2) (λ j. f (suc j)) (half_lt k x h) (λ p l. sym (digit_next x p) ∙ agree_rest (digit x) f e p l) in
    omega arith

pub digit_binary : (k : ℕ) (f : ℕ → Bool) (p : ℕ) → p < k → digit (binary k f) p ≡ f p
unfolding binary
digit_binary zero f p l = absurd (not-suc-le-zero l)
digit_binary (suc k) f zero l = digit_low (binary (suc k) f) ∙ low (f 0) (binary k (λ j. f (suc j)))
  where
    low : (b : Bool) (d : ℕ) → eqb ((one b + 2 * d) % 2) 1 ≡ b
    low true d = eq-eqb ((1 + 2 * d) % 2) 1 (omega arith)
    low false d = ne_eqb ((0 + 2 * d) % 2) 1 (λ e. omega arith)
digit_binary (suc k) f (suc p) l =
    digit_next (binary (suc k) f) p ∙ ap (λ (n : ℕ). digit n p) (rest (f 0) (binary k (λ j. f (suc j))))
    ∙ digit_binary k (λ j. f (suc j)) p (le_of_suc-le-suc l)
  where
    rest : (b : Bool) (d : ℕ) → (one b + 2 * d) / 2 ≡ d
    rest true d = omega arith
    rest false d = omega arith
