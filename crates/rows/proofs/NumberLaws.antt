-- A number read from its digits, and a token from its bytes. Assumes nothing.
use mathlib.Core.Path.{◌≡◌, refl, ap, ◌∙◌}
use mathlib.Core.Bool.{Bool, true, false, cond}
use mathlib.Core.List.{List, [], ◌∷◌, ◌++◌, append_assoc}
use Prim.Native.Nat.{ℕ, zero, suc, ◌+◌, ◌*◌, ◌-◌, ◌/◌, ◌%◌, ◌^◌, ◌≤◌, ◌<◌}
use native.Mathlib.Nat.{pow-suc}
use native.Mathlib.Numerals.{add-one}
use native.Mathlib.Omega.{arith}
use lib.Dec.{ltb}
use lib.ListN.{length, drop, get_or, drop_of_length-le}
use lib.Seq.{drop-cons}
use borrow.Author.Tests.{lt-ltb, le-ltb, ltb-true, ltb-false}
use Rattle.std.specs.Char.{IsNotAsciiDigit}
use Rattle.std.proofs.Common.{inl, inr}
use Rattle.meaning.specs.Desk.{digits, token, tokens}
use Rattle.rows.specs.Front.{number_on, NumberIn, base}
use Rattle.lines.proofs.DeskLaws.{token_opens, token_closes, token_byte}

-- ---- one byte more

module _ (v b : ℕ) (s : List ℕ) where
  number_digit : 48 ≤ b → b ≤ 57 → number_on v (b ∷ s) ≡ number_on (v * 10 + (b - 48)) s
  unfolding number_on
  number_digit h h' = rw (le-ltb b 48 h, le-ltb 57 b h')

  number_low : b < 48 → number_on v (b ∷ s) ≡ v
  unfolding number_on
  number_low h = rw (lt-ltb b 48 h)

  number_high : 57 < b → number_on v (b ∷ s) ≡ v
  unfolding number_on
  number_high h = rw (le-ltb b 48 (omega arith), lt-ltb 57 b h)

at_least : (x y : Bool) (v w : ℕ) → v ≤ w → v ≤ cond x v (cond y v w)
at_least true y v w h = omega arith
at_least false true v w h = omega arith
at_least false false v w h = h

number_grows : (s : List ℕ) (v : ℕ) → v ≤ number_on v s
unfolding number_on
number_grows [] v = omega arith
number_grows (b ∷ s) v = at_least (ltb b 48) (ltb 57 b) v _ (omega (arith, number_grows s (v * 10 + (b - 48))))

-- ---- the loop that reads a number

-- v is read of the first i bytes
pub record Sofar (s : List ℕ) (v i : ℕ) : Type 0 where
  pub on : number_on 0 s ≡ number_on v (drop i s)
  pub small : v < 655360
  pub within : i ≤ length s

pub sofar_none : (s : List ℕ) → Sofar s 0 0
sofar_none s = record { on = refl; small = omega arith; within = omega arith }

module _ (s : List ℕ) (v i : ℕ) (p : Sofar s v i) where
  stopped : number_on v (drop i s) ≡ v → NumberIn s v
  stopped e = record { exact = λ h. omega (arith, p.on, e); small = p.small }

  pub sofar_other : i < length s → IsNotAsciiDigit (get_or s i 0) → NumberIn s v
  sofar_other h (inl l) = stopped (rw (drop-cons s i 0 h) (number_low v _ _ l))
  sofar_other h (inr l) = stopped (rw (drop-cons s i 0 h) (number_high v _ _ l))

  pub sofar_big : 65535 < v → NumberIn s v
  sofar_big h = record { exact = λ l. absurd (omega (arith, number_grows (drop i s) v, p.on)); small = p.small }

  pub sofar_end : length s ≤ i → NumberIn s v
  unfolding number_on
  sofar_end h = stopped (rw (drop_of_length-le s h))

  pub sofar_more : i < length s → 48 ≤ get_or s i 0 → get_or s i 0 ≤ 57 → v ≤ 65535 → Sofar s (v * 10 + (get_or s i 0 - 48)) (i + 1)
  sofar_more h l l' f = record {
    on = p.on ∙ (rw (add-one, drop-cons s i 0 h) (number_digit v _ _ l l'));
    small = omega arith;
    within = omega arith;
  }

-- ---- digits are read as their number

module _ (k n : ℕ) (s : List ℕ) where
  last_digit : (b : Bool) → ltb n 10 ≡ b → (10 ≤ n → number_on 0 (digits k (n / 10) ++ ((48 + n % 10) ∷ s)) ≡ number_on (n / 10) ((48 + n % 10) ∷ s))
      → number_on 0 (digits (suc k) n ++ s) ≡ number_on n s
  unfolding digits
  last_digit true e front =
      let h : n < 10 = ltb-true n 10 e in
      let z : 0 * 10 + (48 + n - 48) ≡ n = omega arith in
      rw e (number_digit 0 (48 + n) s (omega arith) (omega arith) ∙ ap (λ (v : ℕ). number_on v s) z)
  last_digit false e front =
      let z : n / 10 * 10 + (48 + n % 10 - 48) ≡ n = omega arith in
      rw (e, append_assoc (digits k (n / 10)) ((48 + n % 10) ∷ []) s)
      (front (ltb-false n 10 e) ∙ number_digit (n / 10) (48 + n % 10) s (omega arith) (omega arith) ∙ ap (λ (v : ℕ). number_on v s) z)

number_digits : (k n : ℕ) (s : List ℕ) → n < 10 ^ k → number_on 0 (digits k n ++ s) ≡ number_on n s
unfolding digits
number_digits zero n s h = let e : n ≡ 0 = omega arith in rw e
number_digits (suc k) n s h = last_digit k n s (ltb n 10) refl (λ l. number_digits k (n / 10) ((48 + n % 10) ∷ s) (omega (arith, pow-suc 10 k)))

-- ---- tokens

-- the token that s seems to begin with
abbrev pub token_in : List ℕ → ℕ
token_in s = base (get_or s 1 0) + number_on 0 (drop 2 s)

-- no digit stands first
abbrev pub Stops : List ℕ → Type 0
Stops u = (n : ℕ) → number_on n u ≡ n

pub token_front : (t : ℕ) → token t ≡ 32 ∷ drop 1 (token t)
unfolding token
token_front t = go (ltb t 128) (ltb t 256)
  where
    go : (a b : Bool) → let l = cond a (32 ∷ 111 ∷ digits 20 t) (cond b (32 ∷ 99 ∷ digits 20 (t - 128)) (32 ∷ 98 ∷ digits 20 (t - 256))) in
        l ≡ 32 ∷ drop 1 l
    go true b = refl
    go false true = refl
    go false false = refl

-- behind a token stands a space or the end
pub rest_stops : (row : List ℕ) → Stops (tokens row ++ (10 ∷ []))
unfolding tokens number_on
rest_stops [] n = refl
rest_stops (t ∷ row) n = rw (token_front t)

module _ (t : ℕ) (u : List ℕ) (h : t < 65536) (stops : Stops u) where
  lettered : (l n : ℕ) → n ≤ t → base l + n ≡ t → token t ≡ 32 ∷ l ∷ digits 20 n → token_in (token t ++ u) ≡ t
  lettered l n f z e = rw (e, number_digits 20 n u (omega arith), stops n) z

  pub token_read : token_in (token t ++ u) ≡ t
  token_read = go (ltb t 128) (ltb t 256) refl refl
    where
      go : (a b : Bool) → ltb t 128 ≡ a → ltb t 256 ≡ b → token_in (token t ++ u) ≡ t
      go true b p q = lettered 111 t (omega arith) (omega arith) (token_opens t (ltb-true t 128 p))
      go false true p q = let h = ltb-false t 128 p in lettered 99 (t - 128) (omega arith) (omega arith) (token_closes t h (ltb-true t 256 q))
      go false false p q = let h = ltb-false t 256 q in lettered 98 (t - 256) (omega arith) (omega arith) (token_byte t h)
