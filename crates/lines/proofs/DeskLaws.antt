-- Digits and tokens: how each is made of the one before, and how many bytes it has. Assumes nothing.
use mathlib.Core.Path.{◌≡◌, sym}
use mathlib.Core.Bool.{Bool, true, false, cond}
use mathlib.Core.List.{List, [], ◌∷◌, ◌++◌, append-nil, append_assoc}
use Prim.Native.Nat.{ℕ, ◌+◌, ◌-◌, ◌/◌, ◌%◌, ◌^◌, ◌≤◌, ◌<◌}
use native.Mathlib.Omega.{arith}
use lib.Dec.{ltb}
use lib.ListN.{length}
use borrow.Author.Tests.{lt-ltb, le-ltb}
use Rattle.meaning.specs.Desk.{digits, token, tokens}
use Rattle.laws.specs.Digits.{digits_length, digits_enough, digits_few}

-- ---- digits

pub digits_one : (n : ℕ) → n < 10 → digits 20 n ≡ (48 + n % 10) ∷ []
unfolding digits
digits_one n h = let e : n % 10 ≡ n = omega arith in rw (lt-ltb n 10 h, e)

module _ (n : ℕ) (b : n < 2 ^ 64) where
  -- the digits but the last are nineteen at most
  nineteen : digits 20 (n / 10) ≡ digits 19 (n / 10)
  nineteen = digits_enough 18 19 (n / 10) (omega arith) (omega arith)

  pub digits_tenth : length (digits 20 (n / 10)) ≤ 19
  digits_tenth = rw nineteen (digits_length 19 (n / 10))

  pub digits_more : 10 ≤ n → digits 20 n ≡ digits 20 (n / 10) ++ ((48 + n % 10) ∷ [])
  unfolding digits
  digits_more h = rw (le-ltb n 10 h, nineteen)

-- ---- tokens

few_digits : (n : ℕ) → n < 65536 → length (digits 20 n) ≤ 5
few_digits n h = digits_few 4 n (omega arith) (omega arith)

-- a token of sixteen bits has at most seven bytes
pub token_length : (t : ℕ) → t < 65536 → length (token t) ≤ 7
unfolding token
token_length t h = go (ltb t 128) (ltb t 256)
  where
    go : (a b : Bool) → length (cond a (32 ∷ 111 ∷ digits 20 t) (cond b (32 ∷ 99 ∷ digits 20 (t - 128)) (32 ∷ 98 ∷ digits 20 (t - 256)))) ≤ 7
    go true b = omega (arith, few_digits t h)
    go false true = omega (arith, few_digits (t - 128) (omega arith))
    go false false = omega (arith, few_digits (t - 256) (omega arith))

module _ (t : ℕ) where
  pub token_opens : t < 128 → token t ≡ 32 ∷ 111 ∷ digits 20 t
  unfolding token
  token_opens h = rw (lt-ltb t 128 h)

  pub token_closes : 128 ≤ t → t < 256 → token t ≡ 32 ∷ 99 ∷ digits 20 (t - 128)
  unfolding token
  token_closes h h' = rw (le-ltb t 128 h, lt-ltb t 256 h')

  pub token_byte : 256 ≤ t → token t ≡ 32 ∷ 98 ∷ digits 20 (t - 256)
  unfolding token
  token_byte h = rw (le-ltb t 128 (omega arith), le-ltb t 256 h)

pub tokens_last : (row : List ℕ) (t : ℕ) → tokens (row ++ (t ∷ [])) ≡ tokens row ++ token t
unfolding tokens
tokens_last [] t = append-nil (token t)
tokens_last (s ∷ row) t = rw (tokens_last row t) (sym (append_assoc (token s) (tokens row) (token t)))
