-- Byte tokens: which they are, how many a row has, and what they leave where its marks are erased.
use Rattle.std.specs.Prelude.{◌≡◌, refl, Bool, true, false, ◌||◌, cond, List, [], ◌∷◌, ◌++◌, ℕ, ◌+◌, ◌-◌, ◌≤◌, ◌<◌, ltb, length}
use Rattle.std.proofs.Common.{sym, arith, zero-add, le-leb, lt-ltb, ltb-true, ltb-false}
use Rattle.std.proofs.lemmas.Bool.{lt-leb}
use Rattle.meaning.specs.Grammar.{Bytes, byte}
use Rattle.meaning.specs.Tree.{erase}
use Rattle.meaning.specs.Turns.{is_byte, some_token, bytes_in}
use Rattle.bits.specs.Tally.{one}

-- which tokens are byte tokens
pub below_bytes : (t : ℕ) → t < 256 → is_byte t ≡ false
below_bytes t l = rw (lt-leb 256 t l)

pub above_bytes : (t : ℕ) → 511 < t → is_byte t ≡ false
above_bytes t l = rw (le-leb 256 t (omega arith), lt-leb t 511 l)

pub a_byte : (t : ℕ) → 256 ≤ t → t ≤ 511 → is_byte t ≡ true
a_byte t l l' = rw (le-leb 256 t l, le-leb t 511 l')

-- a row has a byte token exactly if it has more than none
pub some_bytes : (row : List ℕ) → some_token is_byte row ≡ ltb 0 (bytes_in row)
unfolding some_token bytes_in
some_bytes [] = refl
some_bytes (t ∷ row) = go (is_byte t) (some_bytes row)
  where
    go : (c : Bool) → some_token is_byte row ≡ ltb 0 (bytes_in row) → (c || some_token is_byte row) ≡ ltb 0 (one c + bytes_in row)
    go true e = sym (lt-ltb 0 (1 + bytes_in row) (omega arith))
    go false e = rw (zero-add (bytes_in row)) e

pub bytes_in_append : (a b : List ℕ) → bytes_in (a ++ b) ≡ bytes_in a + bytes_in b
unfolding bytes_in
bytes_in_append [] b = sym (zero-add (bytes_in b))
bytes_in_append (t ∷ a) b = omega (arith, bytes_in_append a b)

at_most_one : (c : Bool) → one c ≤ 1
at_most_one true = omega arith
at_most_one false = omega arith

-- a byte token leaves a byte where the marks are erased; where the text is of bytes, nothing else does
pub bytes_erased : (row : List ℕ) → bytes_in row ≤ length (erase row)
unfolding bytes_in erase
bytes_erased [] = omega arith
bytes_erased (t ∷ row) = go (ltb t 256) refl (bytes_erased row)
  where
    go : (c : Bool) → ltb t 256 ≡ c → bytes_in row ≤ length (erase row) → one (is_byte t) + bytes_in row ≤ length (cond c (erase row) ((t - 256) ∷ erase row))
    go true e l = rw (below_bytes t (ltb-true t 256 e)) (omega arith)
    go false e l = omega (arith, at_most_one (is_byte t))

pub bytes_exact : (row : List ℕ) → Bytes (erase row) → bytes_in row ≡ length (erase row)
unfolding bytes_in erase
bytes_exact [] b = refl
bytes_exact (t ∷ row) b = go (ltb t 256) refl (bytes_exact row) b
  where
    go : (c : Bool) → ltb t 256 ≡ c → (Bytes (erase row) → bytes_in row ≡ length (erase row)) → Bytes (cond c (erase row) ((t - 256) ∷ erase row))
        → one (is_byte t) + bytes_in row ≡ length (cond c (erase row) ((t - 256) ∷ erase row))
    go true e f b = rw (below_bytes t (ltb-true t 256 e)) (omega (arith, f b))
    go false e f (byte l b) =
        let low = ltb-false t 256 e in
        rw (a_byte t low (omega arith)) (omega (arith, f b))
