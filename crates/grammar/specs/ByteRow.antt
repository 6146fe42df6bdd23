-- Rows of bytes: their parts, one behind another, one byte again and again.
use Rattle.std.specs.Prelude.{List, [], ◌∷◌, ◌++◌, ℕ, zero, suc, ◌<◌, length, get_or, take, drop, replicate}
use Rattle.std.proofs.Common.{arith, take-append-drop}
use Rattle.meaning.specs.Grammar.{Char, bare, quoted, Bytes, no_byte, byte}

pub bytes_left : (s t : List ℕ) → Bytes (s ++ t) → Bytes s
bytes_left [] t h = no_byte
bytes_left (b ∷ s) t (byte h r) = byte h (bytes_left s t r)

pub bytes_right : (s : List ℕ) {t : List ℕ} → Bytes (s ++ t) → Bytes t
bytes_right [] h = h
bytes_right (b ∷ s) (byte h r) = bytes_right s r

pub bytes_tail : {b : ℕ} {s : List ℕ} → Bytes (b ∷ s) → Bytes s
bytes_tail (byte h r) = r

pub bytes_take : (p : ℕ) (s : List ℕ) → Bytes s → Bytes (take p s)
bytes_take p s h = bytes_left (take p s) (drop p s) (rw (take-append-drop p s) h)

pub bytes_append : {s t : List ℕ} → Bytes s → Bytes t → Bytes (s ++ t)
bytes_append no_byte k = k
bytes_append (byte h i) k = byte h (bytes_append i k)

pub bytes_replicate : (n : ℕ) {b : ℕ} → b < 256 → Bytes (replicate n b)
bytes_replicate zero h = no_byte
bytes_replicate (suc n) h = byte h (bytes_replicate n h)

pub char_byte : {s : List ℕ} {x : ℕ} → Char s x → Bytes s → x < 256
char_byte (bare p) (byte h r) = h
char_byte quoted (byte h (byte g r)) = g

-- each of its elements is a byte
pub bytes_of : (s : List ℕ) → ((i : ℕ) → i < length s → get_or s i 0 < 256) → Bytes s
bytes_of [] h = no_byte
bytes_of (b ∷ s) h = byte (h 0 (omega arith)) (bytes_of s (λ i l. h (suc i) (omega arith)))
