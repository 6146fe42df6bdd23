-- Bytes put into a row as far as it goes, and counted in any case.
use Rattle.std.specs.Prelude.{◌≡◌, List, ℕ, ◌+◌, ◌*◌, length}
use Rattle.std.proofs.lemmas.List.Edits.{sets}
use Rattle.meaning.specs.Desk.{desk_tokens}

-- no place here is past this
abbrev pub far : ℕ
far = 0x1_0000_0000

-- no output is longer: a first line has at most 70 bytes, a second at most 5 beside its tokens, a token at most 7
abbrev pub longest : ℕ
longest = 7 * desk_tokens + 75

-- t became t': l is put from `at` on, and r is the place behind it
pub record Wrote (t : List ℕ) (at : ℕ) (l t' : List ℕ) (r : ℕ) : Type 0 where
  pub wrote : t' ≡ sets t at l
  pub moved : r ≡ at + length l
