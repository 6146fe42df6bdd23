-- How runs of bytes that a writer puts follow one another, and make numbers, tokens and lines. Assumes nothing.
use mathlib.Core.Path.{◌≡◌, refl, ap, ◌∙◌}
use mathlib.Core.List.{List, [], ◌∷◌, ◌++◌}
use Prim.Native.Nat.{ℕ, ◌+◌, ◌/◌, ◌%◌, ◌^◌, ◌≤◌, ◌<◌}
use native.Mathlib.Numerals.{add-one}
use native.Mathlib.Omega.{arith}
use lib.ListN.{length, take, get_or}
use lib.Seq.{take-suc}
use borrow.Author.Tests.{eq-eqb, ne_eqb}
use Rattle.meaning.specs.Desk.{digits, token, tokens, answer_line, tree_line, desk_lines}
use Rattle.lines.specs.declared.print.Writer.{Writer}
use Rattle.lines.specs.Wrote.{Wrote}
use Rattle.lines.specs.Puts.{Puts}
use Rattle.lines.proofs.WroteLaws.{wrote_none, wrote_then}
use Rattle.lines.proofs.DeskLaws.{digits_one, digits_more, token_length, tokens_last}

pub puts_none : (w : Writer) → Puts w [] w
puts_none w = record { wrote = wrote_none w.out.now w.at; same = refl }

-- one run behind another
pub puts_then : {a b c : Writer} {l m : List ℕ} → Puts a l b → Puts b m c → Puts a (l ++ m) c
puts_then p q = record { wrote = wrote_then p.wrote q.wrote; same = q.same ∙ p.same }

-- one byte more of a word
pub puts_more : {a b c : Writer} (w : List ℕ) (i : ℕ) → i < length w → Puts a (take i w) b → Puts b (get_or w i 0 ∷ []) c → Puts a (take (i + 1) w) c
puts_more w i h p q = rw (add-one, take-suc w i 0) (puts_then p q)

-- the last digit is the only one, or stands behind those of the tenth
pub puts_digit : {a b : Writer} (n : ℕ) → n < 10 → Puts a ((48 + n % 10) ∷ []) b → Puts a (digits 20 n) b
puts_digit n h p = rw (digits_one n h) p

pub puts_digits : {a b c : Writer} (n : ℕ) → n < 2 ^ 64 → 10 ≤ n → Puts a (digits 20 (n / 10)) b → Puts b ((48 + n % 10) ∷ []) c → Puts a (digits 20 n) c
puts_digits n b h p q = rw (digits_more n b h) (puts_then p q)

-- the bytes l of a token are put
pub puts_token : {a b : Writer} (t : ℕ) (l : List ℕ) → t < 65536 → token t ≡ l → Puts a l b → Puts a (token t) b × (b.at ≤ a.at + 7)
puts_token t l h e p = (rw e p, omega (arith, p.wrote.moved, token_length t h, ap length e))

-- one token more of a row
pub puts_tokens : {a b c : Writer} (row : List ℕ) (i : ℕ) → i < length row → Puts a (tokens (take i row)) b → Puts b (token (get_or row i 0)) c → Puts a (tokens (take (i + 1) row)) c
puts_tokens row i h p q = rw (add-one, take-suc row i 0, tokens_last) (puts_then p q)

-- ---- both lines

module _ (n v f : ℕ) (row : List ℕ) where
  pub puts_tree : {a b c : Writer} → n ≡ 0 → Puts a (answer_line n v f) b → Puts b (tree_line row) c → Puts a (desk_lines n v f row) c
  unfolding desk_lines
  puts_tree e p q = rw (eq-eqb n 0 e) (puts_then p q)

  pub puts_refusal : {a b : Writer} → (n ≡ 0 → ⊥) → Puts a (answer_line n v f) b → Puts a (desk_lines n v f row) b
  unfolding desk_lines
  puts_refusal {b} e p = rw (ne_eqb n 0 e) (puts_then p (puts_none b))

-- ---- the row afterwards

-- what was put from the front of t on, where the row is t' in the end
pub puts_wrote : {a b : Writer} {t t' l : List ℕ} → a.out.now ≡ t → a.at ≡ 0 → Puts a l b → b.out.now ≡ t' → Wrote t 0 l t' b.at
puts_wrote e z p e' = rw (← e, ← e', ← z) p.wrote
