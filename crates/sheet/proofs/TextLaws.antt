-- The text of the sheet: how each section is made of the one before, line by line. Assumes nothing.
use mathlib.Core.Path.{◌≡◌, sym}
use mathlib.Core.List.{List, [], ◌∷◌, ◌++◌, append-nil, append_assoc}
use Prim.Native.Nat.{ℕ, zero, suc, ◌+◌, ◌-◌, ◌≤◌, ◌<◌}
use native.Mathlib.Numerals.{add-one}
use native.Mathlib.Omega.{arith}
use lib.ListN.{length, take, get_or}
use lib.Seq.{take_all}
use borrow.Author.Tests.{lt-ltb, le-ltb, eq-eqb, ne_eqb}
use Rattle.meaning.specs.declared.Record.{Record}
use Rattle.meaning.specs.Promise.{written}
use Rattle.meaning.specs.Sheet.{line, lines, mark_lines, change, change_lines, sheet_text}
use Rattle.lines.specs.Wrote.{Wrote}
use Rattle.lines.specs.Puts.{Puts}
use Rattle.lines.specs.declared.print.Writer.{Writer}
use Rattle.lines.proofs.PutsLaws.{puts_then}
use Rattle.lines.proofs.WroteLaws.{wrote_whole}
use Rattle.tally.specs.Tally.{blank}

-- what is put by another name, and what is put behind it
pub puts_same : {a b : Writer} {l m : List ℕ} → l ≡ m → Puts a l b → Puts a m b
puts_same e p = rw e at p

pub puts_more : {a b c : Writer} {l m n : List ℕ} → n ≡ l ++ m → Puts a l b → Puts b m c → Puts a n c
puts_more e p q = rw e (puts_then p q)

-- what is put from the front into a row that holds it
pub wrote_written : {t t' : List ℕ} {r : ℕ} {l : List ℕ} → Wrote t 0 l t' r → length l ≤ length t → (t' ≡ written l t) × (r ≡ length l)
wrote_written a h = (wrote_whole a h, omega (arith, a.moved))

-- ---- the reports

lines_suc : (row : List ℕ) (i : ℕ) → i < length row → lines (take (suc i) row) ≡ lines (take i row) ++ line (get_or row i 0)
unfolding lines
lines_suc [] i h = absurd (omega arith)
lines_suc (n ∷ row) zero h = append-nil (line n)
lines_suc (n ∷ row) (suc i) h = rw (lines_suc row i (omega arith)) (sym (append_assoc (line n) (lines (take i row)) (line (get_or row i 0))))

pub lines_more : (row : List ℕ) (i : ℕ) → i < length row → lines (take (i + 1) row) ≡ lines (take i row) ++ line (get_or row i 0)
lines_more row i h = rw add-one (lines_suc row i h)

pub lines_all : (row : List ℕ) (i : ℕ) → length row ≤ i → lines (take i row) ≡ lines row
lines_all row i h = rw (take_all i row h)

-- ---- the marks

abbrev pub three : Record → List ℕ
three r = line r.turns ++ (line r.bytes ++ line r.longest)

three_before : (a b c s u : List ℕ) → a ++ (b ++ (c ++ (s ++ u))) ≡ (a ++ (b ++ (c ++ s))) ++ u
three_before a b c s u = rw (append_assoc a (b ++ (c ++ s)) u, append_assoc b (c ++ s) u, append_assoc c s u)

marks_suc : (rs : List Record) (i : ℕ) → i < length rs → mark_lines (take (suc i) rs) ≡ mark_lines (take i rs) ++ three (get_or rs i blank)
unfolding mark_lines
marks_suc [] i h = absurd (omega arith)
marks_suc (r ∷ rs) zero h = rw (append-nil (line r.longest))
marks_suc (r ∷ rs) (suc i) h = rw (marks_suc rs i (omega arith)) (three_before (line r.turns) (line r.bytes) (line r.longest) (mark_lines (take i rs)) (three (get_or rs i blank)))

pub marks_more : (rs : List Record) (i : ℕ) → i < length rs → mark_lines (take (i + 1) rs) ≡ mark_lines (take i rs) ++ three (get_or rs i blank)
marks_more rs i h = rw add-one (marks_suc rs i h)

changes_suc : (rs : List Record) (last : List ℕ) (i : ℕ) → i < length rs → i < length last
    → change_lines (take (suc i) rs) (take (suc i) last) ≡ change_lines (take i rs) (take i last) ++ change (get_or rs i blank).turns (get_or last i 0)
unfolding change_lines
changes_suc [] last i h h' = absurd (omega arith)
changes_suc (r ∷ rs) [] i h h' = absurd (omega arith)
changes_suc (r ∷ rs) (n ∷ last) zero h h' = append-nil (change r.turns n)
changes_suc (r ∷ rs) (n ∷ last) (suc i) h h' =
    rw (changes_suc rs last i (omega arith) (omega arith)) (sym (append_assoc (change r.turns n) (change_lines (take i rs) (take i last)) (change (get_or rs i blank).turns (get_or last i 0))))

-- one change more
pub puts_changes : {a b c : Writer} (rs : List Record) (last : List ℕ) (i : ℕ) {j m : ℕ} {r : Record} → i < length rs → i < length last → r ≡ get_or rs i blank → m ≡ get_or last i 0 → j ≡ i + 1
    → Puts a (change_lines (take i rs) (take i last)) b → Puts b (change r.turns m) c → Puts a (change_lines (take j rs) (take j last)) c
puts_changes rs last i h h' e e' z p q = rw (z, add-one) (puts_more (changes_suc rs last i h h') p (rw (e, e') at q))

-- all of them
pub changes_all : {a b : Writer} (rs : List Record) (last : List ℕ) (i : ℕ) → i ≡ length rs → i ≡ length last → Puts a (change_lines (take i rs) (take i last)) b → Puts a (change_lines rs last) b
changes_all rs last i e e' p = rw (take_all i rs (omega arith), take_all i last (omega arith)) at p

-- ---- a change

module _ (tonight last : ℕ) where
  pub change_down : tonight < last → 45 ∷ line (last - tonight) ≡ change tonight last
  change_down h = rw (ne_eqb tonight last (λ e. omega arith), le-ltb last tonight (omega arith))

  pub change_up : last < tonight → 43 ∷ line (tonight - last) ≡ change tonight last
  change_up h = rw (ne_eqb tonight last (λ e. omega arith), lt-ltb last tonight h)

  pub change_none : tonight ≡ last → line 0 ≡ change tonight last
  change_none e = rw (eq-eqb tonight last e)

-- ---- the sections

-- each after its count
pub puts_sheet : (numbers : List ℕ) (rs : List Record) (last : List ℕ) {a b c d e f g : Writer}
    → Puts a (line (length numbers)) b → Puts b (lines numbers) c → Puts c (line (length rs)) d → Puts d (mark_lines rs) e → Puts e (line (length rs)) f → Puts f (change_lines rs last) g
    → Puts a (sheet_text numbers rs last) g
unfolding sheet_text
puts_sheet numbers rs last p q r s t u = puts_then p (puts_then q (puts_then r (puts_then s (puts_then t u))))
