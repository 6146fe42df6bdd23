-- The figures of a mark in a row that pairs off, its turn count, the bytes read and the longest turn: they are those of what its turns read.
use Rattle.std.specs.Prelude.{◌≡◌, ℕ, ◌+◌, ◌≤◌, max, ltb, length}
use Rattle.std.proofs.Math.Path.{refl}
use Rattle.std.proofs.Common.{sym, ◌∙◌, zero-add, lt-ltb}
use mathlib.Core.List.{List, [], ◌∷◌, ◌++◌, map}
use native.Mathlib.Omega.{arith}
use Rattle.std.proofs.Math.Nat.{zero-max}
use Rattle.meaning.specs.Grammar.{Bytes}
use Rattle.meaning.specs.Night.{sum, greatest}
use Rattle.meaning.specs.Tree.{erase}
use Rattle.meaning.specs.Turns.{turn_count, bytes_in, turn_bytes, bytes_read, longest_turn}
use Rattle.grammar.specs.ByteRow.{bytes_left, bytes_right}
use Rattle.bits.specs.Tally.{one}
use Rattle.positions.specs.ByteTokens.{bytes_in_append, bytes_erased, bytes_exact}
use Rattle.positions.specs.Erased.{erase_append}
use Rattle.positions.specs.InFront.{turn_opened, turn_other, turn_counted}
use Rattle.positions.specs.Paired.{Clear, clear_end, clear_more, turn_before, Paired, p_end, p_other, p_turn, is_closed, up_to_its_closing}
use Rattle.positions.specs.Paired.{has_text, with_text, erase_turn_before}

-- A figure of the turns of h in a row, and the same of a list of texts: each joins what a turn read to the rest, and 0 adds nothing.
record Figure (h : ℕ) (join : ℕ → ℕ → ℕ) (figure : List ℕ → ℕ) (total : List (List ℕ) → ℕ) : Type 0 where
  nothing : (n : ℕ) → join 0 n ≡ n
  at_end : figure [] ≡ total []
  of_turn : (t : ℕ) (row : List ℕ) → figure (t ∷ row) ≡ join (turn_bytes h t row) (figure row)
  of_text : (s : List ℕ) (texts : List (List ℕ)) → total (s ∷ texts) ≡ join (length s) (total texts)

-- join, for the turn count: a turn is counted if it read a byte
abbrev count_in : ℕ → ℕ → ℕ
count_in n rest = one (ltb 0 n) + rest

count_figure : (h : ℕ) → Figure h count_in (turn_count h) with_text
unfolding with_text
count_figure h = record { nothing = zero-add; at_end = unfold turn_count in refl; of_turn = turn_counted h; of_text = counts }
  where
    counts : (s : List ℕ) (texts : List (List ℕ)) → one (has_text s) + with_text texts ≡ count_in (length s) (with_text texts)
    counts [] texts = refl
    counts (b ∷ s) texts = rw (lt-ltb 0 (length (b ∷ s)) (omega arith))

sum_figure : (h : ℕ) → Figure h ◌+◌ (bytes_read h) (λ texts. sum (map length texts))
unfolding bytes_read sum
sum_figure h = record { nothing = zero-add; at_end = refl; of_turn = λ t row. refl; of_text = λ s texts. refl }

greatest_figure : (h : ℕ) → Figure h max (longest_turn h) (λ texts. greatest (map length texts))
unfolding longest_turn greatest
greatest_figure h = record { nothing = zero-max; at_end = refl; of_turn = λ t row. refl; of_text = λ s texts. refl }

module _ {h : ℕ} {join : ℕ → ℕ → ℕ} {figure : List ℕ → ℕ} {total : List (List ℕ) → ℕ} (f : Figure h join figure total) where
  -- a token that does not open h adds nothing
  figure_other : (t : ℕ) (row : List ℕ) → (t ≡ h → ⊥) → figure (t ∷ row) ≡ figure row
  figure_other t row n = rw (f.of_turn t row, turn_other h t row n) (f.nothing (figure row))

  figure_past : {inner : List ℕ} → Clear h inner → (row : List ℕ) → figure (inner ++ row) ≡ figure row
  figure_past clear_end row = refl
  figure_past (clear_more {t = t} {row = inner} n n' c) row = figure_other t (inner ++ row) n ∙ figure_past c row

  -- a turn around a clear row reads the bytes of that row
  figure_adds : {inner : List ℕ} → Clear h inner → (row : List ℕ) → figure (turn_before h inner row) ≡ join (bytes_in inner) (figure row)
  figure_adds {inner} c row =
      let past = figure_past c ((128 + h) ∷ row) ∙ figure_other (128 + h) row (λ e. omega arith) in
      let own : turn_bytes h h (inner ++ ((128 + h) ∷ row)) ≡ bytes_in inner =
      turn_opened h h (inner ++ ((128 + h) ∷ row)) refl ∙ rw (is_closed h inner row, up_to_its_closing c row) in
      rw (f.of_turn h (inner ++ ((128 + h) ∷ row)), own, past)

  -- where the text of the row is of bytes
  paired_figure : {row : List ℕ} {texts : List (List ℕ)} → h ≤ 127 → Paired h row texts → Bytes (erase row) → figure row ≡ total texts
  paired_figure l p_end b = f.at_end
  paired_figure l (p_other {t = t} {row = row} n n' p) b =
      figure_other t row n ∙ paired_figure l p (bytes_right (erase (t ∷ [])) (rw (erase_append (t ∷ []) row) at b))
  paired_figure l (p_turn {inner = inner} {row = row} {texts = texts} c p) b =
      let b' = rw (erase_turn_before h inner row l) at b in
      let own = bytes_exact inner (bytes_left (erase inner) (erase row) b') in
      rw (figure_adds c row, own, paired_figure l p (bytes_right (erase inner) b')) (sym (f.of_text (erase inner) texts))

-- THE FIGURES OF A ROW THAT PAIRS OFF: how many turns read text, how much they read, and how much the longest of them read
pub paired_count : {h : ℕ} {row : List ℕ} {texts : List (List ℕ)} → h ≤ 127 → Paired h row texts → Bytes (erase row) → turn_count h row ≡ with_text texts
paired_count {h} = paired_figure (count_figure h)

pub paired_bytes : {h : ℕ} {row : List ℕ} {texts : List (List ℕ)} → h ≤ 127 → Paired h row texts → Bytes (erase row) → bytes_read h row ≡ sum (map length texts)
paired_bytes {h} = paired_figure (sum_figure h)

pub paired_longest : {h : ℕ} {row : List ℕ} {texts : List (List ℕ)} → h ≤ 127 → Paired h row texts → Bytes (erase row) → longest_turn h row ≡ greatest (map length texts)
paired_longest {h} = paired_figure (greatest_figure h)

-- the turns of a row that pairs off lie behind each other: together they read no more than all its bytes
paired_within : {h : ℕ} {row : List ℕ} {texts : List (List ℕ)} → Paired h row texts → bytes_read h row ≤ bytes_in row
unfolding bytes_in
paired_within p_end = unfold bytes_read in omega arith
paired_within {h} (p_other {t = t} {row = row} n n' p) = omega (arith, figure_other (sum_figure h) t row n, paired_within p)
paired_within {h} (p_turn {inner = inner} {row = row} c p) =
    omega (arith, figure_adds (sum_figure h) c row, bytes_in_append inner ((128 + h) ∷ row), paired_within p)

-- whatever its text is
pub paired_few : {h : ℕ} {row : List ℕ} {texts : List (List ℕ)} → Paired h row texts → bytes_read h row ≤ length (erase row)
paired_few {row = row} p = omega (arith, paired_within p, bytes_erased row)
