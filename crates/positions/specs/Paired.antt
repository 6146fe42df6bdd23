-- Rows in which the openings and closings of a mark pair off, and what its turns read.
use Rattle.std.specs.Prelude.{◌≡◌, Bool, true, false, ℕ, suc, ◌+◌, ◌≤◌, eqb, length}
use Rattle.std.proofs.Math.Path.{refl}
use Rattle.std.proofs.Common.{sym, ◌∙◌, ap, arith, zero-add, eq-eqb, ne_eqb}
use mathlib.Core.List.{List, [], ◌∷◌, ◌++◌, append_assoc, cons≢nil, nil≢cons, head-eq_of_cons-eq, tail-eq_of_cons-eq}
use Rattle.meaning.specs.Tree.{erase}
use Rattle.meaning.specs.Turns.{closes, some_token, up_to_closing}
use Rattle.bits.specs.Tally.{one}
use Rattle.bits.specs.Truth.{or_right}
use Rattle.positions.specs.Erased.{erase_mark, erase_append}

-- no token of the row opens or closes h
pub data Clear (h : ℕ) : List ℕ → Type 0 where
  clear_end : Clear h []
  clear_more : {t : ℕ} {row : List ℕ} → (t ≡ h → ⊥) → (t ≡ 128 + h → ⊥) → Clear h row → Clear h (t ∷ row)

pub clear_append : {h : ℕ} {a b : List ℕ} → Clear h a → Clear h b → Clear h (a ++ b)
clear_append clear_end d = d
clear_append (clear_more n n' c) d = clear_more n n' (clear_append c d)

-- a turn of h around the row `inner`, and the row behind it
abbrev pub turn_before : ℕ → List ℕ → List ℕ → List ℕ
turn_before h inner row = h ∷ (inner ++ ((128 + h) ∷ row))

-- The openings and closings of h in the row pair off in order, with none of them inside a turn; the texts are what its turns read.
pub data Paired (h : ℕ) : List ℕ → List (List ℕ) → Type 0 where
  p_end : Paired h [] []
  p_other : {t : ℕ} {row : List ℕ} {texts : List (List ℕ)} → (t ≡ h → ⊥) → (t ≡ 128 + h → ⊥) → Paired h row texts → Paired h (t ∷ row) texts
  p_turn : {inner row : List ℕ} {texts : List (List ℕ)} → Clear h inner → Paired h row texts → Paired h (turn_before h inner row) (erase inner ∷ texts)

pub clear_paired : {h : ℕ} {row : List ℕ} → Clear h row → Paired h row []
clear_paired clear_end = p_end
clear_paired (clear_more n n' c) = p_other n n' (clear_paired c)

pub paired_append : {h : ℕ} {a b : List ℕ} {texts texts' : List (List ℕ)} → Paired h a texts → Paired h b texts' → Paired h (a ++ b) (texts ++ texts')
paired_append p_end q = q
paired_append (p_other n n' p) q = p_other n n' (paired_append p q)
paired_append {h} {b = b} (p_turn {inner = inner} {row = row} c p) q = rw (append_assoc inner ((128 + h) ∷ row) b) (p_turn c (paired_append p q))

-- a row has one way to pair off: the first closing behind an opening ends its turn
record Cut (a a' b b' : List ℕ) : Type 0 where
  inner : a ≡ a'
  rest : b ≡ b'

clear_cut : {h : ℕ} {a a' b b' : List ℕ} → Clear h a → Clear h a' → a ++ ((128 + h) ∷ b) ≡ a' ++ ((128 + h) ∷ b') → Cut a a' b b'
clear_cut clear_end clear_end e = record { inner = refl; rest = tail-eq_of_cons-eq e }
clear_cut clear_end (clear_more n n' d) e = absurd (n' (sym (head-eq_of_cons-eq e)))
clear_cut (clear_more n n' c) clear_end e = absurd (n' (head-eq_of_cons-eq e))
clear_cut (clear_more n n' c) (clear_more m m' d) e =
    let k = head-eq_of_cons-eq e in
    let s = clear_cut c d (tail-eq_of_cons-eq e) in
    record { inner = cc; rest = s.rest }

one_pairing : {h : ℕ} {a b : List ℕ} {texts texts' : List (List ℕ)} → Paired h a texts → Paired h b texts' → a ≡ b → texts ≡ texts'
one_pairing p_end p_end e = refl
one_pairing p_end (p_other n n' q) e = absurd (nil≢cons e)
one_pairing p_end (p_turn d q) e = absurd (nil≢cons e)
one_pairing (p_other n n' p) p_end e = absurd (cons≢nil e)
one_pairing (p_other n n' p) (p_other m m' q) e = one_pairing p q (tail-eq_of_cons-eq e)
one_pairing (p_other n n' p) (p_turn d q) e = absurd (n (head-eq_of_cons-eq e))
one_pairing (p_turn c p) p_end e = absurd (cons≢nil e)
one_pairing (p_turn c p) (p_other m m' q) e = absurd (m (sym (head-eq_of_cons-eq e)))
one_pairing (p_turn c p) (p_turn d q) e =
    let s = clear_cut c d (tail-eq_of_cons-eq e) in
    let i = one_pairing p q s.rest in
    let j = s.inner in
    cc

pub paired_one : {h : ℕ} {row : List ℕ} {texts texts' : List (List ℕ)} → Paired h row texts → Paired h row texts' → texts ≡ texts'
paired_one p q = one_pairing p q refl

-- how many tokens of a row equal k
unfoldable pub count : ℕ → List ℕ → ℕ
count k [] = 0
count k (t ∷ row) = one (eqb t k) + count k row

-- the opening of h, or its closing
data Mark (h : ℕ) : ℕ → Type 0 where
  the_opening : Mark h h
  the_closing : Mark h (128 + h)

count_same : (k : ℕ) (row : List ℕ) → count k (k ∷ row) ≡ suc (count k row)
unfolding count
count_same k row = rw (eq-eqb k k refl) (omega arith)

count_other : (k t : ℕ) (row : List ℕ) → (t ≡ k → ⊥) → count k (t ∷ row) ≡ count k row
unfolding count
count_other k t row n = rw (ne_eqb t k n) (zero-add (count k row))

not_mark : {h k t : ℕ} → Mark h k → (t ≡ h → ⊥) → (t ≡ 128 + h → ⊥) → t ≡ k → ⊥
not_mark the_opening n n' = n
not_mark the_closing n n' = n'

count_past : {h k : ℕ} {inner : List ℕ} → Mark h k → Clear h inner → (row : List ℕ) → count k (inner ++ row) ≡ count k row
count_past m clear_end row = refl
count_past {k = k} m (clear_more {t = t} {row = inner} n n' c) row = count_other k t (inner ++ row) (not_mark m n n') ∙ count_past m c row

count_turn : {h k : ℕ} {inner : List ℕ} → Mark h k → Clear h inner → (row : List ℕ) → count k (turn_before h inner row) ≡ suc (count k row)
count_turn {h} {inner = inner} the_opening c row =
    let past = count_past the_opening c ((128 + h) ∷ row) ∙ count_other h (128 + h) row (λ e. omega arith) in
    count_same h (inner ++ ((128 + h) ∷ row)) ∙ ap suc past
count_turn {h} {inner = inner} the_closing c row =
    count_other (128 + h) h (inner ++ ((128 + h) ∷ row)) (λ e. omega arith) ∙ count_past the_closing c ((128 + h) ∷ row) ∙ count_same (128 + h) row

paired_marks : {h k : ℕ} {row : List ℕ} {texts : List (List ℕ)} → Mark h k → Paired h row texts → count k row ≡ length texts
paired_marks m p_end = unfold count in refl
paired_marks {k = k} m (p_other {t = t} {row = row} n n' p) = count_other k t row (not_mark m n n') ∙ paired_marks m p
paired_marks m (p_turn {row = row} c p) = count_turn m c row ∙ ap suc (paired_marks m p)

-- there are as many openings, and as many closings, as turns
pub paired_openings : {h : ℕ} {row : List ℕ} {texts : List (List ℕ)} → Paired h row texts → count h row ≡ length texts
paired_openings p = paired_marks the_opening p

pub paired_closings : {h : ℕ} {row : List ℕ} {texts : List (List ℕ)} → Paired h row texts → count (128 + h) row ≡ length texts
paired_closings p = paired_marks the_closing p

-- the closing that ends a turn is the next one
pub is_closed : (h : ℕ) (inner row : List ℕ) → some_token (closes h) (inner ++ ((128 + h) ∷ row)) ≡ true
unfolding some_token
is_closed h [] row = rw (eq-eqb (128 + h) (128 + h) refl)
is_closed h (t ∷ inner) row = or_right (closes h t) (is_closed h inner row)

pub up_to_its_closing : {h : ℕ} {inner : List ℕ} → Clear h inner → (row : List ℕ) → up_to_closing h (inner ++ ((128 + h) ∷ row)) ≡ inner
unfolding up_to_closing
up_to_its_closing {h} clear_end row = rw (eq-eqb (128 + h) (128 + h) refl)
up_to_its_closing {h} (clear_more {t = t} n n' c) row = rw (ne_eqb t (128 + h) n') (ap (λ (l : List ℕ). t ∷ l) (up_to_its_closing c row))

-- a text of at least one byte, as a test; how many texts are such
abbrev pub has_text : List ℕ → Bool
has_text [] = false
has_text (b ∷ s) = true

unfoldable pub with_text : List (List ℕ) → ℕ
with_text [] = 0
with_text (s ∷ texts) = one (has_text s) + with_text texts

-- marks leave no text
pub erase_turn_before : (h : ℕ) (inner row : List ℕ) → h ≤ 127 → erase (turn_before h inner row) ≡ erase inner ++ erase row
erase_turn_before h inner row l =
    rw (erase_mark h (inner ++ ((128 + h) ∷ row)) (omega arith), erase_append inner ((128 + h) ∷ row), erase_mark (128 + h) row (omega arith))
