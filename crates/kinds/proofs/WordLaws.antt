-- A row of classes and its row of words. Assumes nothing.
use Rattle.std.proofs.Common.{◌≡◌, ◌<◌, List, [], ℕ, zero, suc, ◌+◌, ◌*◌, refl, sym, ap, ap₂, length, get_or, set, replicate, ◌∷◌, false, arith}
use lib.Seq.{sets}
use Rattle.sets.specs.declared.class.Class.{Class}
use Rattle.sets.specs.Classes.{among, ClassFits}
use Rattle.sets.proofs.ClassLaws.{class_word}
use Rattle.meaning.specs.ReadPattern.{binary}
use Rattle.kinds.specs.Words.{words_of, no_byte, class_of, Fours}

-- the four words of a class
abbrev pub four_words : Class → List ℕ
four_words k = get_or k.words 0 0 ∷ get_or k.words 1 0 ∷ get_or k.words 2 0 ∷ get_or k.words 3 0 ∷ []

-- four words for each class
pub words_long : (l : List Class) → length (words_of l) ≡ 4 * length l
unfolding words_of
words_long [] = refl
words_long (k ∷ l) = omega (arith, words_long l)

-- word w of class q stands at 4 * q + w
at_head : (k : Class) (l : List Class) (w : ℕ) → w < 4 → get_or (words_of (k ∷ l)) w 0 ≡ get_or k.words w 0
unfolding words_of
at_head k l zero h = refl
at_head k l (suc zero) h = refl
at_head k l (suc (suc zero)) h = refl
at_head k l (suc (suc (suc zero))) h = refl
at_head k l (suc (suc (suc (suc w)))) h = absurd (omega arith)

pub word_at : (l : List Class) (q w : ℕ) → w < 4 → get_or (words_of l) (4 * q + w) 0 ≡ get_or (class_of l q).words w 0
unfolding words_of
word_at [] q w h = refl
word_at (k ∷ l) zero w h = let e : 4 * zero + w ≡ w = omega arith in rw e (at_head k l w h)
word_at (k ∷ l) (suc q) w h = let e : 4 * suc q + w ≡ suc (suc (suc (suc (4 * q + w)))) = omega arith in rw e (word_at l q w h)

-- class n becomes k
pub words_set : (l : List Class) (n : ℕ) (k : Class) → words_of (set l n k) ≡ sets (words_of l) (4 * n) (four_words k)
unfolding words_of
words_set [] n k = refl
words_set (j ∷ l) zero k = refl
words_set (j ∷ l) (suc n) k = let e : 4 * suc n ≡ suc (suc (suc (suc (4 * n)))) = omega arith in
    rw e (ap (λ (r : List ℕ). get_or j.words 0 0 ∷ get_or j.words 1 0 ∷ get_or j.words 2 0 ∷ get_or j.words 3 0 ∷ r) (words_set l n k))

-- a row of classes with no byte
pub blank_words : (n : ℕ) → words_of (replicate n no_byte) ≡ replicate (4 * n) 0
unfolding words_of
blank_words zero = refl
blank_words (suc n) =
    let m : 4 * suc n ≡ suc (suc (suc (suc (4 * n)))) = omega arith in
    rw m (ap (λ (r : List ℕ). 0 ∷ 0 ∷ 0 ∷ 0 ∷ r) (blank_words n))

-- ---- each class has four words

pub blank_fours : (n : ℕ) → Fours (replicate n no_byte)
blank_fours zero q i = absurd (omega (arith, i))
blank_fours (suc n) zero i = refl
blank_fours (suc n) (suc q) i = blank_fours n q (omega arith)

pub set_fours : (l : List Class) (n : ℕ) (k : Class) → length k.words ≡ 4 → Fours l → Fours (set l n k)
set_fours [] n k f h q i = h q i
set_fours (j ∷ l) zero k f h zero i = f
set_fours (j ∷ l) zero k f h (suc q) i = h (suc q) i
set_fours (j ∷ l) (suc n) k f h zero i = h 0 (omega arith)
set_fours (j ∷ l) (suc n) k f h (suc q) i = set_fours l n k f (λ r m. h (suc r) (omega arith)) q (omega arith)

-- a row of classes is then what its words say

four_list : (ws : List ℕ) → length ws ≡ 4 → get_or ws 0 0 ∷ get_or ws 1 0 ∷ get_or ws 2 0 ∷ get_or ws 3 0 ∷ [] ≡ ws
four_list [] h = absurd (omega (arith, h))
four_list (a ∷ []) h = absurd (omega (arith, h))
four_list (a ∷ b ∷ []) h = absurd (omega (arith, h))
four_list (a ∷ b ∷ c ∷ []) h = absurd (omega (arith, h))
four_list (a ∷ b ∷ c ∷ d ∷ []) h = refl
four_list (a ∷ b ∷ c ∷ d ∷ e ∷ ws) h = absurd (omega (arith, h))

pub classes_from : List ℕ → List Class
classes_from [] = []
classes_from (a ∷ []) = []
classes_from (a ∷ b ∷ []) = []
classes_from (a ∷ b ∷ c ∷ []) = []
classes_from (a ∷ b ∷ c ∷ d ∷ ws) = record { words = a ∷ b ∷ c ∷ d ∷ [] } ∷ classes_from ws

pub classes_back : (l : List Class) → Fours l → classes_from (words_of l) ≡ l
unfolding words_of classes_from
classes_back [] h = refl
classes_back (k ∷ l) h =
    ap₂ (λ (ws : List ℕ) (r : List Class). record { words = ws } ∷ r) (four_list k.words (h 0 (omega arith))) (classes_back l (λ q i. h (suc q) (omega arith)))

-- the class with no byte has this value
pub no_byte_is : (k : Class) → ClassFits k → ((q : ℕ) → among k q ≡ false) → k ≡ no_byte
unfolding binary
no_byte_is k h e =
    let w : (i : ℕ) → i < 4 → get_or k.words i 0 ≡ 0 = class_word k (λ q. false) h (λ q _. e q) in
    sym (ap (λ (ws : List ℕ). record { words = ws }) (rw (w 0 (omega arith), w 1 (omega arith), w 2 (omega arith), w 3 (omega arith)) at (four_list k.words h.four)))
