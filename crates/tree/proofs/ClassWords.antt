-- A position reads the bytes that its four words name. Assumes nothing.
use mathlib.Core.Path.{◌≡◌, refl, sym, ◌∙◌, ap}
use mathlib.Core.Bool.{Bool, true, false, cond, ◌&&◌}
use mathlib.Core.List.{List, ◌++◌}
use Prim.Native.Nat.{ℕ, zero, suc, ◌+◌, ◌*◌, ◌/◌, ◌%◌, ◌≤◌, ◌<◌}
use native.Mathlib.Omega.{arith}
use borrow.Author.Tests.{ltb-true, ltb-false, eq-eqb}
use lib.Dec.{ltb}
use lib.ListN.{get_or}
use Rattle.meaning.specs.Expression.{Re, eps, pos, cat, alt, branch, star, plus, opt, size}
use Rattle.meaning.specs.ReadPattern.{words, word}
use Rattle.positions.specs.Places.{In}
use Rattle.positions.specs.Sets.{reads_in}
use Rattle.positions.specs.Tests.{reads}
use Rattle.grammar.specs.Holds.{Stands, stands_left, stands_right, stands_at, length_words}
use Rattle.bits.specs.Bit.{bit}
use Rattle.passes.specs.Masks.{classed}
use Rattle.sets.specs.declared.class.Class.{Class}
use Rattle.sets.specs.Classes.{among}
use Rattle.kinds.specs.Words.{words_of, class_of}
use Rattle.kinds.proofs.WordLaws.{word_at}
use Rattle.sets.proofs.ClassLaws.{word_class}

-- byte b is in the words of position q
abbrev in_class : List ℕ → ℕ → ℕ → Bool
in_class class q b = bit 64 (get_or class (4 * q + b / 64) 0) (b % 64)

-- no position outside e reads
reads_out : (p : ℕ) (e : Re) (q b : ℕ) → (In p e q → ⊥) → reads p e q b ≡ false
reads_out p e q b h = go (reads p e q b) refl
  where
    go : (t : Bool) → reads p e q b ≡ t → t ≡ false
    go true r = absurd (h (reads_in p e q b r))
    go false r = refl

-- the words of c say of each byte whether c holds it
words_at : (c : ℕ → Bool) (i : ℕ) → i < 4 → get_or (words (pos c)) i 0 ≡ word c i
unfolding words
words_at c zero l = refl
words_at c (suc zero) l = refl
words_at c (suc (suc zero)) l = refl
words_at c (suc (suc (suc zero))) l = refl
words_at c (suc (suc (suc (suc i)))) l = absurd (omega arith)

words_say : (c : ℕ → Bool) (b : ℕ) → b < 256 → bit 64 (get_or (words (pos c)) (b / 64) 0) (b % 64) ≡ c b
unfolding among
words_say c b l = word_class (record { words = words (pos c) }) c (words_at c) b l

module _ (ws : List ℕ) (b : ℕ) (l : b < 256) where
  -- two parts, of which q is in one
  joint : (p : ℕ) (x y : Re) (q : ℕ) → Stands (words x ++ words y) ws (4 * p) → (p ≤ q) × (q < p + (size x + size y))
      → (Stands (words x) ws (4 * p) → In p x q → reads p x q b ≡ in_class ws q b)
      → (Stands (words y) ws (4 * (p + size x)) → In (p + size x) y q → reads (p + size x) y q b ≡ in_class ws q b)
      → cond (ltb q (p + size x)) (reads p x q b) (reads (p + size x) y q b) ≡ in_class ws q b
  joint p x y q h i f g = go (ltb q (p + size x)) refl
    where
      go : (t : Bool) → ltb q (p + size x) ≡ t → cond t (reads p x q b) (reads (p + size x) y q b) ≡ in_class ws q b
      go true e = f (stands_left (words x) (words y) h) (i.0, ltb-true q (p + size x) e)
      go false e =
          g (stands_at (4 * (p + size x)) (stands_right (words x) (words y) h) (omega (arith, length_words x)))
          (ltb-false q (p + size x) e, omega (arith, i))

  reads_its_words : (p : ℕ) (e : Re) (q : ℕ) → Stands (words e) ws (4 * p) → In p e q → reads p e q b ≡ in_class ws q b
  unfolding reads size words
  reads_its_words p eps q h i = absurd (omega (arith, i))
  reads_its_words p (pos c) q h i =
      let z : q ≡ p = omega (arith, i) in
      rw (eq-eqb q p z, z) (sym (ap (λ (x : ℕ). bit 64 x (b % 64)) (h.here (b / 64) (omega arith)) ∙ words_say c b l))
  reads_its_words p (cat x y) q h i = joint p x y q h i (reads_its_words p x q) (reads_its_words (p + size x) y q)
  reads_its_words p (alt x y) q h i = joint p x y q h i (reads_its_words p x q) (reads_its_words (p + size x) y q)
  reads_its_words p (branch x) q h i = reads_its_words p x q h i
  reads_its_words p (star x) q h i = reads_its_words p x q h i
  reads_its_words p (plus x) q h i = reads_its_words p x q h i
  reads_its_words p (opt x) q h i = reads_its_words p x q h i

-- where the words of e stand, whether a position reads a byte is told by its class
pub reads_classed : (e : Re) (l : List Class) {n : ℕ} → Stands (words e) (words_of l) 0 → n ≡ size e → (q b : ℕ) → b < 256 → reads 0 e q b ≡ classed l n q b
unfolding classed among
reads_classed e l {n} h z q b i = rw z (go (ltb q (size e)) refl)
  where
    go : (t : Bool) → ltb q (size e) ≡ t → reads 0 e q b ≡ (t && among (class_of l q) b)
    go true f =
        reads_its_words (words_of l) b i 0 e q h (omega arith, omega (arith, ltb-true q (size e) f))
        ∙ ap (λ (x : ℕ). bit 64 x (b % 64)) (word_at l q (b / 64) (omega arith))
    go false f = reads_out 0 e q b (λ o. omega (arith, o, ltb-false q (size e) f))
