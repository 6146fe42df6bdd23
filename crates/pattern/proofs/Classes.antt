-- From the ways through the readers of letters to what they say; the words of a class. Assumes nothing.
use mathlib.Core.Path.{◌≡◌, refl, sym, ◌∙◌, ap}
use mathlib.Core.Bool.{Bool, false, ◌||◌}
use mathlib.Core.List.{List, [], ◌∷◌}
use Prim.Native.Nat.{ℕ, suc, ◌+◌, ◌*◌, ◌≤◌, ◌<◌}
use native.Mathlib.Omega.{arith}
use lib.ListN.{length, get_or, set}
use lib.Seq.{sets, set_out}
use Rattle.std.specs.Prelude.{eqb}
use Rattle.std.proofs.lemmas.Bool.Decides.{nat_tests}
use Rattle.std.specs.declared.result.Result.{Result}
use Rattle.std.specs.declared.result.Result.TheVariants.{Ok, Err}
use Rattle.std.specs.declared.option.Option.TheVariants.{Some, None}
use Rattle.std.specs.Result.{result_ok}
use Rattle.sets.specs.declared.class.Class.{Class}
use Rattle.sets.specs.Classes.{among, ClassFits}
use Rattle.sets.proofs.ClassLaws.{class_word}
use Rattle.kinds.specs.Words.{words_of}
use Rattle.kinds.proofs.WordLaws.{four_words, words_long, words_set, set_fours}
use Rattle.meaning.specs.Expression.{pos}
use Rattle.meaning.specs.Grammar.{range, either}
use Rattle.meaning.specs.ReadPattern.{word, words}
use Rattle.grammar.specs.Contract.{AtomDone, ItemFails, atom_fails}
use Rattle.grammar.specs.ClassContract.{RangesDone, ranges_first, ranges_more, atom_class, atom_class_bad}
use Rattle.pattern.specs.Stores.{Tests, Keeps}
use Rattle.pattern.specs.Letters.{On, LetterTo, PositionDone, KeptTo, RangeTo, Classed, Lettered}
use Rattle.pattern.specs.declared.letters.Misplaced.{Misplaced}
use Rattle.pattern.specs.declared.letters.Taken.{Taken}

-- ---- classes

-- k' is k with the range from c to d
abbrev pub Widened : Class → ℕ → ℕ → Class → Type 0
Widened k c d k' = (q : ℕ) → among k' q ≡ (among k q || range c d q)

pub first_range : {s : List ℕ} {i j c d : ℕ} (k k' : Class) → RangeTo s i j c d → ((q : ℕ) → among k q ≡ false) → Widened k c d k' → LetterTo RangesDone s i j k'
first_range {c = c} {d} k k' h n w = record {
  test = range c d;
  done = ranges_first h.done;
  says = λ q l. w q ∙ ap (λ (b : Bool). b || range c d q) (n q);
  on = h.on;
}

pub next_range : {s : List ℕ} {i j n c d : ℕ} (k k' : Class) → LetterTo RangesDone s i j k → RangeTo s j n c d → Widened k c d k' → LetterTo RangesDone s i n k'
next_range {c = c} {d} k k' h g w = record {
  test = either h.test (range c d);
  done = ranges_more h.done g.done;
  says = λ q l. w q ∙ ap (λ (b : Bool). b || range c d q) (h.says q l);
  on = record { on = omega (arith, h.on.on, g.on.on); inside = g.on.inside };
}

-- ---- letters

-- the byte d alone
only_byte : (d q : ℕ) → eqb q d ≡ range d d q
only_byte d q = grind (arith, nat_tests)

pub byte_letter : {s : List ℕ} {i j : ℕ} (d : ℕ) (k k' : Class) → AtomDone s i j (pos (range d d)) 0 → ((q : ℕ) → among k q ≡ false)
    → ((q : ℕ) → among k' q ≡ (among k q || eqb q d)) → On (length s) i j → LetterTo PositionDone s i j k'
byte_letter d k k' a n w o = record {
  test = range d d;
  done = a;
  says = λ q l. w q ∙ ap (λ (b : Bool). b || eqb q d) (n q) ∙ only_byte d q;
  on = o;
}

pub class_letter : (s : List ℕ) (i : ℕ) (r : Result Taken Misplaced) → i < length s → get_or s i 0 ≡ 91 → Classed s (i + 1) r → Lettered s i r
class_letter s i (Ok t) l e h = record { test = h.test; done = atom_class s i l e h.done; says = h.says; on = record { on = omega (arith, h.on.on); inside = h.on.inside } }
class_letter s i (Err m) l e h = atom_class_bad s i l e h

pub letter_kept : {s : List ℕ} {i j n : ℕ} {k : Class} {l l' : List Class} → LetterTo PositionDone s i j k → Keeps n k l l' → KeptTo s i j n l l'
letter_kept h w = record { test = h.test; done = h.done; word = w.word h.test h.says; fours = w.fours; on = h.on }

-- a letter that was read, and none
pub letter_some : {s : List ℕ} {i : ℕ} {t : Taken} (r : Result Taken Misplaced) → Lettered s i r → Some t ≡ result_ok r → LetterTo PositionDone s i t.next t.class
letter_some {t = t} (Ok u) h e = let x : t ≡ u = cc in rw x h
letter_some (Err m) h e = absurd cc

pub letter_none : {s : List ℕ} {i left : ℕ} (r : Result Taken Misplaced) → Lettered s i r → None ≡ result_ok r → ItemFails s i left
letter_none (Ok t) h e = absurd cc
letter_none (Err m) h e = atom_fails h

-- ---- the words of a class

-- a row that is written past the end of a store leaves it as it is
pub sets_out : (t v : List ℕ) (i : ℕ) → length t ≤ i → sets t i v ≡ t
sets_out t [] i l = refl
sets_out t (x ∷ v) i l = rw (set_out t i x l) (sets_out t v (suc i) (omega arith))

module _ (l : List Class) (n : ℕ) (k : Class) where
  pub kept : ClassFits k → Keeps n k l (set l n (record { words = four_words k }))
  unfolding words
  kept h = record { word = put; fours = set_fours l n (record { words = four_words k }) refl }
    where
      put : (f : ℕ → Bool) → Tests k f → words_of (set l n (record { words = four_words k })) ≡ sets (words_of l) (4 * n) (words (pos f))
      put f e =
          let w : (i : ℕ) → i < 4 → get_or k.words i 0 ≡ word f i = class_word k f h e in
          words_set l n (record { words = four_words k }) ∙ rw (w 0 (omega arith), w 1 (omega arith), w 2 (omega arith), w 3 (omega arith)) refl

  pub unkept : length l ≤ n → Keeps n k l l
  unkept h = record { word = λ f _. sym (sets_out (words_of l) (words (pos f)) (4 * n) (omega (arith, words_long l))); fours = λ y. y }
