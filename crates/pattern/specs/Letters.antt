-- What the readers of bytes and classes say of themselves. Assumes nothing: these are definitions.
use Rattle.std.specs.Prelude.{◌≡◌, Bool, List, [], ◌∷◌, ℕ, ◌*◌, ◌≤◌, ◌<◌, length}
use Rattle.std.proofs.lemmas.List.Edits.{sets}
use Rattle.std.specs.declared.result.Result.{Result}
use Rattle.std.specs.declared.result.Result.TheVariants.{Ok, Err}
use Rattle.meaning.specs.Expression.{pos}
use Rattle.meaning.specs.Grammar.{range}
use Rattle.meaning.specs.ReadPattern.{words}
use Rattle.grammar.specs.Contract.{AtomDone, AtomBad}
use Rattle.grammar.specs.ClassContract.{CharAt, NoChar, RangeDone, RangeBad, ClassDone, ClassBad}
use Rattle.sets.specs.declared.class.Class.{Class}
use Rattle.kinds.specs.Words.{words_of, Fours}
use Rattle.pattern.specs.Stores.{Tests}
use Rattle.pattern.specs.declared.letters.Misplaced.{Misplaced}
use Rattle.pattern.specs.declared.letters.End.{End}
use Rattle.pattern.specs.declared.letters.Span.{Span}
use Rattle.pattern.specs.declared.letters.Taken.{Taken}

-- the bytes that no atom begins with: ) | * + ? ]
abbrev pub strays : List ℕ
strays = 41 ∷ (124 ∷ (42 ∷ (43 ∷ (63 ∷ (93 ∷ [])))))

-- i before j, in a row of n bytes
pub record On (n i j : ℕ) : Type 0 where
  pub on : i < j
  pub inside : j ≤ n

abbrev pub Byted : List ℕ → ℕ → Result End Misplaced → Type 0
Byted s i (Ok e) = CharAt s i e.next e.byte × On (length s) i e.next
Byted s i (Err m) = NoChar s i m.0

-- from i to j stands a class item that goes from c to d
pub record RangeTo (s : List ℕ) (i j c d : ℕ) : Type 0 where
  pub done : RangeDone s i j (range c d)
  pub on : On (length s) i j

abbrev pub Spanned : List ℕ → ℕ → Result Span Misplaced → Type 0
Spanned s i (Ok r) = RangeTo s i r.next r.low r.high
Spanned s i (Err m) = RangeBad s i m.0

-- from i to j stands what such a test is read from, and the class holds the bytes of the test
pub record LetterTo (D : List ℕ → ℕ → ℕ → (ℕ → Bool) → Type 0) (s : List ℕ) (i j : ℕ) (k : Class) : Type 0 where
  pub test : ℕ → Bool
  pub done : D s i j test
  pub says : Tests k test
  pub on : On (length s) i j

abbrev pub PositionDone : List ℕ → ℕ → ℕ → (ℕ → Bool) → Type 0
PositionDone s i j f = AtomDone s i j (pos f) 0

abbrev pub Classed : List ℕ → ℕ → Result Taken Misplaced → Type 0
Classed s i (Ok l) = LetterTo ClassDone s i l.next l.class
Classed s i (Err m) = ClassBad s i m.0

abbrev pub Lettered : List ℕ → ℕ → Result Taken Misplaced → Type 0
Lettered s i (Ok l) = LetterTo PositionDone s i l.next l.class
Lettered s i (Err m) = AtomBad s i m.0

-- from i to j stands a letter, and its class is that of position n, where there is a place for it
pub record KeptTo (s : List ℕ) (i j n : ℕ) (l l' : List Class) : Type 0 where
  pub test : ℕ → Bool
  pub done : PositionDone s i j test
  pub word : words_of l' ≡ sets (words_of l) (4 * n) (words (pos test))
  pub fours : Fours l → Fours l'
  pub on : On (length s) i j
