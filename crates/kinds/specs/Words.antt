-- The words of a row of classes, as `meaning` has them. Assumes nothing: these are definitions.
use Rattle.std.specs.Prelude.{◌≡◌, ◌<◌, List, [], ◌∷◌, ℕ, length, get_or, replicate}
use Rattle.sets.specs.declared.class.Class.{Class}

-- the four words of each class, one class after another
unfoldable pub words_of : List Class → List ℕ
words_of [] = []
words_of (k ∷ ks) = get_or k.words 0 0 ∷ get_or k.words 1 0 ∷ get_or k.words 2 0 ∷ get_or k.words 3 0 ∷ words_of ks

-- the class with no byte
abbrev pub no_byte : Class
no_byte = record { words = replicate 4 0 }

-- the class of position q
abbrev pub class_of : List Class → ℕ → Class
class_of l q = get_or l q (record { words = [] })

-- each class has four words
abbrev pub Fours : List Class → Type 0
Fours l = (q : ℕ) → q < length l → length (class_of l q).words ≡ 4
