-- The readings to check that are proved: one table, and what a line of it says. Assumes nothing: these are definitions.
use Rattle.std.specs.Prelude.{List, [], ◌∷◌, ℕ}
use Rattle.meaning.specs.Expression.{Re}
use Rattle.meaning.specs.Grammar.{Pattern}
use Rattle.meaning.specs.Tree.{First, Flag}

pub data Line : Type 0 where
  line : (pattern text row : List ℕ) (flag : ℕ) → Line

-- the pattern denotes some expression, the row is the first tree of the text, and the flag says whether there is another
pub data Holds : Line → Type 0 where
  holds : {pattern text row : List ℕ} {flag d : ℕ} {e : Re} → Pattern pattern e d → First e text row → Flag e text flag → Holds (line pattern text row flag)

-- a is byte 97; h opens mark h, 128 + h closes it, 353 is the letter a
unfoldable pub table : List Line
table =
    -- ()
    line (40 ∷ 41 ∷ []) [] [] 0 ∷
    -- a*
    line (97 ∷ 42 ∷ []) [] [] 0 ∷
    -- ()+
    line (40 ∷ 41 ∷ 43 ∷ []) [] (1 ∷ 129 ∷ []) 0 ∷
    -- a+ on aa
    line (97 ∷ 43 ∷ []) (97 ∷ 97 ∷ []) (1 ∷ 353 ∷ 129 ∷ 1 ∷ 353 ∷ 129 ∷ []) 0 ∷
    -- (a*)* on a, on aa
    line (40 ∷ 97 ∷ 42 ∷ 41 ∷ 42 ∷ []) (97 ∷ []) (1 ∷ 2 ∷ 353 ∷ 130 ∷ 129 ∷ []) 0 ∷
    line (40 ∷ 97 ∷ 42 ∷ 41 ∷ 42 ∷ []) (97 ∷ 97 ∷ []) (1 ∷ 2 ∷ 353 ∷ 130 ∷ 2 ∷ 353 ∷ 130 ∷ 129 ∷ []) 1 ∷
    -- (a*)+
    line (40 ∷ 97 ∷ 42 ∷ 41 ∷ 43 ∷ []) [] (1 ∷ 129 ∷ []) 0 ∷
    -- (a*)?
    line (40 ∷ 97 ∷ 42 ∷ 41 ∷ 63 ∷ []) [] [] 0 ∷
    -- a|a on a
    line (97 ∷ 124 ∷ 97 ∷ []) (97 ∷ []) (1 ∷ 353 ∷ 129 ∷ []) 1 ∷
    -- (a|())+ on a
    line (40 ∷ 97 ∷ 124 ∷ 40 ∷ 41 ∷ 41 ∷ 43 ∷ []) (97 ∷ []) (1 ∷ 2 ∷ 353 ∷ 130 ∷ 129 ∷ []) 0 ∷ []
