-- Worked examples: rows that are not patterns, with their places, in one table; and what some patterns denote.
use Rattle.std.specs.Prelude.{◌≡◌, refl, Bool, true, false, ◌&&◌, List, [], ◌∷◌, ℕ, T, eqb, ltb}
use Rattle.std.proofs.Common.{eqb→eq, ltb→lt}
use Rattle.meaning.specs.Expression.{Re, eps, pos, cat, alt, branch, star, opt}
use Rattle.meaning.specs.Grammar.{Is, a_branch, literal, group, once, optional, item_one, item_more, front_one, lone, several}
use Rattle.meaning.specs.Grammar.{any, only, range, either, Pattern, Bytes, no_byte, byte}
use Rattle.meaning.specs.Tree.{Tree, t_pos, letter}
use Rattle.grammar.specs.Machine.{kind, inner, start, run, Answer, none, read, result}
use Rattle.grammar.specs.Viable.{accepted}
use Rattle.grammar.specs.Place.{place, Mistake, refused}
use Rattle.grammar.specs.Numbering.{extent, extents}
use Rattle.grammar.specs.Each.{Each, each_map, every, both, each_passes}

pub data Line : Type 0 where
  line : (row : List ℕ) (p : ℕ) → Line

-- the row is no pattern, and p is the length of its longest beginning that begins one
pub data Holds : Line → Type 0 where
  holds : {row : List ℕ} {p : ℕ} → Mistake row p → Holds (line row p)

unfoldable pub table : List Line
table =
    -- the empty row
    line [] 0 ∷
    -- a**
    line (97 ∷ 42 ∷ 42 ∷ []) 2 ∷
    -- (a
    line (40 ∷ 97 ∷ []) 2 ∷
    -- )
    line (41 ∷ []) 0 ∷
    -- []
    line (91 ∷ 93 ∷ []) 1 ∷
    -- [z-a]
    line (91 ∷ 122 ∷ 45 ∷ 97 ∷ 93 ∷ []) 3 ∷
    -- [a-]
    line (91 ∷ 97 ∷ 45 ∷ 93 ∷ []) 3 ∷
    -- a\
    line (97 ∷ 92 ∷ []) 2 ∷ []

-- the test of a line: a row of bytes, on which the machine stops there
abbrev byte? : ℕ → Bool
byte? b = ltb b 256

refuses : Answer → Bool
refuses none = true
refuses (read e d) = false

right : Line → Bool
right (line row p) = every byte? row && (refuses (result (run start row)) && eqb (place row) p)

refuses_none : (a : Answer) → T (refuses a) → a ≡ none
unfolding refuses
refuses_none none t = refl
refuses_none (read e d) t = absurd t

bytes_tested : (s : List ℕ) → T (every byte? s) → Bytes s
bytes_tested [] t = no_byte
bytes_tested (b ∷ s) t = let h = both (byte? b) (every byte? s) t in byte (ltb→lt b 256 h.0) (bytes_tested s h.1)

right_holds : (l : Line) → T (right l) → Holds l
unfolding right
right_holds (line row p) t =
    let h = both (every byte? row) (refuses (result (run start row)) && eqb (place row) p) t in
    let g = both (refuses (result (run start row))) (eqb (place row) p) h.1 in
    let e : place row ≡ p = eqb→eq (place row) p g.1 in
    holds (rw e at (refused row (bytes_tested row h.0) (refuses_none (result (run start row)) g.0)))

pub table_holds : Each Holds table
unfolding table right refuses kind inner
table_holds = each_map right_holds (each_passes right table tt)

-- what patterns denote
abbrev ch : ℕ → Re
ch c = pos (only c)

-- ab|c*
pub two_branches : Pattern (97 ∷ 98 ∷ 124 ∷ 99 ∷ 42 ∷ []) (alt (branch (cat (ch 97) (ch 98))) (branch (star (ch 99)))) 0
unfolding kind inner
two_branches = accepted _ refl

-- a|b|c
pub three_branches : Pattern (97 ∷ 124 ∷ 98 ∷ 124 ∷ 99 ∷ []) (alt (alt (branch (ch 97)) (branch (ch 98))) (branch (ch 99))) 0
unfolding kind inner
three_branches = accepted _ refl

-- ((a)())?
pub nested_groups : Pattern (40 ∷ 40 ∷ 97 ∷ 41 ∷ 40 ∷ 41 ∷ 41 ∷ 63 ∷ []) (opt (cat (ch 97) eps)) 2
unfolding kind inner
nested_groups = accepted _ refl

-- [a-c\]]
pub class_of_two : Pattern (91 ∷ 97 ∷ 45 ∷ 99 ∷ 92 ∷ 93 ∷ 93 ∷ []) (pos (either (range 97 99) (only 93))) 0
unfolding kind inner
class_of_two = accepted _ refl

-- \n is the letter n
pub escaped_letter : Pattern (92 ∷ 110 ∷ []) (ch 110) 0
unfolding kind inner
escaped_letter = accepted _ refl

-- . reads byte 10
pub dot_reads_ten : Pattern (46 ∷ []) (pos any) 0 × Tree 0 (pos any) (10 ∷ []) (letter 10 ∷ [])
unfolding kind inner
dot_reads_ten = (accepted _ refl, t_pos refl)

-- [^] names ^
pub class_of_caret : Pattern (91 ∷ 94 ∷ 93 ∷ []) (ch 94) 0
unfolding kind inner
class_of_caret = accepted _ refl

-- () is a group
pub empty_group : Pattern (40 ∷ 41 ∷ []) eps 1
unfolding kind inner
empty_group = accepted _ refl

-- (a|ab)b?
pub three_marks : Pattern (40 ∷ 97 ∷ 124 ∷ 97 ∷ 98 ∷ 41 ∷ 98 ∷ 63 ∷ []) (cat (alt (branch (ch 97)) (branch (cat (ch 97) (ch 98)))) (opt (ch 98))) 1
three_marks = lone (item_more (once (group (several (front_one one_letter) (item_more (once (literal refl)) (item_one (once (literal refl))))))) (item_one (optional (literal refl))))
  where
    one_letter : Is a_branch (97 ∷ []) (ch 97) 0
    one_letter = item_one (once (literal refl))

-- mark 1 is the branch a, mark 2 the branch ab, mark 3 is b?
pub three_extents : extents 0 three_marks ≡ extent 1 2 ∷ extent 3 5 ∷ extent 6 8 ∷ []
unfolding three_marks extents
three_extents = refl
