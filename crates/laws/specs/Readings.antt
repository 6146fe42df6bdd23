-- The readings to check hold: each line of the table, by one test that is computed over the whole of it.
use Rattle.std.specs.Prelude.{◌≡◌, refl, Bool, true, false, ◌&&◌, cond, List, [], ◌∷◌, ℕ, ◌≤◌, T, eqb, leb}
use Rattle.std.proofs.Common.{eqb→eq, leb→le}
use Rattle.meaning.specs.Expression.{marks, size}
use Rattle.meaning.specs.Readings.{Line, line, Holds, holds, table}
use Rattle.grammar.specs.Machine.{kind, inner, start, run, Answer, none, read, result}
use Rattle.grammar.specs.Viable.{accepted}
use Rattle.grammar.specs.Fair.{pattern_fair}
use Rattle.grammar.specs.Each.{Each, each_map, both, each_passes}
use Rattle.positions.specs.Tests.{leads, nullable, reads, ends, reaches}
use Rattle.positions.specs.Runs.{enter_run, resume_run}
use Rattle.positions.specs.Texts.{text_run, rest_run}
use Rattle.positions.specs.Alive.{alive}
use Rattle.positions.specs.Theorem.{found, first_row, other_tree, first_tree, first_flag}

same : List ℕ → List ℕ → Bool
same [] [] = true
same [] (b ∷ t) = false
same (a ∷ s) [] = false
same (a ∷ s) (b ∷ t) = eqb a b && same s t

same_eq : (s t : List ℕ) → T (same s t) → s ≡ t
unfolding same
same_eq [] [] h = refl
same_eq [] (b ∷ t) h = absurd h
same_eq (a ∷ s) [] h = absurd h
same_eq (a ∷ s) (b ∷ t) h = let g = both (eqb a b) (same s t) h in rw (eqb→eq a b g.0, same_eq s t g.1)

-- the flag that a bit says
abbrev flag_of : Bool → ℕ
flag_of b = cond b 1 0

-- the test of a line: the machine reads the pattern, and the chain of runs gives the row and the flag
agrees : List ℕ → List ℕ → ℕ → Answer → Bool
agrees text row flag none = false
agrees text row flag (read e d) = leb (marks e) 127 && (found e text && (same (first_row e text) row && eqb (flag_of (other_tree e text)) flag))

right : Line → Bool
right (line pattern text row flag) = agrees text row flag (result (run start pattern))

agrees_holds : (pattern text row : List ℕ) (flag : ℕ) (a : Answer) → result (run start pattern) ≡ a → T (agrees text row flag a) → Holds (line pattern text row flag)
unfolding agrees
agrees_holds pattern text row flag none e t = absurd t
agrees_holds pattern text row flag (read e d) i t =
    let p = accepted {e = e} {d = d} pattern i in
    let few = both (leb (marks e) 127) _ t in
    let fits = both (found e text) _ few.1 in
    let rows = both (same (first_row e text) row) _ fits.1 in
    let h : marks e ≤ 127 = leb→le (marks e) 127 few.0 in
    let g = is_true (found e text) fits.0 in
    let r = same_eq (first_row e text) row rows.0 in
    let f = eqb→eq (flag_of (other_tree e text)) flag rows.1 in
    holds p (rw r at (first_tree e (pattern_fair p) h text g)) (rw f at (first_flag e (pattern_fair p) h text g))
  where
    is_true : (b : Bool) → T b → b ≡ true
    is_true true t = refl
    is_true false t = absurd t

pub table_holds : Each Holds table
unfolding table right agrees same kind inner marks size alive reads ends reaches leads nullable enter_run resume_run text_run rest_run
table_holds = each_map (λ l. right_holds l) (each_passes right table tt)
  where
    right_holds : (l : Line) → T (right l) → Holds l
    right_holds (line pattern text row flag) t = agrees_holds pattern text row flag (result (run start pattern)) refl t
