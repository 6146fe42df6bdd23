-- The sheet fits into the bytes that are lent for it: 1,000 numbers of two digits and 64 marks take 5,123 bytes at most.
use Rattle.std.specs.Prelude.{Bool, true, false, cond, List, [], ◌∷◌, map, ℕ, ◌-◌, ◌*◌, ◌≤◌, ◌<◌, eqb, ltb, length}
use Rattle.std.proofs.Common.{arith, length-append}
use Rattle.meaning.specs.declared.Record.{Record}
use Rattle.meaning.specs.Expression.{marks}
use Rattle.meaning.specs.Limits.{mark_limit, report_limit, last_limit, sheet_bytes}
use Rattle.meaning.specs.Desk.{digits}
use Rattle.meaning.specs.Night.{greatest, reports_in}
use Rattle.meaning.specs.Sheet.{line, lines, mark_lines, change, change_lines, sheet_text, tonight, Sheeted, much_last, sheeted}
use Rattle.grammar.specs.Each.{Each, each_none, each_more, each_map}
use Rattle.grammar.specs.ReadPromise.{refused_range}
use Rattle.laws.specs.Digits.{digits_few}
use Rattle.laws.specs.Figures.{Small, length_records, records_small}
use Rattle.laws.specs.Nights.{night_numbers, night_lengths, length_reports}

figure_digits : (n : ℕ) → n ≤ last_limit → length (digits 20 n) ≤ 7
figure_digits n h = digits_few 6 n (omega arith) (omega arith)

lines_few : {numbers : List ℕ} → Each (λ n. n < 100) numbers → length (lines numbers) ≤ 3 * length numbers
unfolding lines
lines_few each_none = omega arith
lines_few (each_more {x = n} h t) = simp length-append (omega (arith, digits_few 1 n (omega arith) h, lines_few t))

mark_lines_few : {rs : List Record} → Each Small rs → length (mark_lines rs) ≤ 24 * length rs
unfolding mark_lines
mark_lines_few each_none = omega arith
mark_lines_few (each_more {x = r} h t) =
    simp length-append (omega (arith, figure_digits r.turns h.few_turns, figure_digits r.bytes h.few_bytes, figure_digits r.longest h.few_longest, mark_lines_few t))

change_few : (turns last : ℕ) → turns ≤ last_limit → last ≤ last_limit → length (change turns last) ≤ 9
change_few turns last h g = go (eqb turns last) (ltb last turns)
  where
    go : (a b : Bool) → length (cond a (line 0) (cond b (43 ∷ line (turns - last)) (45 ∷ line (last - turns)))) ≤ 9
    go true b = rw length-append (omega (arith, figure_digits 0 (omega arith)))
    go false true = rw length-append (omega (arith, figure_digits (turns - last) (omega arith)))
    go false false = rw length-append (omega (arith, figure_digits (last - turns) (omega arith)))

change_lines_few : {rs : List Record} (last : List ℕ) → Each Small rs → greatest last ≤ last_limit → length (change_lines rs last) ≤ 9 * length rs
unfolding change_lines greatest
change_lines_few last each_none g = omega arith
change_lines_few [] (each_more h t) g = omega arith
change_lines_few (n ∷ last) (each_more {x = r} h t) g =
    simp length-append (omega (arith, change_few r.turns n h.few_turns (omega arith), change_lines_few last t (omega arith)))

pub sheet_fits : {numbers : List ℕ} {rs : List Record} (last : List ℕ) → length numbers ≤ report_limit → Each (λ n. n < 100) numbers
    → length rs ≤ mark_limit → Each Small rs → greatest last ≤ last_limit → length (sheet_text numbers rs last) ≤ sheet_bytes
unfolding sheet_text
sheet_fits {numbers = numbers} {rs = rs} last few two_digits few_marks small g =
    let reports = digits_few 3 (length numbers) (omega arith) (omega arith) in
    let each-count = digits_few 1 (length rs) (omega arith) (omega arith) in
    simp length-append (omega (arith, reports, lines_few two_digits, each-count, mark_lines_few small, change_lines_few last small g))

-- a sheet that is made: it fits, and its figures are small
pub sheeted_small : {pat bytes lengths last cells room sheet cells' room' sheet' : List ℕ} {table table' : List Record} {v : ℕ}
    → Sheeted pat bytes lengths last cells room table sheet 0 v cells' room' table' sheet' → (v ≤ sheet_bytes) × Each Small table'
sheeted_small (Sheeted.refused g r) = absurd (omega (arith, (refused_range r).0))
sheeted_small {bytes = bytes} {lengths = lengths} {last = last} (sheeted {e = e} {rows = rows} g a l m k t) =
    let reports : length (reports_in lengths bytes) ≤ report_limit = omega (arith, length_reports lengths bytes, l.few_reports) in
    let small = records_small a.few_marks reports t 0 (marks e) (omega (arith, a.few_marks)) in
    let few : length (tonight e rows) ≤ mark_limit = omega (arith, length_records rows 0 (marks e), a.few_marks) in
    (sheet_fits last (omega (arith, (night_lengths t).0)) (each_map (λ n (h : n < 10). omega arith) (night_numbers t)) few small k, small)

-- the turns of each mark, as they are handed in tomorrow
abbrev pub turns_of : List Record → List ℕ
turns_of table = map (λ (r : Record). r.turns) table

turns_small : {table : List Record} → Each Small table → greatest (turns_of table) ≤ last_limit
unfolding greatest
turns_small each_none = omega arith
turns_small (each_more h t) = omega (arith, h.few_turns, turns_small t)

-- tonight's turns, handed in tomorrow with whatever else, are never refused with 14
pub never_much : {pat bytes lengths last cells room sheet cells' room' sheet' : List ℕ} {table table' : List Record} {v : ℕ}
    → Sheeted pat bytes lengths last cells room table sheet 0 v cells' room' table' sheet'
    → {pat₁ bytes₁ lengths₁ cells₁ room₁ sheet₁ cells₂ room₂ sheet₂ : List ℕ} {table₁ table₂ : List Record} {w : ℕ}
    → Sheeted pat₁ bytes₁ lengths₁ (turns_of table') cells₁ room₁ table₁ sheet₁ 14 w cells₂ room₂ table₂ sheet₂ → ⊥
never_much a (Sheeted.refused g r) = omega (arith, (refused_range r).1)
never_much a (much_last g b l m x) = omega (arith, turns_small (sheeted_small a).1)
