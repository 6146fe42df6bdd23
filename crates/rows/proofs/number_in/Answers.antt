-- `rows::number_in` meets its contract. Assumes nothing.
use borrow.Author.Rules.{rules}
use Rattle.rows.proofs.NumberLaws.{sofar_none, sofar_other, sofar_big, sofar_end, sofar_more}
use Rattle.rows.proofs.number_in.Goals as goal
use Rattle.rows.proofs.number_in.Goals.{then-not-is_ascii_digit-via-then-not-is_ascii_digit, then-not-is_ascii_digit-via-else-not-is_ascii_digit+then-v-gt65535}

pub loop-b-init : goal.loop-b-init
loop-b-init c = sofar_none _

pub returns-then-not-is_ascii_digit : goal.returns-then-not-is_ascii_digit
returns-then-not-is_ascii_digit c = let sofar = c.loop-b.invariant in
    elim c.then-not-is_ascii_digit.branch [
      | then-not-is_ascii_digit-via-then-not-is_ascii_digit w ↦ sofar_other _ _ _ sofar (search rules) w.if-not-is_ascii_digit.ensures.cases
      | then-not-is_ascii_digit-via-else-not-is_ascii_digit+then-v-gt65535 w ↦ sofar_big _ _ _ sofar w.if-v-gt65535.true
    ]

pub loop-b-preserved : goal.loop-b-preserved
loop-b-preserved c = sofar_more _ _ _ c.loop-b.invariant (search rules) (search rules) (search rules) (search rules)

pub returns-after-loop-b : goal.returns-after-loop-b
returns-after-loop-b c = sofar_end _ _ _ c.loop-b.invariant (search rules)
