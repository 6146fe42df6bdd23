-- `rows::front_of` meets its contract. Assumes nothing.
use mathlib.Core.Path.{sym, ◌∙◌}
use Prim.Native.Nat.{◌+◌}
use native.Mathlib.Omega.{arith}
use borrow.Author.Rules.{rules}
use Rattle.lines.proofs.PutsLaws.{puts_wrote}
use Rattle.rows.proofs.FrontLaws.{Guess, guess, none_big, read_fits, read_none, front_printed}
use Rattle.rows.proofs.front_of.Goals as goal
use Rattle.rows.proofs.front_of.Goals.{After-number_in}

-- what is read as if all were well
guessed : (c : After-number_in) → Guess c.args.s.now (c.base.result + c.number_in.result)
guessed c = guess c.args.s.now _ _ c.base.ensures.value c.number_in.ensures

pub returns-in_err-t-in-len2-up : goal.returns-in_err-t-in-len2-up
returns-in_err-t-in-len2-up c =
    let s = c.args.s.now in
    let big = read_none _ c.try_from.result c.try_from.ensures (sym c.ok.ensures.value ∙ c.in_err-t-in-len2-up.was) in
    rw c.from_residual.ensures (none_big s _ (search rules) (guessed (goal.at.returns-in_err-t-in-len2-up c).After-number_in) (omega (arith, big)))

pub returns-in_ok-t-in-len2-up : goal.returns-in_ok-t-in-len2-up
returns-in_ok-t-in-len2-up c =
    let s = c.args.s.now in
    let t = c.in_ok-t-in-len2-up.t in
    let fits = read_fits _ c.try_from.result c.try_from.ensures (sym c.ok.ensures.value ∙ c.in_ok-t-in-len2-up.was) in
    let g : Guess s t = rw fits.1 at (guessed (goal.at.returns-in_ok-t-in-len2-up c).After-number_in) in
    let first = c.new-printed.ensures in
    rw c.then_some.ensures (front_printed s (search rules) g (omega arith) c.is_word.result c.is_word.ensures
    c.len-k.ensures (puts_wrote first.row first.front c.token.ensures.puts (search rules)) (search rules))
