-- `lines::desk::answered` meets its contract. Assumes nothing.
use mathlib.Core.Path.{◌≡◌, refl}
use native.Mathlib.Omega.{arith}
use Prim.Native.Nat.{◌≤◌}
use lib.ListN.{take, length-take}
use borrow.Author.Rules.{rules}
use Rattle.std.specs.Prelude.{Ok}
use Rattle.meaning.specs.Desk.{answer_line, desk_lines}
use Rattle.tree.specs.Outcome.{number_of, value_of, flag_of}
use Rattle.lines.specs.Wrote.{longest}
use Rattle.lines.specs.Puts.{Puts}
use Rattle.lines.proofs.AnswerLaws.{tree_fits, answer_of, no_tree}
use Rattle.lines.proofs.PutsLaws.{puts_wrote, puts_tree, puts_refusal}
use Rattle.lines.proofs.desk.answered.Goals as goal
use Rattle.lines.proofs.desk.answered.Goals.{in-Ok, in_default}

pub slice_bounds-room-end : goal.slice_bounds-room-end
slice_bounds-room-end c = tree_fits c.first_tree-got.result {tree = c.in-Ok.tree} c.first_tree-got.ensures (search rules)

pub slice_bounds-tree_line-end : goal.slice_bounds-tree_line-end
slice_bounds-tree_line-end c =
    let got = c.first_tree-got in
    omega (arith, tree_fits got.result {tree = c.in-Ok.tree} got.ensures (search rules), length-take c.in-Ok.tree.length got.new.tree)

pub returns : goal.returns
returns c =
    let got = c.first_tree-got.result in
    let room = c.first_tree-got.new.tree in
    let lines = c.match-got.lines in
    let n = number_of got in
    let v = value_of got in
    let f = flag_of got in
    let first : Puts c.new-lines.result (answer_line n v f) c.answer_line.new.self = rw (c.number.ensures, c.value.ensures, c.flag.ensures) at c.answer_line.ensures.puts in
    let both : Puts c.new-lines.result (desk_lines n v f (take v room)) lines × (lines.at ≤ longest) = elim c.match-got.branch [
      | in-Ok w ↦ let is : got ≡ Ok w.in-Ok.tree = search rules in rw (w.lines-is, is) (puts_tree _ _ _ _ refl (rw is at first) w.tree_line.ensures.puts, omega (arith, length-take w.in-Ok.tree.length room))
      | in_default w ↦ rw w.lines-is (puts_refusal n v f (take v room) (no_tree got w.in_default.not-Ok) first, search rules)
    ] in
    let front = c.new-lines.ensures in
    answer_of c.first_tree-got.ensures (rw c.len.ensures (puts_wrote front.row front.front both.0 (search rules))) (omega (arith, both.1))
