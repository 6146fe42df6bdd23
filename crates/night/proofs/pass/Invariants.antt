-- `night::pass` meets its contract. The loop's invariant: i reports are passed, which end at byte `at`, and what is kept is right. Assumes nothing.
use Rattle.std.proofs.Common.{◌≡◌, drop}
use Rattle.meaning.specs.Expression.{Re}
use Rattle.meaning.specs.Limits.{night_cells}
use Rattle.tree.specs.Judge.{Prepared, Serves}
use Rattle.night.proofs.Going.{Going, Along}
use Rattle.night.proofs.pass.Given as goal

abbrev pub invariant-loop-i : goal.invariant-loop-i
invariant-loop-i l = record {
  along : Along l.reports l.lengths l.initial.cells l.cells l.initial.tree l.tree l.numbers l.figures l.i l.at;
  going : (e : Re) → Prepared e l.pattern l.reader → Going e l.reports l.lengths l.initial.tree l.i l.at l.tree l.numbers l.figures;
  past : drop night_cells l.cells ≡ drop night_cells l.initial.cells;
  serves : Serves l.pattern l.reader l.kept;
}
