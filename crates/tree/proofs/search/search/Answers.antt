-- `tree::search::search` meets its contract. Assumes nothing.
use Rattle.std.proofs.Common.{arith}
use Rattle.std.proofs.lemmas.Result.{err_from_is_err_and}
use Rattle.meaning.specs.Promise.{Ready}
use Rattle.pattern.proofs.Held.{Held, held, refusal_of_short}
use Rattle.tree.specs.Search.{refused}
use Rattle.tree.proofs.Searching.{ready, gives, searched}
use Rattle.tree.proofs.search.search.Goals as goal
use Rattle.tree.proofs.search.search.Goals.{After-fill, In_ok-fill}

-- nothing is refused before the pattern is read
in_order : (c : After-fill) → Ready c.args.pattern.now c.args.text.now c.args.cells.now
in_order c = ready (omega arith) (omega arith) (omega arith)

-- the reader accepted the pattern, and filled the rows
a-pattern : (c : In_ok-fill) → Held c.args.pattern.now c.fill.new.read
a-pattern c = held c.fill.ensures c.in_ok-fill.was

pub returns-in_err-fill : goal.returns-in_err-fill
returns-in_err-fill c =
    let p = err_from_is_err_and c.from_residual.result c.from_residual.ensures.1 in
    rw (p.1, p.2) (refused (in_order (goal.at.returns-in_err-fill c).After-fill) (refusal_of_short _ c.fill.ensures c.in_err-fill.was (omega arith)))

pub find-requires-clause-gives : goal.find-requires-clause-gives
find-requires-clause-gives c = gives c.type_inv.pattern (a-pattern (goal.at.find-requires-clause-gives c).In_ok-fill)

pub returns : goal.returns
returns c =
    searched c.type_inv.pattern (a-pattern (goal.at.returns c).In_ok-fill) (in_order (goal.at.returns c).After-fill) c.find.ensures
