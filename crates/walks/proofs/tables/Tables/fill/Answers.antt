-- `Tables::fill`: each walk begins at the last node, and finds the tables before it filled.
use Rattle.walks.proofs.Rooted.{root_known, root_scanned, root_tabled}
use Rattle.walks.proofs.tables.Tables.fill.Goals as goal

pub returns-clause-tabled : goal.returns-clause-tabled
returns-clause-tabled c =
    let root = c.requires.root in
    let opens = c.opens_first.ensures in
    root_tabled root (root_scanned root c.may_be_empty.ensures opens.walked_first opens.long) (root_known root opens.walked_upto)
    c.empty-none.ensures.members c.may_follow.ensures.long c.may_follow.ensures.follows
