-- `tree::judge::seek` meets its contract. Assumes nothing.
use Rattle.tree.proofs.Finding.{judgeable, seeks}
use Rattle.tree.proofs.judge.seek.Goals as goal

pub judge-requires-clause-judges : goal.judge-requires-clause-judges
judge-requires-clause-judges c =
    let p = c.requires.prepares.prepared in
    record { e = c.requires.prepares.e; judgeable = judgeable p _ _ (c.backward.ensures.backed _ p.preceding) c.type_inv.text c.requires.lent.0 c.requires.lent.1 }

pub returns-clause-seeks : goal.returns-clause-seeks
returns-clause-seeks c e p =
    let backed = c.backward.ensures.backed _ p.preceding in
    seeks p _ _ backed (c.judge.ensures.sought_as e (judgeable p _ _ backed c.type_inv.text c.requires.lent.0 c.requires.lent.1))
