-- `tree::search::find` meets its contract. Assumes nothing.
use Rattle.tree.proofs.search.find.Goals as goal

pub seek-outcome-requires-clause-prepares : goal.seek-outcome-requires-clause-prepares
seek-outcome-requires-clause-prepares c = record { e = c.requires.gives.e; prepared = c.prepare.ensures _ _ c.requires.gives.given }

pub seek-outcome-requires-clause-serves : goal.seek-outcome-requires-clause-serves
seek-outcome-requires-clause-serves c = c.empty-kept.ensures _ _
