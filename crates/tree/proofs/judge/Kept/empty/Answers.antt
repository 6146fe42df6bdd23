-- `tree::judge::Kept::empty` meets its contract. Assumes nothing.
use Rattle.std.proofs.Common.{refl}
use Rattle.tree.proofs.Finding.{serves_none}
use Rattle.tree.proofs.judge.Kept.empty.Goals as goal

pub returns : goal.returns
returns c pattern reader = serves_none (rw c.empty-none.ensures.is_none refl) (c.empty.ensures _ _)
