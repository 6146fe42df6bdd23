-- `tree::prepare::Reader::prepare` meets its contract. Assumes nothing.
use Rattle.tree.proofs.Finding.{prepared}
use Rattle.tree.proofs.prepare.Reader.prepare.Goals as goal

pub returns : goal.returns
returns c e marks g =
    let blank = c.requires.blank in
    prepared g c.fill-self.ensures.tabled (rw blank.masks at c.masks.ensures) (rw blank.pres at c.reverse.ensures)
