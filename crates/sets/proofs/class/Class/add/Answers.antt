-- `sets::class::Class::add` meets its contract. Assumes nothing.
use mathlib.Core.Path.{◌≡◌}
use lib.ListN.{length}
use native.Mathlib.Omega.{arith}
use borrow.Author.Rules.{rules}
use Rattle.sets.specs.Classes.{among}
use Rattle.bits.proofs.Rows.{words_with}
use Rattle.sets.proofs.class.Class.add.Goals as goal

pub returns : goal.returns
unfolding among
returns c q =
    let l = c.args.self.now.words in
    let four : length l ≡ 4 = search rules in
    words_with 64 l c.args.b q (omega arith) (omega arith)
