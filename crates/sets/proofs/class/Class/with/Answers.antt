-- `sets::class::Class::with` meets its contract. Assumes nothing.
use mathlib.Core.Path.{◌≡◌, ap, ◌∙◌}
use Prim.Native.Nat.{ℕ, ◌/◌, ◌%◌}
use native.Mathlib.Omega.{arith}
use borrow.Author.Rules.{rules}
use lib.ListN.{length, length-set}
use Rattle.bits.specs.Bit.{bit}
use Rattle.bits.proofs.Rows.{words_with}
use Rattle.sets.specs.Classes.{among}
use Rattle.sets.proofs.ClassLaws.{four_words}
use Rattle.sets.proofs.class.Class.with.Goals as goal

pub returns : goal.returns
unfolding among
returns c q =
    let l = c.args.self.words in
    let four : length l ≡ 4 = search rules in
    ap (λ (x : ℕ). bit 64 x (q % 64))
    (four_words _ _ _ _ _ (length-set l _ _ ∙ four) c.word_with.ensures c.word_with-2.ensures c.word_with-3.ensures c.word_with-4.ensures (q / 64))
    ∙ words_with 64 l c.args.b q (omega arith) (omega arith)
