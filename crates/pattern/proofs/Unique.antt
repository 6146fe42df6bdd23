-- The contract of `read` leaves one answer for each pattern. Assumes nothing.
use mathlib.Core.Path.{◌≡◌, refl, sym, ◌∙◌}
use mathlib.Core.Bool.{cond}
use mathlib.Core.List.{List}
use Prim.Native.Nat.{ℕ}
use lib.Dec.{eqb}
use Rattle.meaning.specs.ReadPattern as meaning
use Rattle.grammar.specs.ReadPromise.{read_one}
use Rattle.std.specs.declared.result.Result.{Result}
use Rattle.std.specs.declared.result.Result.TheVariants.{Ok, Err}
use Rattle.kinds.specs.declared.ReadPattern.{ReadPattern}
use Rattle.kinds.proofs.NodeLaws.{nodes_from, nodes_back}
use Rattle.kinds.proofs.WordLaws.{classes_from, classes_back}
use Rattle.pattern.specs.Answers.{number_of, value_of, parts_of, WithFours, Answers}
use Rattle.pattern.specs.declared.Refusal.{Refusal}
use Rattle.pattern.specs.declared.Refusal.TheVariants.{TooLong, NoPattern, TooDeep, ManyPositions, ManyMarks}

-- the answer that has this number and value, and these parts where it is no refusal
reading_of : ℕ → ℕ → meaning.ReadPattern → Result ReadPattern Refusal
reading_of n v P =
    cond (eqb n 0) (Ok (record { node = nodes_from P.kind P.arg; class = classes_from P.class; nodes = P.nodes; positions = P.positions; marks = P.marks }))
    (Err (cond (eqb n 1) TooLong (cond (eqb n 4) (NoPattern v) (cond (eqb n 5) TooDeep (cond (eqb n 6) ManyPositions ManyMarks)))))

reading_back : (a : Result ReadPattern Refusal) → WithFours a → reading_of (number_of a) (value_of a) (parts_of a) ≡ a
unfolding reading_of
reading_back (Ok P) f = rw (nodes_back P.node, classes_back P.class f) refl
reading_back (Err TooLong) f = refl
reading_back (Err (NoPattern place)) f = refl
reading_back (Err TooDeep) f = refl
reading_back (Err ManyPositions) f = refl
reading_back (Err ManyMarks) f = refl

pub answer_one : {pat : List ℕ} (a a' : Result ReadPattern Refusal) → Answers pat a → Answers pat a' → a ≡ a'
answer_one a a' h h' =
    let e = read_one h.0 h'.0 in
    sym (reading_back a h.1) ∙ rw (e.0, e.1, e.2) (reading_back a' h'.1)
