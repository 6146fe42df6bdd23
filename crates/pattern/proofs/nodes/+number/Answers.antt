-- The walk that numbers the marks: node i has no part, two, or one and a mark. Assumes nothing.
use Rattle.std.proofs.Common.{◌∙◌, ◌+◌, ℕ, set, arith}
use Rattle.kinds.specs.Nodes.{kinds_of, args_of}
use Rattle.kinds.proofs.NodeLaws.{leaf_at, pair_at, marked_at}
use Rattle.pattern.proofs.Marks.{splits, carries, Remarked, remarked, leaf_numbers, pair_numbers, over_numbers}
use Rattle.pattern.proofs.nodes.+number.Goals as goal
use Rattle.pattern.proofs.nodes.+number.Goals.{After-with_mark}

pub returns-in-Eps-clause-args : goal.returns-in-Eps-clause-args
returns-in-Eps-clause-args t c = leaf_numbers (leaf_at _ _ c.in-Eps.is)

-- ---- two parts

pub number-n-requires : goal.number-n-requires
number-n-requires t c = let s = splits c.requires (pair_at _ _ _ c.in-Cat.is) in (omega (arith, s.above), s.left)

pub overflow_sub-i-in-Cat : goal.overflow_sub-i-in-Cat
overflow_sub-i-in-Cat t c = let s = splits c.requires (pair_at _ _ _ c.in-Cat.is) in omega (arith, s.above)

pub number-requires-in-Cat : goal.number-requires-in-Cat
number-requires-in-Cat t c =
    let s = splits c.requires (pair_at _ _ _ c.in-Cat.is) in
    (omega (arith, s.above), rw c.number-n.ensures.kinds (s.right _ _ c.number-n.ensures.args))

pub returns-in-Cat-clause-args : goal.returns-in-Cat-clause-args
returns-in-Cat-clause-args t c =
    pair_numbers (pair_at _ _ _ c.in-Cat.is) c.number-n.ensures.args (rw c.number-n.ensures.kinds at c.number-in-Cat.ensures.args)

-- ---- one part, and a mark

-- node i has a mark, and a new one is written
written : {t : ℕ} (c : After-with_mark t)
    → let ns = c.args.nodes.now in let ns' = set ns c.args.i c.with_mark.result in Remarked (kinds_of ns) (args_of ns) (kinds_of ns') (args_of ns') c.args.i (c.args.m + 1)
written c =
    let marked = marked_at _ _ c.in_default.not-Eps c.in_default.not-Pos c.in_default.not-Cat c.in_default.not-Alt in
    remarked _ _ _ marked c.with_mark.ensures.kind c.with_mark.ensures.arg

pub overflow_add-mark : goal.overflow_add-mark
overflow_add-mark t c =
    let s = carries c.requires (marked_at _ _ c.in_default.not-Eps c.in_default.not-Pos c.in_default.not-Cat c.in_default.not-Alt) in omega (arith, s.few)

pub overflow_sub-i : goal.overflow_sub-i
overflow_sub-i t c = let s = carries c.requires (written (goal.at.overflow_sub-i t c).After-with_mark).marked in omega (arith, s.above)

pub number-requires : goal.number-requires
number-requires t c =
    let w = written (goal.at.number-requires t c).After-with_mark in
    let s = carries c.requires w.marked in
    (omega (arith, s.above), s.inner _ _ w)

pub returns-in_default-clause-kinds : goal.returns-in_default-clause-kinds
returns-in_default-clause-kinds t c = c.number.ensures.kinds ∙ (written (goal.at.returns-in_default-clause-kinds t c).After-with_mark).kinds

pub returns-in_default-clause-args : goal.returns-in_default-clause-args
returns-in_default-clause-args t c = over_numbers (written (goal.at.returns-in_default-clause-args t c).After-with_mark) c.number.ensures.args
