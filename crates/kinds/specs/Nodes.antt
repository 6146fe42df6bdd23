-- The kinds of nodes, and the numbers beside them, as `meaning` has them. Assumes nothing: these are definitions.
use Rattle.std.specs.Prelude.{List, ℕ, ◌+◌, map}
use Rattle.kinds.specs.declared.Node.{Node}
use Rattle.kinds.specs.declared.Node.TheVariants.{Eps, Pos, Cat, Alt, Branch, Star, Plus, Opt, Other}

-- the kind of a node
abbrev pub kind_of : Node → ℕ
kind_of (Eps a) = 0
kind_of (Pos p) = 1
kind_of (Cat left) = 2
kind_of (Alt left) = 3
kind_of (Branch mark) = 4
kind_of (Star mark) = 5
kind_of (Plus mark) = 6
kind_of (Opt mark) = 7
kind_of (Other past a) = 8 + past

-- the number beside it
abbrev pub arg_of : Node → ℕ
arg_of (Eps a) = a
arg_of (Pos p) = p
arg_of (Cat left) = left
arg_of (Alt left) = left
arg_of (Branch mark) = mark
arg_of (Star mark) = mark
arg_of (Plus mark) = mark
arg_of (Opt mark) = mark
arg_of (Other past a) = a

-- those of a row of nodes
unfoldable pub kinds_of : List Node → List ℕ
kinds_of ns = map kind_of ns

unfoldable pub args_of : List Node → List ℕ
args_of ns = map arg_of ns
