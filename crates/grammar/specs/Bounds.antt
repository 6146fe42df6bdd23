-- Nodes, marks, positions and depth of a pattern are bounded by its bytes.
use Rattle.std.specs.Prelude.{List, ℕ, ◌+◌, ◌*◌, ◌≤◌, length}
use Rattle.std.proofs.Common.{arith, length-append}
use Rattle.meaning.specs.Expression.{Re, marks, size}
use Rattle.meaning.specs.ReadPattern.{nodes}
use Rattle.meaning.specs.Grammar.{Part, an_atom, an_item, a_branch, fronts, a_list, Pattern}
use Rattle.meaning.specs.Grammar.{Is, literal, escaped, dot, class, unit, group, once, starred, plussed, optional, item_one, item_more, front_one, front_more, lone, several}

-- how much less than twice the length the nodes are
abbrev pub slack : Part → ℕ
slack an_atom = 1
slack an_item = 1
slack a_branch = 1
slack fronts = 2
slack a_list = 1

pub record Small (k : ℕ) (e : Re) (d l : ℕ) : Type 0 where
  pub few_nodes : nodes e + k ≤ 2 * l
  pub few_marks : marks e + 1 ≤ l
  pub few_positions : size e ≤ l
  pub shallow : 2 * d ≤ l

pub small : {p : Part} {s : List ℕ} {e : Re} {d : ℕ} → Is p s e d → Small (slack p) e d (length s)
unfolding nodes marks size
small (literal p) = omega arith
small escaped = omega arith
small dot = omega arith
small (class {s = s} c) = simp length-append (omega arith)
small unit = omega arith
small (group {s = s} p) = let h = small p in simp length-append (omega arith)
small (once a) = small a
small (starred {s = s} a) = let h = small a in simp length-append (omega arith)
small (plussed {s = s} a) = let h = small a in simp length-append (omega arith)
small (optional {s = s} a) = let h = small a in simp length-append (omega arith)
small (item_one i) = small i
small (item_more i b) = let h = small i in let g = small b in simp length-append (omega arith)
small (front_one b) = let h = small b in simp length-append (omega arith)
small (front_more f b) = let h = small f in let g = small b in simp length-append (omega arith)
small (lone b) = small b
small (several f b) = let h = small f in let g = small b in simp length-append (omega arith)

pub pattern_small : {s : List ℕ} {e : Re} {d : ℕ} → Pattern s e d → Small 1 e d (length s)
pattern_small p = small p
