-- Each side of every alternative of a pattern begins with a mark.
use Rattle.std.specs.Prelude.{Bool, List, ℕ}
use Rattle.meaning.specs.Expression.{Re, eps, pos, cat, alt, branch, star, plus, opt}
use Rattle.meaning.specs.Grammar.{Part, an_atom, an_item, a_branch, fronts, a_list, Pattern}
use Rattle.meaning.specs.Grammar.{Is, literal, escaped, dot, class, unit, group, once, starred, plussed, optional, item_one, item_more, front_one, front_more, lone, several}

-- every row of e begins with a mark
pub data Marked : Re → Type 0 where
  k_cat : {x y : Re} → Marked x → Marked (cat x y)
  k_alt : {x y : Re} → Marked x → Marked y → Marked (alt x y)
  k_branch : {x : Re} → Marked (branch x)
  k_plus : {x : Re} → Marked (plus x)

-- both sides of every alternative in e are marked
pub data Fair : Re → Type 0 where
  f_eps : Fair eps
  f_pos : {c : ℕ → Bool} → Fair (pos c)
  f_cat : {x y : Re} → Fair x → Fair y → Fair (cat x y)
  f_alt : {x y : Re} → Marked x → Marked y → Fair x → Fair y → Fair (alt x y)
  f_branch : {x : Re} → Fair x → Fair (branch x)
  f_star : {x : Re} → Fair x → Fair (star x)
  f_plus : {x : Re} → Fair x → Fair (plus x)
  f_opt : {x : Re} → Fair x → Fair (opt x)

-- what stands before a | is marked too
abbrev Claim : Part → Re → Type 0
Claim an_atom e = Fair e
Claim an_item e = Fair e
Claim a_branch e = Fair e
Claim fronts e = Marked e × Fair e
Claim a_list e = Fair e

fair : {p : Part} {s : List ℕ} {e : Re} {d : ℕ} → Is p s e d → Claim p e
fair (literal h) = f_pos
fair escaped = f_pos
fair dot = f_pos
fair (class c) = f_pos
fair unit = f_eps
fair (group p) = fair p
fair (once a) = fair a
fair (starred a) = f_star (fair a)
fair (plussed a) = f_plus (fair a)
fair (optional a) = f_opt (fair a)
fair (item_one i) = fair i
fair (item_more i b) = f_cat (fair i) (fair b)
fair (front_one b) = (k_branch, f_branch (fair b))
fair (front_more f b) = let g = fair f in (k_alt g.0 k_branch, f_alt g.0 k_branch g.1 (f_branch (fair b)))
fair (lone b) = fair b
fair (several f b) = let g = fair f in f_alt g.0 k_branch g.1 (f_branch (fair b))

pub pattern_fair : {s : List ℕ} {e : Re} {d : ℕ} → Pattern s e d → Fair e
pattern_fair p = fair p
