-- A node and its parts, by the kind of the node. Assumes nothing.
use mathlib.Core.Path.{◌≡◌, refl, sym, ap, ◌∙◌}
use mathlib.Core.Bool.{Bool}
use mathlib.Core.List.{List}
use mathlib.Core.Logic.{◌⊎◌, inl, inr}
use Prim.Native.Nat.{ℕ, suc, ◌+◌, ◌-◌, ◌<◌, ◌≤◌}
use native.Mathlib.Omega.{arith}
use lib.ListN.{get_or}
use Rattle.kinds.specs.declared.Node.{Node}
use Rattle.kinds.specs.declared.Node.TheVariants.{Eps, Pos, Cat, Alt, Branch, Star, Plus, Opt, Other}
use Rattle.kinds.specs.Nodes.{kind_of, arg_of, kinds_of, args_of}
use Rattle.kinds.proofs.NodeLaws.{kind_at, arg_at}
use Rattle.meaning.specs.Expression.{Re, eps, pos, cat, alt, branch, star, plus, opt, marks, size}
use Rattle.meaning.specs.ReadPattern.{nodes}
use Rattle.grammar.specs.Holds.{Holds, h_eps, h_pos, h_cat, h_alt, h_branch, h_star, h_plus, h_opt, Unary, Binary}
use Rattle.sets.specs.Members.{limit}
use Rattle.walks.specs.Tables.{Held}

-- node i is of kind k, beside the number arg: it has no parts; it has one part; it has two
pub record Bare (ks gs : List ℕ) (i k arg : ℕ) : Type 0 where
  pub kind : get_or ks i 0 ≡ k
  pub beside : get_or gs i 0 ≡ arg
  pub none : k < 2

pub record Sole (ks gs : List ℕ) (i k arg : ℕ) : Type 0 where
  pub kind : get_or ks i 0 ≡ k
  pub beside : get_or gs i 0 ≡ arg
  pub one : 3 < k

pub record Pair (ks gs : List ℕ) (i k arg : ℕ) : Type 0 where
  pub kind : get_or ks i 0 ≡ k
  pub beside : get_or gs i 0 ≡ arg
  pub from_two : 2 ≤ k
  pub to_three : k ≤ 3

-- e, of a node of kind k, has no parts; the one part x; the parts x and y
pub data Leaf (p : ℕ) : ℕ → ℕ → Re → Type 0 where
  leaf_eps : {a : ℕ} → Leaf p 0 a eps
  leaf_pos : {a : ℕ} {c : ℕ → Bool} → a ≡ p → Leaf p 1 a (pos c)

pub data One : ℕ → Re → Re → Type 0 where
  one_branch : {x : Re} → One 4 x (branch x)
  one_star : {x : Re} → One 5 x (star x)
  one_plus : {x : Re} → One 6 x (plus x)
  one_opt : {x : Re} → One 7 x (opt x)

pub data Two : ℕ → Re → Re → Re → Type 0 where
  two_cat : {x y : Re} → Two 2 x y (cat x y)
  two_alt : {x y : Re} → Two 3 x y (alt x y)

-- what a node with one part holds; with two
pub record Single (ks gs : List ℕ) (m p i k arg : ℕ) (e : Re) : Type 0 where
  pub x : Re
  pub is : One k x e
  pub above : 0 < i
  pub mark : arg ≡ suc m
  pub part : Holds ks gs (suc m) p (i - 1) x

pub record Double (ks gs : List ℕ) (m p i k arg : ℕ) (e : Re) : Type 0 where
  pub x : Re
  pub y : Re
  pub is : Two k x y e
  pub before : suc (arg + nodes y) ≡ i
  pub left : Holds ks gs m p arg x
  pub right : Holds ks gs (m + marks x) (p + size x) (i - 1) y

-- a node that holds an expression is of one of eight kinds
pub eight_kinds : {ks gs : List ℕ} {m p i : ℕ} {e : Re} → Holds ks gs m p i e → get_or ks i 0 < 8
eight_kinds (h_eps n) = omega (arith, n.kind)
eight_kinds (h_pos n a) = omega (arith, n.kind)
eight_kinds (h_cat b x y) = omega (arith, b.node.kind)
eight_kinds (h_alt b x y) = omega (arith, b.node.kind)
eight_kinds (h_branch u x) = omega (arith, u.node.kind)
eight_kinds (h_star u x) = omega (arith, u.node.kind)
eight_kinds (h_plus u x) = omega (arith, u.node.kind)
eight_kinds (h_opt u x) = omega (arith, u.node.kind)

module _ {ks gs : List ℕ} {m p i k arg : ℕ} where
  unary : {n : ℕ} {x e : Re} → Sole ks gs i k arg → Unary ks gs i n (suc m) → Holds ks gs (suc m) p (i - 1) x → One n x e → Single ks gs m p i k arg e
  unary {x = x} N u h o = record { x = x; is = rw (sym N.kind, u.node.kind) o; above = u.above; mark = sym N.beside ∙ u.mark; part = h }

  binary : {n : ℕ} {x y e : Re} → Pair ks gs i k arg → Binary ks gs i n (nodes y)
      → Holds ks gs m p (get_or gs i 0) x → Holds ks gs (m + marks x) (p + size x) (i - 1) y → Two n x y e → Double ks gs m p i k arg e
  binary {x = x} {y = y} N b l r o =
      record { x = x; y = y; is = rw (sym N.kind, b.node.kind) o; before = omega (arith, b.left, N.beside); left = rw N.beside at l; right = r }

  pub leaf : {e : Re} → Bare ks gs i k arg → Holds ks gs m p i e → Leaf p k arg e
  leaf N (h_eps n) = rw (sym N.kind, n.kind) leaf_eps
  leaf N (h_pos n a) = rw (sym N.kind, n.kind) (leaf_pos (sym N.beside ∙ a))
  leaf N (h_cat b x y) = absurd (omega (arith, N.none, N.kind, b.node.kind))
  leaf N (h_alt b x y) = absurd (omega (arith, N.none, N.kind, b.node.kind))
  leaf N (h_branch u x) = absurd (omega (arith, N.none, N.kind, u.node.kind))
  leaf N (h_star u x) = absurd (omega (arith, N.none, N.kind, u.node.kind))
  leaf N (h_plus u x) = absurd (omega (arith, N.none, N.kind, u.node.kind))
  leaf N (h_opt u x) = absurd (omega (arith, N.none, N.kind, u.node.kind))

  pub single : {e : Re} → Sole ks gs i k arg → Holds ks gs m p i e → Single ks gs m p i k arg e
  single N (h_eps n) = absurd (omega (arith, N.one, N.kind, n.kind))
  single N (h_pos n a) = absurd (omega (arith, N.one, N.kind, n.kind))
  single N (h_cat b x y) = absurd (omega (arith, N.one, N.kind, b.node.kind))
  single N (h_alt b x y) = absurd (omega (arith, N.one, N.kind, b.node.kind))
  single N (h_branch u x) = unary N u x one_branch
  single N (h_star u x) = unary N u x one_star
  single N (h_plus u x) = unary N u x one_plus
  single N (h_opt u x) = unary N u x one_opt

  pub double : {e : Re} → Pair ks gs i k arg → Holds ks gs m p i e → Double ks gs m p i k arg e
  double N (h_eps n) = absurd (omega (arith, N.from_two, N.kind, n.kind))
  double N (h_pos n a) = absurd (omega (arith, N.from_two, N.kind, n.kind))
  double N (h_cat b x y) = binary N b x y two_cat
  double N (h_alt b x y) = binary N b x y two_alt
  double N (h_branch u x) = absurd (omega (arith, N.to_three, N.kind, u.node.kind))
  double N (h_star u x) = absurd (omega (arith, N.to_three, N.kind, u.node.kind))
  double N (h_plus u x) = absurd (omega (arith, N.to_three, N.kind, u.node.kind))
  double N (h_opt u x) = absurd (omega (arith, N.to_three, N.kind, u.node.kind))

  -- a node with parts has a node before it
  pub above_one : {e : Re} → Sole ks gs i k arg → Holds ks gs m p i e → 0 < i
  above_one N h = (single N h).above

  pub above_two : {e : Re} → Pair ks gs i k arg → Holds ks gs m p i e → 0 < i
  above_two N h = omega (arith, (double N h).before)

-- ---- what a node of a row of nodes is in its rows of numbers

module _ (ns : List Node) (i : ℕ) where
  -- node i is x
  abbrev Here : Node → Type 0
  Here x = get_or ns i (Eps 0) ≡ x

  pub eps_at : {arg : ℕ} → Here (Eps arg) → Bare (kinds_of ns) (args_of ns) i 0 arg
  eps_at e = record { kind = kind_at ns i _ e; beside = arg_at ns i _ e; none = omega arith }

  pub pos_at : {q : ℕ} → Here (Pos q) → Bare (kinds_of ns) (args_of ns) i 1 q
  pos_at e = record { kind = kind_at ns i _ e; beside = arg_at ns i _ e; none = omega arith }

  pub cat_at : {left : ℕ} → Here (Cat left) → Pair (kinds_of ns) (args_of ns) i 2 left
  cat_at e = record { kind = kind_at ns i _ e; beside = arg_at ns i _ e; from_two = omega arith; to_three = omega arith }

  pub alt_at : {left : ℕ} → Here (Alt left) → Pair (kinds_of ns) (args_of ns) i 3 left
  alt_at e = record { kind = kind_at ns i _ e; beside = arg_at ns i _ e; from_two = omega arith; to_three = omega arith }

  pub pair_at : {left : ℕ} → Here (Cat left) ⊎ Here (Alt left) → Pair (kinds_of ns) (args_of ns) i (kind_of (get_or ns i (Eps 0))) left
  pair_at (inl e) = rw e (cat_at e)
  pair_at (inr e) = rw e (alt_at e)

  -- one of two kinds, both of one part, under the same mark
  sole_at : {x y : Node} {mark : ℕ} → 3 < kind_of x → 3 < kind_of y → arg_of x ≡ mark → arg_of y ≡ mark → Here x ⊎ Here y
      → Sole (kinds_of ns) (args_of ns) i (kind_of (get_or ns i (Eps 0))) mark × ((kind_of (get_or ns i (Eps 0)) ≡ kind_of x) ⊎ (kind_of (get_or ns i (Eps 0)) ≡ kind_of y))
  sole_at k k' a a' (inl e) = (record { kind = kind_at ns i _ refl; beside = arg_at ns i _ e ∙ a; one = rw e k }, inl (ap kind_of e))
  sole_at k k' a a' (inr e) = (record { kind = kind_at ns i _ refl; beside = arg_at ns i _ e ∙ a'; one = rw e k' }, inr (ap kind_of e))

  -- it is of this kind, whatever stands beside it
  abbrev Some : (ℕ → Node) → Type 0
  Some of = (x : ℕ) × Here (of x)

  -- it is of no kind that a pattern has, so it holds no expression
  abbrev Strange : Type 0
  Strange = (x : ℕ) × (y : ℕ) × Here (Other x y)

  no_part : Strange → get_or (kinds_of ns) i 0 < 8 → ⊥
  no_part s h = omega (arith, h, kind_at ns i _ s.2)

  one_at : {x : Node} → 3 < kind_of x → Here x → Sole (kinds_of ns) (args_of ns) i (kind_of (get_or ns i (Eps 0))) (arg_of (get_or ns i (Eps 0)))
  one_at k e = record { kind = kind_at ns i _ refl; beside = arg_at ns i _ refl; one = rw e k }

  pub any_at : Some Branch ⊎ (Some Star ⊎ (Some Plus ⊎ Some Opt)) → Sole (kinds_of ns) (args_of ns) i (kind_of (get_or ns i (Eps 0))) (arg_of (get_or ns i (Eps 0)))
  any_at (inl e) = one_at (omega arith) e.1
  any_at (inr (inl e)) = one_at (omega arith) e.1
  any_at (inr (inr (inl e))) = one_at (omega arith) e.1
  any_at (inr (inr (inr e))) = one_at (omega arith) e.1

  pub leaf_at : Some Eps ⊎ Some Pos → Bare (kinds_of ns) (args_of ns) i (kind_of (get_or ns i (Eps 0))) (arg_of (get_or ns i (Eps 0)))
  leaf_at (inl e) = rw e.1 (eps_at e.1)
  leaf_at (inr e) = rw e.1 (pos_at e.1)

  -- an arm that has these kinds too: of a node that holds an expression it is one of the others
  pub empty_at : Some Eps ⊎ Strange → get_or (kinds_of ns) i 0 < 8 → Bare (kinds_of ns) (args_of ns) i 0 (arg_of (get_or ns i (Eps 0)))
  empty_at (inl e) h = rw e.1 (eps_at e.1)
  empty_at (inr s) h = absurd (no_part s h)

  pub leaf_of_eight : Some Eps ⊎ (Some Pos ⊎ Strange) → get_or (kinds_of ns) i 0 < 8 → Bare (kinds_of ns) (args_of ns) i (kind_of (get_or ns i (Eps 0))) (arg_of (get_or ns i (Eps 0)))
  leaf_of_eight (inl e) h = leaf_at (inl e)
  leaf_of_eight (inr (inl e)) h = leaf_at (inr e)
  leaf_of_eight (inr (inr s)) h = absurd (no_part s h)

  -- a node of two parts is one of the two
  pub two_at : 2 ≤ get_or (kinds_of ns) i 0 → get_or (kinds_of ns) i 0 ≤ 3 → Some Cat ⊎ Some Alt
  two_at k k' = go (get_or ns i (Eps 0)) refl
    where
      go : (x : Node) → get_or ns i (Eps 0) ≡ x → Some Cat ⊎ Some Alt
      go (Eps a) e = absurd (omega (arith, kind_at ns i (Eps a) e))
      go (Pos q) e = absurd (omega (arith, kind_at ns i (Pos q) e))
      go (Cat left) e = inl (left, e)
      go (Alt left) e = inr (left, e)
      go (Branch mark) e = absurd (omega (arith, kind_at ns i (Branch mark) e))
      go (Star mark) e = absurd (omega (arith, kind_at ns i (Star mark) e))
      go (Plus mark) e = absurd (omega (arith, kind_at ns i (Plus mark) e))
      go (Opt mark) e = absurd (omega (arith, kind_at ns i (Opt mark) e))
      go (Other past a) e = absurd (omega (arith, kind_at ns i (Other past a) e))

  -- the kinds that some arm has together
  pub star_plus_at : Some Star ⊎ Some Plus
      → Sole (kinds_of ns) (args_of ns) i (kind_of (get_or ns i (Eps 0))) (arg_of (get_or ns i (Eps 0))) × ((kind_of (get_or ns i (Eps 0)) ≡ 5) ⊎ (kind_of (get_or ns i (Eps 0)) ≡ 6))
  star_plus_at (inl e) = (one_at (omega arith) e.1, inl (ap kind_of e.1))
  star_plus_at (inr e) = (one_at (omega arith) e.1, inr (ap kind_of e.1))

  pub branch_opt_at : Some Branch ⊎ Some Opt
      → Sole (kinds_of ns) (args_of ns) i (kind_of (get_or ns i (Eps 0))) (arg_of (get_or ns i (Eps 0))) × ((kind_of (get_or ns i (Eps 0)) ≡ 4) ⊎ (kind_of (get_or ns i (Eps 0)) ≡ 7))
  branch_opt_at (inl e) = (one_at (omega arith) e.1, inl (ap kind_of e.1))
  branch_opt_at (inr e) = (one_at (omega arith) e.1, inr (ap kind_of e.1))

  -- and with their mark
  module _ {mark : ℕ} where
    pub star_opt_of : Here (Star mark) ⊎ Here (Opt mark) → Sole (kinds_of ns) (args_of ns) i (kind_of (get_or ns i (Eps 0))) mark × ((kind_of (get_or ns i (Eps 0)) ≡ 5) ⊎ (kind_of (get_or ns i (Eps 0)) ≡ 7))
    star_opt_of = sole_at (omega arith) (omega arith) refl refl

    pub branch_plus_of : Here (Branch mark) ⊎ Here (Plus mark) → Sole (kinds_of ns) (args_of ns) i (kind_of (get_or ns i (Eps 0))) mark × ((kind_of (get_or ns i (Eps 0)) ≡ 4) ⊎ (kind_of (get_or ns i (Eps 0)) ≡ 6))
    branch_plus_of = sole_at (omega arith) (omega arith) refl refl

    pub star_plus_of : Here (Star mark) ⊎ Here (Plus mark) → Sole (kinds_of ns) (args_of ns) i (kind_of (get_or ns i (Eps 0))) mark × ((kind_of (get_or ns i (Eps 0)) ≡ 5) ⊎ (kind_of (get_or ns i (Eps 0)) ≡ 6))
    star_plus_of = sole_at (omega arith) (omega arith) refl refl

    pub branch_opt_of : Here (Branch mark) ⊎ Here (Opt mark) → Sole (kinds_of ns) (args_of ns) i (kind_of (get_or ns i (Eps 0))) mark × ((kind_of (get_or ns i (Eps 0)) ≡ 4) ⊎ (kind_of (get_or ns i (Eps 0)) ≡ 7))
    branch_opt_of = sole_at (omega arith) (omega arith) refl refl

-- how many nodes, positions and marks a node has, from its parts
pub record Sizes (e : Re) (n s h : ℕ) : Type 0 where
  pub nodes_are : nodes e ≡ n
  pub size_is : size e ≡ s
  pub marks_are : marks e ≡ h

pub one_sizes : {k : ℕ} {x e : Re} → One k x e → Sizes e (suc (nodes x)) (size x) (suc (marks x))
unfolding nodes size marks
one_sizes one_branch = record { nodes_are = refl; size_is = refl; marks_are = refl }
one_sizes one_star = record { nodes_are = refl; size_is = refl; marks_are = refl }
one_sizes one_plus = record { nodes_are = refl; size_is = refl; marks_are = refl }
one_sizes one_opt = record { nodes_are = refl; size_is = refl; marks_are = refl }

pub two_sizes : {k : ℕ} {x y e : Re} → Two k x y e → Sizes e (suc (nodes x + nodes y)) (size x + size y) (marks x + marks y)
unfolding nodes size marks
two_sizes two_cat = record { nodes_are = refl; size_is = refl; marks_are = refl }
two_sizes two_alt = record { nodes_are = refl; size_is = refl; marks_are = refl }

pub leaf_nodes : {p k a : ℕ} {e : Re} → Leaf p k a e → nodes e ≡ 1
unfolding nodes
leaf_nodes leaf_eps = refl
leaf_nodes (leaf_pos h) = refl

-- a position is among those that a set can have
leaf_place : {p k a : ℕ} {e : Re} → Leaf p k a e → k ≡ 1 → p + size e ≤ limit → a < limit
unfolding size
leaf_place leaf_eps z l = absurd (omega arith)
leaf_place (leaf_pos h) z l = omega arith

pub held_place : {ks gs : List ℕ} {i q : ℕ} → Held ks gs i → Bare ks gs i 1 q → q < limit
held_place s N = leaf_place (leaf N s.holds) refl s.few

-- ---- the parts of a node are held, at smaller numbers

module _ {ks gs : List ℕ} {i : ℕ} (s : Held ks gs i) where
  abbrev Below : ℕ → Type 0
  Below j = (j < i) × Held ks gs j

  pub held_part : {k arg : ℕ} → Sole ks gs i k arg → Below (i - 1)
  held_part N =
      let v = single N s.holds in
      (omega (arith, v.above), record { e = v.x; m = suc s.m; p = s.p; holds = v.part; within = omega (arith, s.within); few = omega (arith, s.few, (one_sizes v.is).size_is) })

  module _ {k arg : ℕ} (N : Pair ks gs i k arg) where
    pub held_left : Below arg
    held_left =
        let v = double N s.holds in
        (omega (arith, v.before), record { e = v.x; m = s.m; p = s.p; holds = v.left; within = omega (arith, s.within, v.before); few = omega (arith, s.few, (two_sizes v.is).size_is) })

    pub held_right : Below (i - 1)
    held_right =
        let v = double N s.holds in (
          omega (arith, v.before),
          record {
            e = v.y;
            m = s.m + marks v.x;
            p = s.p + size v.x;
            holds = v.right;
            within = omega (arith, s.within);
            few = omega (arith, s.few, (two_sizes v.is).size_is);
          },
        )
