-- The walk that numbers the marks: the parts of a node, and what is numbered once they are. Assumes nothing.
use mathlib.Core.Path.{◌≡◌, refl, sym, ◌∙◌, ap}
use mathlib.Core.List.{List, [], ◌∷◌, ◌++◌}
use Prim.Native.Nat.{ℕ, suc, ◌+◌, ◌-◌, ◌≤◌, ◌<◌}
use native.Mathlib.Omega.{arith}
use native.Mathlib.Numerals.{add-one}
use lib.ListN.{length, get_or, set, length-set}
use lib.Seq.{sets, length-sets, set-get_or, get_or-set_other}
use Rattle.meaning.specs.Expression.{Re, eps, pos, cat, alt, branch, star, plus, opt, size, marks}
use Rattle.meaning.specs.ReadPattern.{nodes, kinds, node_of, args}
use Rattle.grammar.specs.Holds.{stands_left, nodes_some, kinds_length, args_length}
use Rattle.pattern.specs.Stores.{bare_args, Lies, Numberable, Numbered, Numbers}
use Rattle.bits.proofs.Writing.{sets_behind}
use Rattle.kinds.specs.declared.Node.{Node}
use Rattle.kinds.specs.declared.Node.TheVariants.{Eps}
use Rattle.kinds.specs.Nodes.{kind_of, arg_of, kinds_of, args_of}
use Rattle.kinds.proofs.NodeLaws.{PairAt, kind_at, args_set, kinds_same}
use Rattle.pattern.proofs.Rows.{writes, sets_comm, stands_end, stands_behind, sets_same, length_bare_args}
use Rattle.pattern.proofs.Written.{Over, Both, over_branch, over_star, over_plus, over_opt, both_cat, both_alt}

-- ---- a node has no part, two, or one and a mark

-- e is a node of kind k
pub data Shape : ℕ → Re → Type 0 where
  leaf : {k : ℕ} {e : Re} → k < 2 → nodes e ≡ 1 → marks e ≡ 0 → kinds e ≡ k ∷ [] → ((u m p : ℕ) → args u m p e ≡ bare_args u p e) → Shape k e
  pair : {k : ℕ} {x y e : Re} → 2 ≤ k → k < 4 → Both k x y e → Shape k e
  over : {k : ℕ} {x e : Re} → 4 ≤ k → Over k x e → Shape k e

pub record Shaped (e : Re) : Type 0 where
  pub kind : ℕ
  pub shape : Shape kind e

pub shape : (e : Re) → Shaped e
unfolding nodes marks kinds args bare_args
shape eps = record { kind = 0; shape = leaf {k = 0} (omega arith) refl refl refl (λ u m p. refl) }
shape (pos c) = record { kind = 1; shape = leaf {k = 1} (omega arith) refl refl refl (λ u m p. refl) }
shape (cat x y) = record { kind = 2; shape = pair {k = 2} (omega arith) (omega arith) (both_cat x y) }
shape (alt x y) = record { kind = 3; shape = pair {k = 3} (omega arith) (omega arith) (both_alt x y) }
shape (branch x) = record { kind = 4; shape = over {k = 4} (omega arith) (over_branch x) }
shape (star x) = record { kind = 5; shape = over {k = 5} (omega arith) (over_star x) }
shape (plus x) = record { kind = 6; shape = over {k = 6} (omega arith) (over_plus x) }
shape (opt x) = record { kind = 7; shape = over {k = 7} (omega arith) (over_opt x) }

-- ---- where the parts of node i lie

module _ {ks gs : List ℕ} {u p i : ℕ} {e : Re} (h : Lies ks gs u p i e) where
  pub lies_kind : {k : ℕ} → Shape k e → get_or ks i 0 ≡ k
  lies_kind {k} (leaf l n m x a) = stands_end i [] k (omega (arith, h.last, n)) (rw x at h.kinds)
  lies_kind {k} (pair {x = x} {y = y} l g b) =
      let behind = stands_behind (nodes x) (kinds x) (kinds y ++ (k ∷ [])) (kinds_length x) (rw b.kind at h.kinds) in
      stands_end i (kinds y) k (omega (arith, h.last, b.node, kinds_length y)) behind
  lies_kind {k} (over {x = x} l o) = stands_end i (kinds x) k (omega (arith, h.last, o.node, kinds_length x)) (rw o.kind at h.kinds)

  module _ {k : ℕ} {x y : Re} (b : Both k x y e) where
    pub lies_arg : get_or gs i 0 + 1 ≡ u + nodes x
    lies_arg =
        let rest = bare_args (u + nodes x) (p + size x) y in
        let behind = stands_behind (nodes x) (bare_args u p x) (rest ++ (node_of u x ∷ [])) (length_bare_args u p x) (rw (b.bare u p) at h.args) in
        let r = stands_end i rest (node_of u x) (omega (arith, h.last, b.node, length_bare_args (u + nodes x) (p + size x) y)) behind in
        omega (arith, r, nodes_some x)

    pub lies_left : Lies ks gs u p (get_or gs i 0) x
    lies_left = record {
      kinds = stands_left (kinds x) (kinds y ++ (k ∷ [])) (rw b.kind at h.kinds);
      args = stands_left (bare_args u p x) (bare_args (u + nodes x) (p + size x) y ++ (node_of u x ∷ [])) (rw (b.bare u p) at h.args);
      last = lies_arg;
      inside = omega (arith, lies_arg, h.last, b.node, h.inside);
    }

    pub lies_right : Lies ks gs (u + nodes x) (p + size x) (i - 1) y
    lies_right =
        let rest = bare_args (u + nodes x) (p + size x) y in
        let kinds-behind = stands_behind (nodes x) (kinds x) (kinds y ++ (k ∷ [])) (kinds_length x) (rw b.kind at h.kinds) in
        let args-behind = stands_behind (nodes x) (bare_args u p x) (rest ++ (node_of u x ∷ [])) (length_bare_args u p x) (rw (b.bare u p) at h.args) in
        record {
          kinds = stands_left (kinds y) (k ∷ []) kinds-behind;
          args = stands_left rest (node_of u x ∷ []) args-behind;
          last = omega (arith, h.last, b.node, nodes_some y);
          inside = omega (arith, h.inside);
        }

  pub lies_inner : {k : ℕ} {x : Re} → Over k x e → Lies ks gs u p (i - 1) x
  lies_inner {k} {x} o = record {
    kinds = stands_left (kinds x) (k ∷ []) (rw o.kind at h.kinds);
    args = stands_left (bare_args u p x) (0 ∷ []) (rw (o.bare u p) at h.args);
    last = omega (arith, h.last, o.node, nodes_some x);
    inside = omega (arith, h.inside);
  }

  -- the numbers beside other nodes do not matter
  pub lies_frame : (gs' : List ℕ) → length gs' ≡ length gs → ((j : ℕ) → u ≤ j → j ≤ i → get_or gs' j 0 ≡ get_or gs j 0) → Lies ks gs' u p i e
  lies_frame gs' l f = record {
    kinds = h.kinds;
    args = record { within = omega (arith, h.args.within, l); here = λ j g. f (u + j) (omega arith) (omega (arith, h.last, g, length_bare_args u p e)) ∙ h.args.here j g };
    last = h.last;
    inside = h.inside;
  }

-- the right part, once the left part is numbered
lies_after : {ks gs gs' : List ℕ} {u p i k : ℕ} {x y e : Re} (m : ℕ) → Lies ks gs u p i e → Both k x y e → gs' ≡ sets gs u (args u m p x)
    → Lies ks gs' (u + nodes x) (p + size x) (i - 1) y
lies_after {gs = gs} {gs'} {u} {p} {x = x} m h b q =
    lies_frame (lies_right h b) gs' (ap length q ∙ simp length-sets)
    (λ j g l. ap (λ (r : List ℕ). get_or r j 0) q ∙ sets_behind gs u (args u m p x) j (omega (arith, args_length u m p x)))

-- the part below a mark, once the mark is numbered
lies_below : {ks gs : List ℕ} {u p i k : ℕ} {x e : Re} (v : ℕ) → Lies ks gs u p i e → Over k x e → Lies ks (set gs i v) u p (i - 1) x
lies_below {gs = gs} {i = i} {x = x} v h o =
    lies_frame (lies_inner h o) (set gs i v) (simp length-set) (λ j g l. get_or-set_other gs i j v 0 (λ e. omega (arith, h.last, o.node, nodes_some x)))

-- ---- what the walk asks of its calls

-- node i has two parts, the left one at j: both lie before it, and are numbered one after the other
pub record Splits (ks gs : List ℕ) (i j m : ℕ) : Type 0 where
  pub above : j < i
  pub left : Numberable ks gs j m
  pub right : (gs' : List ℕ) (n : ℕ) → Numbers ks gs gs' j m n → Numberable ks gs' (i - 1) n

pub splits : {ks gs : List ℕ} {i j m : ℕ} → Numberable ks gs i m → PairAt ks gs i j → Splits ks gs i j m
splits {ks} {gs} {i} {j} {m} h t = rw t.left at (go (shape h.e).shape)
  where
    go : {k : ℕ} → Shape k h.e → Splits ks gs i (get_or gs i 0) m
    go (leaf n a b c d) = absurd (omega (arith, t.least, n, lies_kind h.lies (leaf n a b c d)))
    go (pair {x = x} {y = y} a c b) = record {
      above = omega (arith, lies_arg h.lies b, h.lies.last, b.node);
      left = record { e = x; u = h.u; p = h.p; lies = lies_left h.lies b; few = omega (arith, h.few, b.mark) };
      right = λ gs' n f.
          let r = f x h.u h.p (lies_left h.lies b) in
          record { e = y; u = h.u + nodes x; p = h.p + size x; lies = lies_after m h.lies b r.arg; few = omega (arith, h.few, b.mark, r.marks) };
    }
    go (over a o) = absurd (omega (arith, a, t.most, lies_kind h.lies (over a o)))

-- node i has a mark, which is v in the new rows
pub record Remarked (ks gs ks' gs' : List ℕ) (i v : ℕ) : Type 0 where
  pub marked : 4 ≤ get_or ks i 0
  pub kinds : ks' ≡ ks
  pub args : gs' ≡ set gs i v

pub remarked : (ns : List Node) (i : ℕ) (x : Node) {v : ℕ} → 4 ≤ get_or (kinds_of ns) i 0 → kind_of x ≡ kind_of (get_or ns i (Eps 0))
    → (4 ≤ kind_of (get_or ns i (Eps 0)) → arg_of x ≡ v) → Remarked (kinds_of ns) (args_of ns) (kinds_of (set ns i x)) (args_of (set ns i x)) i v
remarked ns i x g k a = record {
  marked = g;
  kinds = kinds_same ns i x k;
  args = args_set ns i x ∙ ap (λ (w : ℕ). set (args_of ns) i w) (a (omega (arith, g, kind_at ns i (get_or ns i (Eps 0)) refl)));
}

-- node i has a mark, and its part lies before it
pub record Carries (ks gs : List ℕ) (i m : ℕ) : Type 0 where
  pub above : 0 < i
  pub few : m + 1 < 65536
  pub inner : (ks' gs' : List ℕ) → Remarked ks gs ks' gs' i (m + 1) → Numberable ks' gs' (i - 1) (m + 1)

pub carries : {ks gs : List ℕ} {i m : ℕ} → Numberable ks gs i m → 4 ≤ get_or ks i 0 → Carries ks gs i m
carries {ks} {gs} {i} {m} h g = go (shape h.e).shape
  where
    go : {k : ℕ} → Shape k h.e → Carries ks gs i m
    go (leaf n a b c d) = absurd (omega (arith, g, n, lies_kind h.lies (leaf n a b c d)))
    go (pair a c b) = absurd (omega (arith, g, c, lies_kind h.lies (pair a c b)))
    go (over {x = x} a o) = record {
      above = omega (arith, h.lies.last, o.node, nodes_some x);
      few = omega (arith, h.few, o.mark);
      inner = λ ks' gs' w. record { e = x; u = h.u; p = h.p; lies = rw (w.kinds, w.args) (lies_below (m + 1) h.lies o); few = omega (arith, h.few, o.mark) };
    }

-- ---- what the walk has numbered

pub leaf_numbers : {ks gs : List ℕ} {i m : ℕ} → get_or ks i 0 < 2 → Numbers ks gs gs i m m
leaf_numbers {ks} {gs} {i} {m} l e u p h = go (shape e).shape
  where
    go : {k : ℕ} → Shape k e → Numbered u p m e gs gs m
    go (leaf n a b c d) = record { arg = sym (rw (d u m p) (sets_same (bare_args u p e) h.args)); marks = omega (arith, b) }
    go (pair a c b) = absurd (omega (arith, l, a, lies_kind h (pair a c b)))
    go (over a o) = absurd (omega (arith, l, a, lies_kind h (over a o)))

pub pair_numbers : {ks gs gs₁ gs₂ : List ℕ} {i j m n r : ℕ} → PairAt ks gs i j → Numbers ks gs gs₁ j m n → Numbers ks gs₁ gs₂ (i - 1) n r → Numbers ks gs gs₂ i m r
pair_numbers {ks} {gs} {gs₁} {gs₂} {i} {j} {m} {n} {r} t f f' e u p h = go (shape e).shape
  where
    go : {k : ℕ} → Shape k e → Numbered u p m e gs gs₂ r
    go (leaf n a b c d) = absurd (omega (arith, t.least, n, lies_kind h (leaf n a b c d)))
    go (pair {x = x} {y = y} a c b) =
        let q = f x u p (rw t.left at (lies_left h b)) in
        let q' = f' y (u + nodes x) (p + size x) (lies_after m h b q.arg) in
        let v : node_of u x ≡ get_or gs i 0 = omega (arith, lies_arg h b) in
        let stays : get_or gs₂ i 0 ≡ node_of u x =
        ap (λ (t : List ℕ). get_or t i 0) q'.arg
        ∙ sets_behind gs₁ (u + nodes x) (args (u + nodes x) n (p + size x) y) i (omega (arith, args_length (u + nodes x) n (p + size x) y, h.last, b.node))
        ∙ ap (λ (t : List ℕ). get_or t i 0) q.arg
        ∙ sets_behind gs u (args u m p x) i (omega (arith, args_length u m p x, h.last, b.node))
        ∙ sym v in
        record {
          arg =
              rw (b.arg u m p)
              (writes gs u (args u m p x) (args (u + nodes x) (m + marks x) (p + size x) y ++ (node_of u x ∷ [])) q.arg
              (writes {b = i} gs₁ (u + nodes x) (args (u + nodes x) (m + marks x) (p + size x) y) (node_of u x ∷ []) (rw q.marks at q'.arg)
              (sym (rw (sym stays) (set-get_or gs₂ i 0)))
              (omega (arith, args_length (u + nodes x) (m + marks x) (p + size x) y, h.last, b.node)))
              (omega (arith, args_length u m p x)));
          marks = omega (arith, q.marks, q'.marks, b.mark);
        }
    go (over a o) = absurd (omega (arith, t.most, a, lies_kind h (over a o)))

pub over_numbers : {ks gs ks' gs' gs₁ : List ℕ} {i m r : ℕ} → Remarked ks gs ks' gs' i (m + 1) → Numbers ks' gs' gs₁ (i - 1) (m + 1) r → Numbers ks gs gs₁ i m r
over_numbers {ks} {gs} {ks'} {gs'} {gs₁} {i} {m} {r} w f e u p h = go (shape e).shape
  where
    go : {k : ℕ} → Shape k e → Numbered u p m e gs gs₁ r
    go (leaf n a b c d) = absurd (omega (arith, w.marked, n, lies_kind h (leaf n a b c d)))
    go (pair a c b) = absurd (omega (arith, w.marked, c, lies_kind h (pair a c b)))
    go (over {x = x} a o) =
        let q = rw (add-one m) at ((rw (w.kinds, w.args) at f) x u p (lies_below (m + 1) h o)) in
        let row = args u (suc m) p x in
        let behind : i ≡ u + length row = omega (arith, args_length u (suc m) p x, h.last, o.node) in
        record {
          arg = rw (o.arg u m p) (writes gs u row (suc m ∷ []) refl (q.arg ∙ sets_comm gs u row i (suc m) (omega arith)) behind);
          marks = omega (arith, q.marks, o.mark);
        }
