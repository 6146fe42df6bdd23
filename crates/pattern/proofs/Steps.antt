-- One law for each way through the readers of atoms, items, branches and lists that reads something. Assumes nothing.
use mathlib.Core.Path.{◌≡◌, ◌∙◌}
use mathlib.Core.List.{List}
use Prim.Native.Nat.{ℕ, suc, ◌+◌, ◌-◌, ◌≤◌, ◌<◌, max}
use native.Mathlib.Omega.{arith}
use lib.ListN.{length, get_or}
use Rattle.std.specs.declared.option.Option.TheVariants.{Some, None}
use Rattle.meaning.specs.Expression.{Re, eps, pos, cat, alt, branch}
use Rattle.sets.specs.declared.class.Class.{Class}
use Rattle.kinds.specs.declared.Node.{Node}
use Rattle.kinds.specs.Nodes.{kind_of, arg_of}
use Rattle.grammar.specs.Machine.{Sign, is_star, is_plus, is_opt}
use Rattle.grammar.specs.ByteTests as tests
use Rattle.grammar.specs.Contract.{AtomDone, ItemDone, BranchDone, FrontsDone, ListDone, ItemFails, ListFails}
use Rattle.grammar.specs.Contract.{atom_unit, atom_group, item_signed, item_bare, branch_one, branch_more, fronts_first, fronts_more, list_lone, list_several}
use Rattle.grammar.specs.Contract.{atom_deep, atom_group_fails, atom_group_open, branch_rest_fails, list_next_fails}
use Rattle.pattern.specs.Stores.{Stores, with_classes, Put, Became, Wrote, Moved, Within}
use Rattle.pattern.specs.Letters.{KeptTo}
use Rattle.pattern.specs.Parts.{ByteAt, Goes, End, of_text, by_bar, by_close, Signed, star_at, plus_at, opt_at, ReadTo, FrontsAt}
use Rattle.pattern.specs.declared.nodes.Cursor.{Cursor}
use Rattle.pattern.proofs.Signs.{unsigned}
use Rattle.pattern.proofs.Written.{Over, over_branch, over_star, over_plus, over_opt, both_cat, both_alt, wrote_eps, wrote_pos, wrote_over, wrote_both, wrote_from, wrote_to}

-- what is read between two places, where the second place goes by another name
there : {s : List ℕ} {i j j' n : ℕ} {e : Re} (D : List ℕ → ℕ → ℕ → Re → ℕ → Type 0) → j' ≡ j → D s i j e n → D s i j' e n
there D p h = rw p h

-- ---- the cursor stays within the pattern

pub within : {k n : ℕ} {c d : Cursor} → Within n c → Moved k n c d → Within n d
within w m = record {
  short = w.short;
  inside = m.inside;
  nodes = omega (arith, w.nodes, m.nodes);
  places = omega (arith, w.places, m.places);
  marked = omega (arith, w.marked, m.marked);
}

-- ---- atoms

module _ {s : List ℕ} {left : ℕ} {c f : Cursor} {S S' : Stores} where
  pub unit_read : 0 < left → ByteAt s c.at 40 → ByteAt s (c.at + 1) 41 → Became f (c.at + 2) (c.used + 1) c.positions c.marks
      → Put c.used 0 0 S S' → ReadTo 1 AtomDone s left c f S S'
  unit_read l o x b p = record {
    reading = eps;
    deep = 1;
    shallow = omega arith;
    done = there AtomDone (omega (arith, b.at)) (atom_unit s c.at o.inside o.is x.inside x.is);
    moved = omega (arith, b, x.inside);
    wrote = wrote_eps b p;
  }

  pub letter_read : {next : ℕ} {l : List Class} → KeptTo s c.at next c.positions S.class l → Became f next (c.used + 1) (c.positions + 1) c.marks
      → Put c.used 1 c.positions (with_classes S l) S' → ReadTo 1 AtomDone s left c f S S'
  letter_read h b p = record {
    reading = pos h.test;
    deep = 0;
    shallow = omega arith;
    done = there AtomDone b.at h.done;
    moved = omega (arith, b, h.on);
    wrote = wrote_pos h.test b p h.word h.fours;
  }

pub group_read : {s : List ℕ} {left n : ℕ} {c c' d f : Cursor} {S S' : Stores} → left ≡ n + 1 → ByteAt s c.at 40
    → Became c' (c.at + 1) c.used c.positions c.marks → ReadTo 1 ListDone s n c' d S S' → ByteAt s d.at 41
    → Became f (d.at + 1) d.used d.positions d.marks → ReadTo 1 AtomDone s left c f S S'
group_read {s} {c = c} l o b h x g = record {
  reading = h.reading;
  deep = suc h.deep;
  shallow = omega (arith, l, h.shallow);
  done = there AtomDone g.at (atom_group s c.at o.inside o.is (rw b.at at h.done) x.inside x.is);
  moved = omega (arith, b, h.moved, x.inside, g);
  wrote = wrote_to g (wrote_from b h.wrote);
}

-- ---- items

pub bare_read : {s : List ℕ} {left : ℕ} {c d : Cursor} {S S' : Stores} → ReadTo 1 AtomDone s left c d S S' → Signed s d.at None
    → ReadTo 1 ItemDone s left c d S S'
bare_read h x = record { reading = h.reading; deep = h.deep; shallow = h.shallow; done = item_bare h.done (unsigned x); moved = h.moved; wrote = h.wrote }

pub signed_read : {s : List ℕ} {left : ℕ} {c d f : Cursor} {S S₁ S' : Stores} {x : Node} → ReadTo 1 AtomDone s left c d S S₁ → Signed s d.at (Some x)
    → Became f (d.at + 1) (d.used + 1) d.positions (d.marks + 1) → Put d.used (kind_of x) (arg_of x) S₁ S' → ReadTo 1 ItemDone s left c f S S'
signed_read {s} {left} {c} {d} {f} {S} {S₁} {S'} h x b p = go x p
  where
    -- by the sign v, which makes r of what it stands behind
    by : {r : Re → Re} {k v : ℕ} → Over k h.reading (r h.reading) → ByteAt s d.at v → Sign v r
        → Put d.used k 0 S₁ S' → ReadTo 1 ItemDone s left c f S S'
    by {r} o y z q = record {
      reading = r h.reading;
      deep = h.deep;
      shallow = h.shallow;
      done = there ItemDone b.at (item_signed s d.at y.inside h.done (tests.signed y.is z));
      moved = omega (arith, h.moved, b, y.inside);
      wrote = wrote_over o h.wrote b q;
    }

    go : {x : Node} → Signed s d.at (Some x) → Put d.used (kind_of x) (arg_of x) S₁ S' → ReadTo 1 ItemDone s left c f S S'
    go (star_at y) q = by (over_star h.reading) y is_star q
    go (plus_at y) q = by (over_plus h.reading) y is_plus q
    go (opt_at y) q = by (over_opt h.reading) y is_opt q

-- ---- branches

pub one_item : {s : List ℕ} {left : ℕ} {c d : Cursor} {S S' : Stores} → ReadTo 1 ItemDone s left c d S S' → ReadTo 1 BranchDone s left c d S S'
one_item h = record { reading = h.reading; deep = h.deep; shallow = h.shallow; done = branch_one h.done; moved = h.moved; wrote = h.wrote }

pub item_and_rest : {s : List ℕ} {left : ℕ} {c d e f : Cursor} {S S₁ S₂ S' : Stores} → ReadTo 1 ItemDone s left c d S S₁ → ReadTo 1 BranchDone s left d e S₁ S₂
    → Became f e.at (e.used + 1) e.positions e.marks → Put e.used 2 (d.used - 1) S₂ S' → ReadTo 1 BranchDone s left c f S S'
item_and_rest h g b p = record {
  reading = cat h.reading g.reading;
  deep = max h.deep g.deep;
  shallow = omega (arith, h.shallow, g.shallow);
  done = there BranchDone b.at (branch_more h.done g.done);
  moved = omega (arith, h.moved, g.moved, b);
  wrote = wrote_both (both_cat h.reading g.reading) h.wrote g.wrote b p;
}

-- ---- lists

pub first_front : {s : List ℕ} {left : ℕ} {c d f : Cursor} {S S₁ S' : Stores} → ReadTo 1 BranchDone s left c d S S₁ → ByteAt s d.at 124
    → Became f d.at (d.used + 1) d.positions (d.marks + 1) → Put d.used 4 0 S₁ S' → ReadTo 0 FrontsAt s left c f S S'
first_front h x b p = record {
  reading = branch h.reading;
  deep = h.deep;
  shallow = h.shallow;
  done = there FrontsAt b.at (fronts_first h.done x.inside x.is);
  moved = omega (arith, h.moved, b);
  wrote = wrote_over (over_branch h.reading) h.wrote b p;
}

-- where a list goes on: branches are read from c to d, a bar behind each, and d stands at the last of these bars
pub record AtBar (s : List ℕ) (left : ℕ) (c d : Cursor) (S S' : Stores) : Type 0 where
  pub inside : Within (length s) d
  pub bar : ByteAt s d.at 124
  pub reads : ReadTo 0 FrontsAt s left c d S S'

-- branches with a bar behind each, and one more
pub record Turned (s : List ℕ) (left : ℕ) (c d : Cursor) (S S' : Stores) : Type 0 where
  pub front : Re
  pub last : Re
  pub between : ℕ
  pub deep : ℕ
  pub deep' : ℕ
  pub fronts : FrontsDone s c.at between front deep
  pub behind : BranchDone s between d.at last deep'
  pub shallow : max deep deep' ≤ left
  pub moved : Moved 1 (length s) c d
  pub wrote : Wrote c d S S' (alt front (branch last))

pub turned : {s : List ℕ} {left : ℕ} {c d d' e m f : Cursor} {S S₁ S₂ S₃ S' : Stores} → ReadTo 0 FrontsAt s left c d S S₁
    → Became d' (d.at + 1) d.used d.positions d.marks → ReadTo 1 BranchDone s left d' e S₁ S₂
    → Became m e.at (e.used + 1) e.positions (e.marks + 1) → Put e.used 4 0 S₂ S₃
    → Became f m.at (m.used + 1) m.positions m.marks → Put m.used 3 (d.used - 1) S₃ S'
    → Turned s left c f S S'
turned {d = d} h a g x p y q = record {
  front = h.reading;
  last = g.reading;
  between = d.at + 1;
  deep = h.deep;
  deep' = g.deep;
  fronts = h.done;
  behind = there BranchDone (y.at ∙ x.at) (rw a.at at g.done);
  shallow = omega (arith, h.shallow, g.shallow);
  moved = omega (arith, h.moved, a, g.moved, x, y);
  wrote = wrote_both (both_alt h.reading (branch g.reading)) h.wrote (wrote_over (over_branch g.reading) (wrote_from a g.wrote) x p) y q;
}

module _ {s : List ℕ} {left : ℕ} {c d : Cursor} {S S' : Stores} where
  pub turned_front : Turned s left c d S S' → ByteAt s d.at 124 → ReadTo 0 FrontsAt s left c d S S'
  turned_front h x = record {
    reading = alt h.front (branch h.last);
    deep = max h.deep h.deep';
    shallow = h.shallow;
    done = fronts_more h.fronts h.behind x.inside x.is;
    moved = omega (arith, h.moved);
    wrote = h.wrote;
  }

  pub turned_list : Turned s left c d S S' → ReadTo 1 ListDone s left c d S S'
  turned_list h = record {
    reading = alt h.front (branch h.last);
    deep = max h.deep h.deep';
    shallow = h.shallow;
    done = list_several h.fronts h.behind;
    moved = h.moved;
    wrote = h.wrote;
  }

  pub lone_list : ReadTo 1 BranchDone s left c d S S' → ReadTo 1 ListDone s left c d S S'
  lone_list h = record { reading = h.reading; deep = h.deep; shallow = h.shallow; done = list_lone h.done; moved = h.moved; wrote = h.wrote }

-- a branch that ends before no bar ends the list
pub list_end : {s : List ℕ} {i j : ℕ} → End s i → j ≡ i → (ByteAt s j 124 → ⊥) → j < length s → get_or s j 0 ≡ 41
list_end {s} {i} {j} x e = rw e (go x)
  where
    go : End s i → (ByteAt s i 124 → ⊥) → i < length s → get_or s i 0 ≡ 41
    go (of_text l) n h = absurd (omega arith)
    go (by_bar g) n h = absurd (n (record { inside = h; is = g }))
    go (by_close g) n h = g

-- and a list that ends before no ) ends with the text
pub list_open : {s : List ℕ} {i : ℕ} → (i < length s → get_or s i 0 ≡ 41) → (ByteAt s i 41 → ⊥) → length s ≤ i
list_open {s} {i} h n = let f : i < length s → ⊥ = λ l. n (record { inside = l; is = h l }) in omega arith

-- ---- what is not read

module _ {s : List ℕ} {c : Cursor} {i u q m : ℕ} where
  pub no_group : {left n : ℕ} → left ≡ n + 1 → ByteAt s i 40 → (ByteAt s (i + 1) 41 → ⊥) → Became c (i + 1) u q m → ListFails s c.at n → ItemFails s i left
  no_group l o x b h = rw l (atom_group_fails s i o.inside o.is (λ g e. x (record { inside = g; is = e })) (rw b.at at h))

  pub open_group : {d : Cursor} {S S' : Stores} {left n : ℕ} → ByteAt s i 40 → Became c (i + 1) u q m → ReadTo 1 ListDone s n c d S S' → length s ≤ d.at → ItemFails s i left
  open_group o b h l = atom_group_open s i o.inside o.is (rw b.at at h.done) (omega (arith, h.moved.inside, l))

pub no_group_left : {s : List ℕ} {i left : ℕ} → left ≡ 0 → ByteAt s i 40 → ItemFails s i left
no_group_left {s} {i} l o = rw l (atom_deep s i o.inside o.is)

pub no_rest : {s : List ℕ} {left : ℕ} {c d : Cursor} {S S' : Stores} → ReadTo 1 ItemDone s left c d S S' → Goes s d.at → ItemFails s d.at left → ItemFails s c.at left
no_rest h g x = branch_rest_fails h.done g.inside g.no_bar g.no_close x

pub no_next : {s : List ℕ} {left : ℕ} {c d d' : Cursor} {S S' : Stores} {u q m : ℕ} → ReadTo 0 FrontsAt s left c d S S' → ByteAt s d.at 124
    → Became d' (d.at + 1) u q m → ItemFails s d'.at left → ListFails s c.at left
no_next h x b g = list_next_fails h.done (omega (arith, x.inside)) (rw b.at at g)

pub byte_there : {s : List ℕ} {i j b : ℕ} → j ≡ i → ByteAt s i b → ByteAt s j b
byte_there e h = rw e h
