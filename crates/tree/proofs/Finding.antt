-- From a read pattern to exact tables and filled cells. Assumes nothing.
use mathlib.Core.Path.{◌≡◌, sym, ap, ◌∙◌}
use mathlib.Core.List.{List, ◌++◌}
use Prim.Native.Nat.{ℕ, ◌+◌, ◌-◌, ◌≤◌, ◌<◌}
use native.Mathlib.Omega.{arith}
use lib.ListN.{length, get_or, drop, replicate}
use lib.Seq.{get_or-drop}
use mir.Syntax.{w8}
use mir.Val.{Fits}
use Rattle.meaning.specs.Expression.{Re}
use Rattle.meaning.specs.Grammar.{Bytes}
use Rattle.meaning.specs.Limits.{text_limit}
use Rattle.passes.specs.Masks.{Masked}
use Rattle.passes.specs.Ways.{Backed, Preceding}
use Rattle.passes.proofs.Living.{living_alive}
use Rattle.grammar.specs.ByteRow.{bytes_of}
use Rattle.passes.proofs.Marked.{masked_classes}
use Rattle.sets.proofs.SetLaws.{nones_empty, held_long}
use Rattle.passes.proofs.Rests.{backed_past}
use Rattle.passes.specs.Tables.{Tables}
use Rattle.sets.specs.Members.{held, limit, none, row, rows}
use Rattle.walks.specs.Root.{Root, Tabled}
use Rattle.tree.specs.Outcome.{Outcome}
use Rattle.along.specs.declared.links.Links.{Links}
use Rattle.along.specs.Links.{Stock}
use Rattle.kinds.specs.Nodes.{kinds_of, args_of}
use Rattle.kinds.specs.declared.ReadPattern.{ReadPattern}
use Rattle.passes.specs.declared.backward.Recent.{Recent}
use Rattle.passes.proofs.Memos.{nothing, memo_none}
use Rattle.tree.specs.declared.prepare.Reader.{Reader}
use Rattle.tree.specs.Judge.{Given, Prepared, Serves, Judgeable, SoughtAs, Seeks, Finds}

-- cells that hold as many sets are as many
cells_kept : (l m : List ℕ) → rows (held m) ≡ rows (held l) → length m ≡ length l
cells_kept l m e = sym (held_long m) ∙ e ∙ held_long l

-- the elements of a slice of bytes
pub bytes_fit : (l : List ℕ) → ((i : ℕ) → Fits w8 (get_or l i 0)) → Bytes l
bytes_fit l h = bytes_of l (λ i _. (h i).fits)

-- nothing is kept
pub serves_none : {memo : List Recent} {pattern : ReadPattern} {r : Reader} {links : Links} → memo ≡ replicate 256 nothing → Stock pattern (pattern.nodes - 1) links
    → Serves pattern r (record { memo = memo; links = links })
serves_none {r = r} e s = record { memo = rw e (memo_none r.mask r.pre 256 (omega arith)); stock = s }

module _ {e : Re} {pattern : ReadPattern} (G : Given e pattern) where
  pub given_root : Root (kinds_of pattern.node) (args_of pattern.node) (pattern.nodes - 1)
  given_root = record { e = e; holds = G.rooted.holds; all = omega (arith, G.all, G.rooted.some); within = G.rooted.within; few = G.rooted.few_positions }

  -- the tables that are filled from it
  module _ {r : Reader} (T : Tabled (kinds_of pattern.node) (args_of pattern.node) r.tables.nodes.null r.tables.nodes.first r.tables.nodes.upto r.tables.follow (pattern.nodes - 1) r.last)
      (M : Masked pattern.class pattern.positions (replicate 256 none) r.mask) (R : Preceding r.tables.follow r.pre) where
    exact : Tables e r.mask r.tables.follow r.last (row r.tables.nodes.first (pattern.nodes - 1))
    exact = record {
      reading = λ b q h. masked_classes (nones_empty 256) M b q h ∙ sym (G.classes q b h);
      following = λ j q h. T.charted.follow e G.rooted.holds j h q;
      ending = λ q. T.ends e G.rooted.holds q;
      beginning = λ q. (T.charted.scanned.first (pattern.nodes - 1) (omega arith)).has_firsts e 0 0 G.rooted.holds q;
    }

    pub prepared : Prepared e pattern r
    prepared = record { rooted = G.rooted; charted = T.charted; each_byte = M.same_rows; preceding = R; tables = exact }

module _ {e : Re} {pattern : ReadPattern} {r : Reader} (P : Prepared e pattern r) where
  pub each_position : rows r.pre ≡ limit
  each_position = P.preceding.same_rows

  pub judgeable : {text : List ℕ} (l m : List ℕ) → Backed r.mask r.tables.follow r.last text (held l) (held m) → ((i : ℕ) → Fits w8 (get_or text i 0))
      → length text ≤ text_limit → length text < length l → Judgeable e pattern r text m
  judgeable {text} l m B b s h = record {
    prepared = P;
    bytes = bytes_fit text b;
    short = s;
    enough = omega (arith, cells_kept l m B.same_rows);
    living = λ i q w. B.here i q w
        ∙ living_alive e r.mask r.tables.follow r.last (row r.tables.nodes.first (pattern.nodes - 1)) P.tables (bytes_fit (drop i text) (λ j. rw (get_or-drop i text j 0) (b (i + j)))) q;
  }

  pub seeks : {text t t' : List ℕ} (l m : List ℕ) {o : Outcome} → Backed r.mask r.tables.follow r.last text (held l) (held m) → SoughtAs e text t t' o → Seeks e text l m t t' o
  seeks l m B s = record { sought = s; past = backed_past l m B; same_cells = cells_kept l m B.same_rows }

-- what is found, and the cells cleared
pub finds : {e : Re} {text cells cells₁ cells' t t' : List ℕ} {r : Outcome} → Seeks e text cells cells₁ t t' r
    → cells' ≡ replicate (length text + 1) 0 ++ drop (length text + 1) cells₁ → Finds e text cells cells' t t' r
finds {text = text} s c = record { sought = s.sought; clear = c ∙ ap (λ (l : List ℕ). replicate (length text + 1) 0 ++ l) s.past }
