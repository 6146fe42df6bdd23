-- From exact tables and filled cells to the answer. Assumes nothing.
use mathlib.Core.Path.{◌≡◌, sym, ap, ap₂, ◌∙◌}
use mathlib.Core.Bool.{Bool, true, false, ◌&&◌, ◌||◌, cond}
use mathlib.Core.List.{List}
use Prim.Native.Nat.{ℕ, ◌-◌, ◌≤◌, ◌<◌}
use native.Mathlib.Omega.{arith}
use lib.Dec.{eqb}
use lib.ListN.{length, get_or}
use lib.Seq.{sets}
use borrow.Author.Tests.{le-leb, lt-leb}
use Rattle.meaning.specs.Expression.{Re, marks}
use Rattle.meaning.specs.Limits.{room_for}
use Rattle.meaning.specs.Promise.{written}
use Rattle.meaning.specs.Tree.{First, Flag}
use Rattle.bits.proofs.Writing.{sets_front}
use Rattle.positions.specs.Alive.{alive}
use Rattle.positions.specs.Room.{row_length}
use Rattle.positions.specs.Sets.{leads_same}
use Rattle.positions.specs.Tests.{nullable}
use Rattle.positions.specs.Theorem.{found, first_row, no_tree, first_tree, first_flag}
use Rattle.passes.specs.Ways.{readable}
use Rattle.passes.proofs.Longest.{readable_longest}
use Rattle.sets.specs.declared.set.Set.{Set}
use Rattle.sets.specs.Members.{has, held, row, meets}
use Rattle.walks.specs.Tables.{yes}
use Rattle.walks.specs.Enter.{open_to}
use Rattle.walks.proofs.Looks.{open_is}
use Rattle.std.proofs.Common.{Ok, Err}
use Rattle.tree.specs.declared.outcome.Refusal.TheVariants.{NoTree}
use Rattle.along.specs.declared.walk.Tree.{Tree}
use Rattle.kinds.specs.declared.ReadPattern.{ReadPattern}
use Rattle.tree.specs.declared.prepare.Reader.{Reader}
use Rattle.tree.specs.Judge.{Rooted, Judgeable, SoughtAs}
use Rattle.tree.specs.Search as search
use Rattle.tree.specs.Search.{Sought, kept}
use Rattle.along.specs.Walk.{Measures, Walkable}
use Rattle.along.proofs.Advance.{ended_zero}

-- a room that holds the row, and one that does not
pub kept_whole : (row t : List ℕ) → length row ≤ length t → sets t 0 row ≡ kept row t
kept_whole row t h = sets_front t row h ∙ ap (λ (b : Bool). cond b (written row t) t) (sym (le-leb (length row) (length t) h))

pub kept_none : (row t : List ℕ) → length t < length row → t ≡ kept row t
kept_none row t h = ap (λ (b : Bool). cond b (written row t) t) (sym (lt-leb (length row) (length t) h))

sought_tree : {e : Re} {text row t t' : List ℕ} {v f f' : ℕ} → First e text row → Flag e text f → v ≡ length row → f' ≡ f → t' ≡ kept row t → Sought e text t 0 v f' t'
sought_tree a b i j k = rw (i, j, k) (search.a_tree a b)

module _ {e : Re} {pattern : ReadPattern} {r : Reader} {text cells : List ℕ} (J : Judgeable e pattern r text cells) where
  rooted : Rooted e pattern
  rooted = J.prepared.rooted

  few : marks e ≤ 127
  few = omega (arith, rooted.few_marks)

  -- whether the root is open to the first cell says whether there is a tree
  pub found_is : {goal : Set} {b : Bool} → goal ≡ row (held cells) 0
      → b ≡ open_to (meets (row r.tables.nodes.first (pattern.nodes - 1)) goal) (yes (get_or r.tables.nodes.null (pattern.nodes - 1) 0)) (eqb (length text) 0) → b ≡ found e text
  found_is {goal} g i =
      open_is J.prepared.charted.scanned (omega arith) goal (eqb (length text) 0) i rooted.holds
      ∙ ap₂ (λ (l b : Bool). l || (nullable e && b)) (leads_same 0 e (has goal) (alive e text) (λ q. ap (λ (u : Set). has u q) g ∙ J.living 0 q (omega arith))) (ended_zero text)

  pub judge_walkable : found e text ≡ true → Walkable e pattern (pattern.nodes - 1) text cells
  judge_walkable y = record {
    holds = rooted.holds;
    within = rooted.within;
    fair = rooted.fair;
    few = rooted.few_marks;
    few_positions = rooted.few_positions;
    short = J.short;
    enough = J.enough;
    living = J.living;
    a_tree = y;
  }

  pub judge_tree : {t t' : List ℕ} {w : Tree} → found e text ≡ true → Measures e text w → t' ≡ kept (first_row e text) t → SoughtAs e text t t' (Ok w)
  judge_tree y M z = sought_tree (first_tree e rooted.fair few text y) (first_flag e rooted.fair few text y) M.long (ap (λ (b : Bool). cond b 1 0) M.other) z

  -- a room for every tree holds the first
  pub judge_fits : {m l : ℕ} → found e text ≡ true → m ≡ room_for pattern.marks (length text) → m ≤ l → length (first_row e text) ≤ l
  judge_fits {m} {l} y z h =
      let i : room_for pattern.marks (length text) ≤ l = omega arith in
      let j : room_for (marks e) (length text) ≤ l = rw rooted.marks_are at i in
      omega (arith, j, row_length e 0 text (first_row e text) (first_tree e rooted.fair few text y).tree)

  pub judge_none : {t : List ℕ} {n : ℕ} → found e text ≡ false → n ≡ readable r.mask r.tables.follow (has (row r.tables.nodes.first (pattern.nodes - 1))) text → SoughtAs e text t t (Err (NoTree n))
  judge_none y z =
      rw z (search.no_tree (no_tree e text y)
      (readable_longest e rooted.can_read r.mask r.tables.follow r.last (row r.tables.nodes.first (pattern.nodes - 1)) J.prepared.tables text J.bytes))
