-- The tables of a whole read pattern, from the walks of its last node. Assumes nothing.
use mathlib.Core.Path.{◌≡◌, ◌∙◌}
use mathlib.Core.Bool.{true, false}
use mathlib.Core.List.{List}
use Prim.Native.Nat.{ℕ}
use native.Mathlib.Omega.{arith}
use lib.ListN.{length}
use Rattle.positions.specs.Sets.{follows_root, ends_root}
use Rattle.sets.specs.declared.set.Set.{Set}
use Rattle.sets.specs.Members.{has, limit, row, rows}
use Rattle.walks.specs.Tables.{Walked, Known, number, NullAt, FirstAt, EndAt}
use Rattle.walks.specs.Enter.{Scanned}
use Rattle.walks.specs.Follow.{FollowsAt}
use Rattle.walks.specs.Root.{Root, Tabled}

module _ {ks gs : List ℕ} {root : ℕ} (R : Root ks gs root) where
  pub root_known : {T A : Type 0} {count : T → ℕ} {entry : T → ℕ → A} {Right : ℕ → A → Type 0} {t t' : T} → Walked count entry Right ks gs root t t' → Known entry Right t' root
  root_known w j h = (w R.e 0 0 R.holds).right j (omega (arith, R.all)) (omega arith)

  pub root_scanned : {n ns : List ℕ} {f fs : List Set} → Walked length number (NullAt ks gs) ks gs root n ns → Walked rows row (FirstAt ks gs) ks gs root f fs → rows fs ≡ 1024 → Scanned ks gs ns fs root
  root_scanned v w long = record { null = root_known v; first = root_known w; long = long }

  pub root_tabled : {ns : List ℕ} {fs : List Set} {us : List ℕ} {t ts : List Set} {none last : Set} → Scanned ks gs ns fs root → Known number (EndAt ks gs) us root → ((q : ℕ) → has none q ≡ false) → rows ts ≡ limit
      → FollowsAt ks gs root none true t ts none last → Tabled ks gs ns fs us ts root last
  root_tabled S U empty long F = record {
    charted = record {
      scanned = S;
      upto = U;
      long = long;
      follow = λ e h j l q. ((F.filled e 0 0 h).right j (omega arith) (omega arith)).has_follows q ∙ rw (empty q) (follows_root e j q);
    };
    ends = λ e h j. F.ended e 0 0 h j ∙ rw (empty j) (ends_root e j);
  }
