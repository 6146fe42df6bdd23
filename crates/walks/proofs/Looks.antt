-- What the tables say of a node and a goal is what the tests on its expression say. Assumes nothing.
use mathlib.Core.Path.{◌≡◌, sym, ◌∙◌}
use mathlib.Core.Bool.{Bool, true}
use mathlib.Core.List.{List}
use mathlib.Core.Logic.{◌↔◌}
use Prim.Native.Nat.{ℕ, ◌≤◌}
use native.Mathlib.Omega.{arith}
use lib.ListN.{get_or}
use Rattle.meaning.specs.Expression.{Re}
use Rattle.grammar.specs.Holds.{Holds}
use Rattle.positions.specs.Tests.{nullable, leads, feasible}
use Rattle.positions.specs.Sets.{firsts, Meet, meet, leads_meet}
use Rattle.bits.specs.Truth.{alike}
use Rattle.sets.specs.declared.set.Set.{Set}
use Rattle.sets.specs.Members.{has, meets, row}
use Rattle.sets.proofs.SetLaws.{meets_some, meets_at}
use Rattle.walks.specs.Tables.{yes, FirstAt}
use Rattle.walks.specs.Enter.{open_to, Scanned}
use Rattle.walks.proofs.Nulls.{yes_flag}

-- a set with the members that f tells meets the goal where f does
pub meets_meet : (s goal : Set) (f : ℕ → Bool) → ((q : ℕ) → has s q ≡ f q) → (meets s goal ≡ true) ↔ Meet f (has goal)
meets_meet s goal f told = (
  λ z. let w = meets_some s goal z in meet (sym (told w.0) ∙ w.1) w.2,
  λ z. elim z [ meet {q = q} a b ↦ meets_at s goal q (told q ∙ a) b ],
)

meets_leads : {ks gs : List ℕ} {m p j : ℕ} {e : Re} (s goal : Set) → FirstAt ks gs j s → Holds ks gs m p j e → meets s goal ≡ leads p e (has goal)
meets_leads {m = m} {p = p} {e = e} s goal F h =
    let w = meets_meet s goal (firsts p e) (F.has_firsts e m p h) in
    let l = leads_meet p e (has goal) in
    alike (meets s goal) (leads p e (has goal)) (λ z. l.1 (w.0 z)) (λ z. w.1 (l.0 z))

module _ {ks gs ns : List ℕ} {fs : List Set} {i j : ℕ} (T : Scanned ks gs ns fs i) (le : j ≤ i) where
  pub goes_is : {m p : ℕ} {e : Re} {r : Bool} (goal : Set) → r ≡ meets (row fs j) goal → Holds ks gs m p j e → r ≡ leads p e (has goal)
  goes_is goal q h = q ∙ meets_leads (row fs j) goal (T.first j le) h

  pub open_is : {m p : ℕ} {e : Re} {r : Bool} (goal : Set) (pass : Bool) → r ≡ open_to (meets (row fs j) goal) (yes (get_or ns j 0)) pass → Holds ks gs m p j e → r ≡ feasible p e (has goal) pass
  unfolding open_to
  open_is {m} {p} {e} goal pass q h = q ∙ rw (meets_leads (row fs j) goal (T.first j le) h, T.null j le e m p h, yes_flag (nullable e))

  pub scanned_to : Scanned ks gs ns fs j
  scanned_to = record { null = λ n h. T.null n (omega arith); first = λ n h. T.first n (omega arith); long = T.long }
