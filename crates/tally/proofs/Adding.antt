-- Figures of one mark changed, by place. Assumes nothing.
use mathlib.Core.Path.{◌≡◌, refl, ◌∙◌, ap}
use mathlib.Core.Bool.{Bool, true, false, cond}
use mathlib.Core.List.{List}
use Prim.Native.Nat.{ℕ, ◌+◌, ◌<◌, max}
use native.Mathlib.Omega.{arith}
use lib.Dec.{eqb}
use lib.ListN.{length, get_or, set}
use lib.Seq.{get_or-set_same, get_or-set_other}
use borrow.Author.Tests.{eqb-true, eqb-false}
use Rattle.meaning.specs.declared.Record.{Record}
use Rattle.tally.specs.Tally.{figures_at}
use Rattle.tally.specs.Along.{plus, Added}

-- a row with one place changed
pub set_at : {A : Type 0} (xs : List A) (m : ℕ) (v d : A) (p : ℕ) → m < length xs → get_or (set xs m v) p d ≡ cond (eqb p m) v (get_or xs p d)
set_at {A} xs m v d p l = go (eqb p m) refl
  where
    go : (c : Bool) → eqb p m ≡ c → get_or (set xs m v) p d ≡ cond c v (get_or xs p d)
    go true e = rw (eqb-true p m e) (get_or-set_same xs m v d l)
    go false e = get_or-set_other xs m p v d (eqb-false p m e)

pub added : {f : List Record} {m : ℕ} {more new : Record} → m < length f → new ≡ plus (figures_at f m) more → Added m more f (set f m new)
added {f} {m} {more} {new} l e = record {
  turns_added = λ p _. ap (λ (r : Record). r.turns) (at p) ∙ turns p (eqb p m) refl;
  bytes_added = λ p _. ap (λ (r : Record). r.bytes) (at p) ∙ bytes p (eqb p m) refl;
  longer = λ p _. ap (λ (r : Record). r.longest) (at p) ∙ longest p (eqb p m) refl;
}
  where
    at : (p : ℕ) → figures_at (set f m new) p ≡ cond (eqb p m) new (figures_at f p)
    at p = set_at f m new _ p l

    turns : (p : ℕ) (c : Bool) → eqb p m ≡ c → (cond c new (figures_at f p)).turns ≡ (figures_at f p).turns + cond c more.turns 0
    turns p true z = rw (eqb-true p m z, e) refl
    turns p false z = omega arith

    bytes : (p : ℕ) (c : Bool) → eqb p m ≡ c → (cond c new (figures_at f p)).bytes ≡ (figures_at f p).bytes + cond c more.bytes 0
    bytes p true z = rw (eqb-true p m z, e) refl
    bytes p false z = omega arith

    longest : (p : ℕ) (c : Bool) → eqb p m ≡ c → (cond c new (figures_at f p)).longest ≡ max (figures_at f p).longest (cond c more.longest 0)
    longest p true z = rw (eqb-true p m z, e) refl
    longest p false z = omega arith
