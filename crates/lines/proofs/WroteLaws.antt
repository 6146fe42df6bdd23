-- How runs of bytes that are put into a row follow one another. Assumes nothing.
use mathlib.Core.Path.{◌≡◌, refl, ◌∙◌}
use mathlib.Core.List.{List, [], ◌++◌, append_assoc}
use Prim.Native.Nat.{ℕ, ◌+◌, ◌≤◌}
use native.Mathlib.Omega.{arith}
use lib.ListN.{length, take, drop, length-append}
use lib.Seq.{length-sets, length-take-le, sets-eq, take_at, drop_at}
use Rattle.bits.proofs.Writing.{sets_then, sets_front}
use Rattle.lines.specs.Wrote.{Wrote}

pub wrote_none : (t : List ℕ) (at : ℕ) → Wrote t at [] t at
wrote_none t at = record { wrote = refl; moved = omega arith }

-- one run behind another
pub wrote_then : {t t₁ t₂ : List ℕ} {at r₁ r₂ : ℕ} {l m : List ℕ} → Wrote t at l t₁ r₁ → Wrote t₁ r₁ m t₂ r₂ → Wrote t at (l ++ m) t₂ r₂
wrote_then {t} {t₁} {t₂} {at} {r₁} {r₂} {l} {m} a b = record {
  wrote = b.wrote ∙ (rw (a.wrote, a.moved) (sets_then t at l m));
  moved = rw length-append (omega (arith, a.moved, b.moved));
}

-- the row keeps its length
pub wrote_kept : {t t' : List ℕ} {at r : ℕ} {l : List ℕ} → Wrote t at l t' r → length t' ≡ length t
wrote_kept {t} {t'} {at} {r} {l} a = rw a.wrote (length-sets t at l)

-- put from the front into a row that holds it
pub wrote_whole : {t t' : List ℕ} {r : ℕ} {l : List ℕ} → Wrote t 0 l t' r → length l ≤ length t → t' ≡ l ++ drop (length l) t
wrote_whole {t} {t'} {r} {l} a h = a.wrote ∙ sets_front t l h

-- what is put into a row that holds it stands there: the n bytes from `at` on
pub wrote_back : {t t' : List ℕ} {at r : ℕ} {l : List ℕ} (n : ℕ) → Wrote t at l t' r → r ≡ at + n → r ≤ length t → take n (drop at t') ≡ l
wrote_back {t} {t'} {at} {r} {l} n a e h =
    let behind = drop (at + length l) t in
    let p : t' ≡ take at t ++ (l ++ behind) = a.wrote ∙ sets-eq l t at (omega (arith, a.moved)) ∙ append_assoc (take at t) l behind in
    let q : drop at (take at t ++ (l ++ behind)) ≡ l ++ behind = drop_at (take at t) (l ++ behind) at (length-take-le at t (omega arith)) in
    rw (p, q) (take_at l behind n (omega (arith, a.moved)))
