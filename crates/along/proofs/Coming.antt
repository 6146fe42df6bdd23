-- How a walk comes along a text: one stretch after another, and how much room it takes. Assumes nothing.
use mathlib.Core.Path.{◌≡◌}
use mathlib.Core.Bool.{Bool}
use mathlib.Core.List.{List}
use Prim.Native.Nat.{ℕ, ◌+◌, ◌*◌, ◌≤◌, ◌<◌, ◌^◌}
use native.Mathlib.Nat.{mul-le-mul}
use native.Mathlib.Omega.{arith}
use lib.ListN.{length}
use Rattle.meaning.specs.Expression.{Re, marks}
use Rattle.meaning.specs.Limits.{text_limit, mark_limit}
use Rattle.grammar.specs.Fair.{Fair}
use Rattle.walks.specs.declared.step.Step.{Step}
use Rattle.walks.specs.declared.step.Step.TheVariants.{Stopped}
use Rattle.along.specs.Along.{Along, Came}
use Rattle.along.proofs.Along.{along_few}
use Rattle.along.proofs.Standing.{beyond_then}

pub came_then : {e : Re} {txt t t₁ t₂ : List ℕ} {s s₁ s₂ : Step} {i i₁ i₂ : ℕ} → Came e txt t t₁ s s₁ i i₁ → Came e txt t₁ t₂ s₁ s₂ i₁ i₂ → Came e txt t t₂ s s₂ i i₂
came_then C D = record { along = D.along; later = omega (arith, C.later, D.later); beyond = beyond_then _ C.beyond D.beyond D.later }

pub came_at : {e : Re} {txt t t₁ : List ℕ} {s s₁ s₂ : Step} {i i₁ i₂ : ℕ} → s₁ ≡ s₂ → i₁ ≡ i₂ → Came e txt t t₁ s s₁ i i₁ → Came e txt t t₁ s s₂ i i₂
came_at z y C = rw (z, y) at C

-- there is room to count
pub along_room : {e : Re} {txt t : List ℕ} {s : Step} {i c q : ℕ} {w : Bool} → Fair e → marks e ≤ mark_limit → length txt ≤ text_limit → Along e txt t s i → i ≤ length txt → s ≡ Stopped q c w
    → c + 8 * marks e + 1024 < 2 ^ 64
along_room {e} {txt} {i = i} f m l A h z =
    let k = (along_few e f (omega arith) txt A z).1 in
    let n : i * (4 * marks e + 1) ≤ 4096 * 257 = mul-le-mul {n₁ = i} {m₁ = 4 * marks e + 1} {n₂ = 4096} {m₂ = 257} (omega arith) (omega arith) in
    omega (arith, k, n)
