-- Runs one after another: what they write and how they end. Assumes nothing.
use mathlib.Core.Path.{◌≡◌, refl, ap, ◌∙◌, subst}
use mathlib.Core.Bool.{Bool, ◌||◌}
use mathlib.Core.List.{List, []}
use Prim.Native.Nat.{ℕ, ◌+◌}
use native.Mathlib.Nat.{add-zero, add-suc, suc-add, add_assoc}
use native.Mathlib.Numerals.{add-one}
use lib.ListN.{length, set, length-append}
use Rattle.bits.proofs.Writing.{sets_then}
use Rattle.positions.specs.Positions.{Out, pass, at}
use Rattle.positions.specs.Runs.{Run, run, row_of, out_of, other_of, and_then, put, also}
use Rattle.walks.specs.declared.step.Step.{Step}
use Rattle.walks.specs.declared.step.Step.TheVariants.{Passed, Stopped}
use Rattle.walks.specs.Steps.{cursor, noted, step_of, Wrote, After}

-- the cursor is past the row
step_cursor : (o : Out) (c : ℕ) (w : Bool) → cursor (step_of o c w) ≡ c
step_cursor pass c w = refl
step_cursor (at q) c w = refl

pub wrote_cursor : {t t' : List ℕ} {from : ℕ} {r : Step} {R : Run} → Wrote t t' from r R → cursor r ≡ from + length (row_of R)
wrote_cursor {from = from} {R = R} h = ap cursor h.step ∙ step_cursor (out_of R) (from + length (row_of R)) (other_of R)

-- nothing is written
pub wrote_none : (t : List ℕ) (from : ℕ) (o : Out) (w : Bool) → Wrote t t from (step_of o from w) (run [] o w)
wrote_none t from o w = record { row = refl; step = rw (add-zero from) }

-- a token before what a run writes
pub wrote_put : {t t₁ u : List ℕ} {from b : ℕ} {r : Step} (v : ℕ) (R : Run) → Wrote t₁ t from r R → from ≡ b + 1 → t₁ ≡ set u b v → Wrote u t b r (put v R)
wrote_put {b = b} v (run ρ o w) h q z = record {
  row = h.row ∙ rw (z, q, add-one b);
  step = h.step ∙ rw (q, add-one b, suc-add b (length ρ), ← add-suc b (length ρ));
}

noted_step : (o : Out) (c : ℕ) (w v : Bool) → noted v (step_of o c w) ≡ step_of o c (w || v)
noted_step pass c w v = refl
noted_step (at q) c w v = refl

pub wrote_also : {t t' : List ℕ} {from : ℕ} {s r : Step} (v : Bool) (R : Run) → r ≡ noted v s → Wrote t t' from s R → Wrote t t' from r (also v R)
wrote_also {from = from} v (run ρ o w) q h = record { row = h.row; step = q ∙ ap (noted v) h.step ∙ noted_step o (from + length ρ) w v }

-- a run and what comes after it
pub wrote_then : {t t₁ t₂ : List ℕ} {from : ℕ} {s r : Step} (R S : Run) → Wrote t t₁ from s R → After s t₁ t₂ r S → Wrote t t₂ from r (and_then R S)
wrote_then {t} {t₁} {t₂} {from} {s} {r} (run ρ pass w) (run σ o v) h f =
    let g : After (Passed (from + length ρ) w) t₁ t₂ r (run σ o v) = subst (λ (s : Step). After s t₁ t₂ r (run σ o v)) h.step f in
    record {
      row = g.row ∙ rw h.row (sets_then t from ρ σ);
      step = g.step ∙ rw (length-append ρ σ, add_assoc from (length ρ) (length σ));
    }
wrote_then {t} {t₁} {t₂} {from} {s} {r} (run ρ (at q) w) S h f =
    let g : After (Stopped q (from + length ρ) w) t₁ t₂ r S = subst (λ (s : Step). After s t₁ t₂ r S) h.step f in
    record { row = g.0 ∙ h.row; step = g.1 }
