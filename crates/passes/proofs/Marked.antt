-- The masks of the classes, in a table that was empty. Assumes nothing.
use mathlib.Core.Path.{◌≡◌, ap, ◌∙◌}
use mathlib.Core.Bool.{Bool, false, ◌||◌}
use mathlib.Core.List.{List}
use Prim.Native.Nat.{ℕ, ◌<◌}
use Rattle.sets.specs.declared.class.Class.{Class}
use Rattle.sets.specs.declared.set.Set.{Set}
use Rattle.sets.specs.Members.{has, row}
use Rattle.passes.specs.Masks.{classed, Masked}

pub masked_classes : {class : List Class} {l m : List Set} {n : ℕ} → ((b q : ℕ) → has (row l b) q ≡ false) → Masked class n l m → (b q : ℕ) → b < 256 → has (row m b) q ≡ classed class n q b
masked_classes {class} {n = n} none M b q h = M.joins b q h ∙ ap (λ (t : Bool). t || classed class n q b) (none b q)
