-- What a step back found for each byte, kept. Assumes nothing.
use mathlib.Core.Path.{◌≡◌, refl, sym, ap, ◌∙◌}
use mathlib.Core.Bool.{Bool, false, ◌&&◌, and-false}
use mathlib.Core.List.{List}
use Prim.Native.Nat.{ℕ, zero, suc, ◌≤◌}
use lib.ListN.{replicate, get_or, length-replicate}
use Rattle.sets.specs.declared.set.Set.{Set}
use Rattle.sets.specs.Members.{has, limit, row}
use Rattle.passes.specs.declared.backward.Recent.{Recent}
use Rattle.passes.specs.Ways.{leading, Memo}
use Rattle.bits.proofs.Bits.{bit_none}
use Rattle.passes.proofs.Visits.{joined_none}

-- nothing was found yet
abbrev pub nothing : Recent
nothing = record { next = record { bits = 0 }; found = record { bits = 0 } }

-- so is every entry of a row of it
same_anywhere : (n b : ℕ) → get_or (replicate n nothing) b nothing ≡ nothing
same_anywhere zero b = refl
same_anywhere (suc n) zero = refl
same_anywhere (suc n) (suc b) = same_anywhere n b

module _ (mask pre : List Set) where
  empty : Set
  empty = record { bits = 0 }

  has_none : (q : ℕ) → has empty q ≡ false
  unfolding has empty
  has_none q = bit_none limit q

  -- nothing leads to the empty set
  none : (b q : ℕ) → has nothing.found q ≡ leading mask pre b (has nothing.next) q
  unfolding empty
  none b q =
      has_none q ∙ sym (ap (λ (t : Bool). has (row mask b) q && t) (joined_none empty has_none pre q) ∙ and-false (has (row mask b) q))

  pub memo_none : (n : ℕ) → 256 ≤ n → Memo mask pre (replicate n nothing)
  memo_none n h = record { each_byte = simp length-replicate h; known = λ b q. rw (same_anywhere n b) (none b q) }
