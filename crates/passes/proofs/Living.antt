-- With exact tables the backward pass finds the positions that are alive. Assumes nothing.
use mathlib.Core.Path.{◌≡◌, refl, sym, ap, ap₂, ◌∙◌}
use mathlib.Core.Bool.{Bool, true, false, ◌&&◌, ◌||◌, and_comm}
use mathlib.Core.List.{List}
use Prim.Native.Nat.{ℕ, ◌<◌}
use native.Mathlib.Omega.{arith}
use Rattle.meaning.specs.Expression.{Re, size}
use Rattle.meaning.specs.Grammar.{Bytes, no_byte, byte}
use Rattle.bits.specs.Tally.{any}
use Rattle.bits.specs.Truth.{alike, both, and_both}
use Rattle.bits.proofs.Tallies.{any_at, any_some}
use Rattle.sets.specs.declared.set.Set.{Set}
use Rattle.sets.specs.Members.{has, limit, row}
use Rattle.sets.proofs.SetLaws.{has_lt}
use Rattle.positions.specs.Alive.{ended, alive}
use Rattle.positions.specs.Sets.{follows, reads_in, Meet, meet, reaches_meet}
use Rattle.positions.specs.Tests.{reads, ends, reaches, resumes}
use Rattle.passes.specs.Tables.{Tables}
use Rattle.passes.specs.Ways.{onward, living}
use Rattle.passes.proofs.Rests.{onward_ext}

module _ (e : Re) (mask follow : List Set) (last first : Set) (T : Tables e mask follow last first) where
  onward_resumes : (q : ℕ) (g : ℕ → Bool) (b : Bool) → q < size e → onward follow last q g b ≡ resumes 0 e q g b
  unfolding onward
  onward_resumes q g b l = ap₂ (λ (x y : Bool). x || y) (alike _ _ there back) (ap (λ (t : Bool). b && t) (T.ending q) ∙ and_comm b (ends 0 e q))
    where
      next : ℕ → Bool
      next p = has (row follow q) p && g p

      there : any next limit ≡ true → reaches 0 e q g ≡ true
      there i =
          let w = any_some next limit i in
          let s = both (has (row follow q) w.0) (g w.0) w.2 in
          (reaches_meet 0 e q g).1 (meet (sym (T.following q w.0 l) ∙ s.0) s.1)

      back : reaches 0 e q g ≡ true → any next limit ≡ true
      back i = go ((reaches_meet 0 e q g).0 i)
        where
          go : Meet (follows 0 e q) g → any next limit ≡ true
          go (meet {q = p} f k) = let h = T.following q p l ∙ f in any_at next limit p (has_lt (row follow q) p h) (and_both h k)

  pub living_alive : {text : List ℕ} → Bytes text → (q : ℕ) → living mask follow last text q ≡ alive e text q
  unfolding living alive
  living_alive no_byte q = refl
  living_alive (byte {b = c} {s = s} h k) q =
      ap (λ (t : Bool). t && onward follow last q (living mask follow last s) (ended s)) (T.reading c q h)
      ∙ where_read (reads 0 e q c) refl (onward_ext follow last q (living mask follow last s) (alive e s) (ended s) (living_alive k))
    where
      where_read : (t : Bool) → reads 0 e q c ≡ t → onward follow last q (living mask follow last s) (ended s) ≡ onward follow last q (alive e s) (ended s)
          → (t && onward follow last q (living mask follow last s) (ended s)) ≡ (t && resumes 0 e q (alive e s) (ended s))
      where_read true r z = z ∙ onward_resumes q (alive e s) (ended s) (omega (arith, reads_in 0 e q c r))
      where_read false r z = refl
