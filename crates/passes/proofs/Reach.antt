-- From the start of the text onwards, a byte at a time. Assumes nothing.
use mathlib.Core.Path.{◌≡◌, refl, sym, ap, ap₂, ◌∙◌}
use mathlib.Core.Bool.{Bool, true, false, ◌&&◌, cond}
use mathlib.Core.List.{List, [], ◌∷◌}
use Prim.Native.Nat.{ℕ, suc, ◌+◌, ◌<◌}
use native.Mathlib.Numerals.{add-one}
use lib.ListN.{length, get_or, drop}
use lib.Seq.{drop-cons, drop-length}
use borrow.Author.Tests.{not-true, not-false}
use Rattle.bits.specs.Tally.{any}
use Rattle.bits.proofs.Tallies.{any_ext}
use Rattle.sets.specs.declared.set.Set.{Set}
use Rattle.sets.specs.Members.{has, limit, row, vacant}
use Rattle.passes.specs.Ways.{joined, readers, readable}

pub joined_ext : (follow : List Set) (s t : ℕ → Bool) → ((p : ℕ) → s p ≡ t p) → (q : ℕ) → joined follow s q ≡ joined follow t q
unfolding joined
joined_ext follow s t e q = any_ext (λ p. s p && has (row follow p) q) (λ p. t p && has (row follow p) q) limit (λ p _. ap (λ (x : Bool). x && has (row follow p) q) (e p))

module _ (mask follow : List Set) where
  pub readable_ext : (g h : ℕ → Bool) → ((q : ℕ) → g q ≡ h q) → (s : List ℕ) → readable mask follow g s ≡ readable mask follow h s
  unfolding readable
  readable_ext g h e [] = refl
  readable_ext g h e (c ∷ s) =
      let r : (q : ℕ) → readers mask g c q ≡ readers mask h c q = λ q. ap (λ (x : Bool). x && has (row mask c) q) (e q) in
      ap₂ (λ (t : Bool) (n : ℕ). cond t (suc n) 0) (any_ext (readers mask g c) (readers mask h c) limit (λ q _. r q))
      (readable_ext (joined follow (readers mask g c)) (joined follow (readers mask h c)) (joined_ext follow (readers mask g c) (readers mask h c) r) s)

  module _ (text : List ℕ) (g : ℕ → Bool) (i : ℕ) (inside : i < length text) (s : Set)
      (reading : (q : ℕ) → has s q ≡ (g q && has (row mask (get_or text i 0)) q)) where
    rest : drop i text ≡ get_or text i 0 ∷ drop (i + 1) text
    rest = rw (add-one i) (drop-cons text i 0 inside)

    some : any (readers mask g (get_or text i 0)) limit ≡ any (has s) limit
    some = sym (any_ext (has s) (readers mask g (get_or text i 0)) limit (λ q _. reading q))

    -- no position reads the byte at i
    pub readable_stops : vacant s ≡ true → readable mask follow g (drop i text) ≡ 0
    unfolding readable vacant
    readable_stops e = rw (rest, some, not-true (any (has s) limit) e)

    -- some do, and the next byte is read after them
    pub readable_more : vacant s ≡ false → (t : Set) → ((q : ℕ) → has t q ≡ joined follow (has s) q)
        → readable mask follow g (drop i text) ≡ suc (readable mask follow (has t) (drop (i + 1) text))
    unfolding readable vacant
    readable_more e t after =
        rw (rest, some, not-false (any (has s) limit) e)
        (ap suc (sym (readable_ext (has t) (joined follow (readers mask g (get_or text i 0))) (λ q. after q ∙ joined_ext follow (has s) (readers mask g (get_or text i 0)) reading q) (drop (i + 1) text))))

  -- after the text there is nothing to read
  pub readable_end : (text : List ℕ) (g : ℕ → Bool) (i : ℕ) → i ≡ length text → readable mask follow g (drop i text) ≡ 0
  unfolding readable
  readable_end text g i h = rw (h, drop-length text)
