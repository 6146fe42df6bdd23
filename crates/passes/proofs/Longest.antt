-- With exact tables the bytes that can be read are the longest beginning of a text with a tree. Assumes nothing.
use mathlib.Core.Path.{◌≡◌, refl, sym, ap, ◌∙◌}
use mathlib.Core.Bool.{Bool, true, false, ◌&&◌, cond, true≢false}
use mathlib.Core.List.{List, [], ◌∷◌}
use mathlib.Core.Logic.{◌↔◌}
use Prim.Native.Nat.{ℕ, suc, ◌+◌, ◌≤◌, ◌<◌}
use native.Mathlib.Nat.{add-zero, zero-add}
use native.Mathlib.Omega.{arith}
use lib.ListN.{length, get_or, take, drop, length-drop}
use lib.Seq.{drop-cons}
use Rattle.meaning.specs.Expression.{Re, size}
use Rattle.meaning.specs.Grammar.{Bytes, no_byte, byte, Longest}
use Rattle.meaning.specs.Tree.{Begins}
use Rattle.grammar.specs.Open.{Open}
use Rattle.bits.specs.Tally.{any}
use Rattle.bits.specs.Truth.{both, and_both}
use Rattle.bits.proofs.Tallies.{any_at, any_some}
use Rattle.sets.specs.declared.set.Set.{Set}
use Rattle.sets.specs.Members.{has, limit, row}
use Rattle.sets.proofs.SetLaws.{has_lt}
use Rattle.positions.specs.Reached.{Reached, Last, reached_first, reached_next, begins_start, begins_next, place_inside, place_end}
use Rattle.positions.specs.Sets.{reads_in}
use Rattle.positions.specs.Tests.{reads}
use Rattle.passes.specs.Tables.{Tables}
use Rattle.passes.specs.Ways.{joined, readers, readable}

-- the rest of a text after its next byte
data Split (text : List ℕ) (i c : ℕ) (s : List ℕ) : Type 0 where
  split : i < length text → get_or text i 0 ≡ c → drop (suc i) text ≡ s → Split text i c s

split_at : (text : List ℕ) (i c : ℕ) (s : List ℕ) → drop i text ≡ c ∷ s → Split text i c s
split_at text i c s e =
    let l : i < length text = omega (arith, ap length e, length-drop i text) in
    let d = sym (drop-cons text i 0 l) ∙ e in
    split l (cc) (cc)

module _ (e : Re) (o : Open e) (mask follow : List Set) (last first : Set) (T : Tables e mask follow last first) (text : List ℕ) where
  -- g has the positions that are reached after i bytes
  abbrev Exactly : (ℕ → Bool) → ℕ → Type 0
  Exactly g i = (q : ℕ) → (g q ≡ true) ↔ Reached e text i q

  reads_last : (g : ℕ → Bool) (i c : ℕ) → c < 256 → get_or text i 0 ≡ c → Exactly g i → (q : ℕ) → (readers mask g c q ≡ true) ↔ Last e text i q
  reads_last g i c b z x q = (
    λ h. let s = both (g q) (has (row mask c) q) h in
        record { reached = (x q).0 s.0; read = ap (reads 0 e q) z ∙ sym (T.reading c q b) ∙ s.1 },
    λ l. and_both ((x q).1 l.reached) (T.reading c q b ∙ ap (reads 0 e q) (sym z) ∙ l.read),
  )

  inside : {i q : ℕ} → Last e text i q → q < size e
  inside {i} {q} l = omega (arith, reads_in 0 e q (get_or text i 0) l.read)

  next : (r : ℕ → Bool) (i : ℕ) → ((q : ℕ) → (r q ≡ true) ↔ Last e text i q) → ((q : ℕ) → r q ≡ true → q < limit) → Exactly (joined follow r) (suc i)
  unfolding joined
  next r i x in-limit q' = (
    λ h.
        let w = any_some (λ p. r p && has (row follow p) q') limit h in
        let s = both (r w.0) (has (row follow w.0) q') w.2 in
        let l = (x w.0).0 s.0 in
        (reached_next e text i q').1 (w.0, l, sym (T.following w.0 q' (inside l)) ∙ s.1),
    λ h.
        let w = (reached_next e text i q').0 h in
        let m = (x w.0).1 w.1 in
        any_at (λ p. r p && has (row follow p) q') limit w.0 (in-limit w.0 m) (and_both m (T.following w.0 q' (inside w.1) ∙ w.2)),
  )

  -- from what is reached after i bytes on
  abbrev Rest : ℕ → (ℕ → Bool) → List ℕ → Type 0
  Rest i g s = drop i text ≡ s → i ≤ length text → Exactly g i → Begins e (take i text) → Longest (Begins e) text (i + readable mask follow g s)

  -- the next byte is c
  one : {s : List ℕ} {c i : ℕ} (g : ℕ → Bool) → c < 256 → Split text i c s → Rest (suc i) (joined follow (readers mask g c)) s → Exactly g i → Begins e (take i text)
      → Longest (Begins e) text (i + readable mask follow g (c ∷ s))
  unfolding readable
  one {s} {c} {i} g h (split m z r) on x b = go (any (readers mask g c) limit) refl
    where
      these : (q : ℕ) → (readers mask g c q ≡ true) ↔ Last e text i q
      these = reads_last g i c h z x

      fewer : (q : ℕ) → readers mask g c q ≡ true → q < limit
      fewer q k = has_lt (row mask c) q (both (g q) (has (row mask c) q) k).1

      go : (t : Bool) → any (readers mask g c) limit ≡ t → Longest (Begins e) text (i + cond t (suc (readable mask follow (joined follow (readers mask g c)) s)) 0)
      go true y =
          let w = any_some (readers mask g c) limit y in
          let n = readable mask follow (joined follow (readers mask g c)) s in
          let u : i + suc n ≡ suc i + n = omega arith in
          rw u (on r (omega arith) (next (readers mask g c) i these fewer) (begins_next o text i w.0 m ((these w.0).0 w.2)))
      go false y =
          rw (add-zero i) (place_inside text i m b (λ q l. let k = (these q).1 l in true≢false (sym (any_at (readers mask g c) limit q (fewer q k) k) ∙ y)))

  none : (i : ℕ) (g : ℕ → Bool) → Rest i g []
  unfolding readable
  none i g d l x b = let z : i ≡ length text = omega (arith, ap length d, length-drop i text) in rw (add-zero i, z) (place_end text (rw z at b))

  from : {s : List ℕ} → Bytes s → (i : ℕ) (g : ℕ → Bool) → Rest i g s
  from no_byte i g d l x b = none i g d l x b
  from (byte {b = c} {s = s} h k) i g d l x b = one g h (split_at text i c s d) (from k (suc i) (joined follow (readers mask g c))) x b

  -- THE PLACE
  pub readable_longest : Bytes text → Longest (Begins e) text (readable mask follow (has first) text)
  readable_longest k =
      rw zero-add at
      (from k 0 (has first) refl (omega arith)
      (λ q. (λ h. (reached_first e text q).1 (sym (T.beginning q) ∙ h), λ r. T.beginning q ∙ (reached_first e text q).0 r)) (begins_start o text))
