-- The place moves towards the front of a row: one law for each way that it goes, and that what is counted there fits. Assumes nothing.
use mathlib.Core.Path.{◌≡◌, refl}
use mathlib.Core.Bool.{Bool, true, false}
use mathlib.Core.List.{List, ◌∷◌}
use Prim.Native.Nat.{ℕ, suc, ◌+◌, ◌-◌, ◌/◌, ◌≤◌, ◌<◌, min}
use native.Mathlib.Omega.{arith}
use lib.Dec.{ltb}
use borrow.Author.Tests.{ltb-true, ltb-false}
use lib.ListN.{length, length-drop, get_or, drop, set}
use lib.Seq.{drop-cons}
use Rattle.meaning.specs.declared.Record.{Record}
use Rattle.meaning.specs.Limits.{mark_limit}
use Rattle.meaning.specs.Turns.{is_byte}
use Rattle.positions.specs.ByteTokens.{below_bytes, above_bytes}
use Rattle.tally.specs.declared.Place.{Place}
use Rattle.tally.specs.Along.{opened_at, never, Added, Takes, Opens, Opened, Behind, Underway, Moved, Short, Ran, Closes}
use Rattle.tally.proofs.Shorts.{short_longer}
use Rattle.tally.proofs.Closings.{past_other, closed_now, next_is, own_closing, other_closing}
use Rattle.tally.proofs.Gains.{Gains, gains_none, gains_open, shorts, gains_short, added_none, takes}
use Rattle.tally.proofs.Steps.{behind_byte, behind_other, behind_closing}

-- no more bytes are seen than tokens stand behind the place
pub seen_inside : {row : List ℕ} {p : Place} {closed : List ℕ} {f : List Record} → Underway row p closed f → p.at + p.seen ≤ length row
seen_inside {row} {p} u = omega (arith, u.inside, u.behind.few, length-drop p.at row)

one_back : (row : List ℕ) (at : ℕ) → 0 < at → at ≤ length row → drop (at - 1) row ≡ get_or row (at - 1) 0 ∷ drop at row
one_back row at i j = let e : suc (at - 1) ≡ at = omega arith in rw (drop-cons row (at - 1) 0 (omega arith), e)

no_byte : (t : ℕ) → (t / 256 ≡ 1 → ⊥) → is_byte t ≡ false
no_byte t n = go (ltb t 256) refl
  where
    go : (c : Bool) → ltb t 256 ≡ c → is_byte t ≡ false
    go true e = below_bytes t (ltb-true t 256 e)
    go false e = above_bytes t (omega (arith, ltb-false t 256 e))

-- over one token
module _ {row : List ℕ} {p : Place} {closed : List ℕ} {f : List Record} (u : Underway row p closed f) (i : 0 < p.at) where
  abbrev token : ℕ
  token = get_or row (p.at - 1) 0

  pub moved_byte : token / 256 ≡ 1 → Moved row p closed f (record { at = p.at - 1; seen = p.seen + 1 }) closed f
  moved_byte e = record { nearer = omega arith; on = λ f₀ b. rw (one_back row p.at i u.inside) (behind_byte b _ (omega arith) (omega arith)) }

  pub moved_other : (token / 256 ≡ 1 → ⊥) → ((q : ℕ) → q < mark_limit → token ≡ suc q → ⊥)
      → ((q : ℕ) → q < mark_limit → token ≡ 128 + suc q → ⊥) → Moved row p closed f (record { at = p.at - 1; seen = p.seen }) closed f
  moved_other n o o' = record {
    nearer = omega arith;
    on = λ f₀ b. rw (one_back row p.at i u.inside) (behind_other b _ (no_byte _ n) o' (gains_none 0 _ (drop p.at row) o) (added_none 0 f));
  }

  -- an opening of the mark at place m
  module _ (m : ℕ) (l : m < mark_limit) (e : token ≡ suc m) (s : length row < never) where
    opening_gains : {f₀ : List Record} → Behind (drop p.at row) p.seen closed f₀ f → Gains m (opened_at m p.seen closed) (drop p.at row) (token ∷ drop p.at row)
    opening_gains b = gains_open m _ _ (drop p.at row) e (next_is (omega (arith, seen_inside u)) (b.each m l))

    pub opening_takes : Opens m p.seen closed f
    opening_takes = record {
      in_closed = omega (arith, u.wide_closed);
      takes = takes (p.at - 1) l (rw (one_back row p.at i u.inside) (opening_gains u.behind)) u;
    }

    pub moved_opening : {f' : List Record} → Opened m p.seen closed f f' → Moved row p closed f (record { at = p.at - 1; seen = p.seen }) closed f'
    moved_opening a =
        let low = below_bytes token (omega (arith, e)) in
        let none : (q : ℕ) → q < mark_limit → token ≡ 128 + suc q → ⊥ = λ q k z. omega (arith, e) in
        record { nearer = omega arith; on = λ f₀ b. rw (one_back row p.at i u.inside) (behind_other b _ low none (opening_gains b) a) }

  -- a closing of it
  moved_closing : (m : ℕ) → m < mark_limit → token ≡ 128 + suc m → Moved row p closed f (record { at = p.at - 1; seen = p.seen }) (set closed m p.seen) f
  moved_closing m l e =
      let low = below_bytes token (omega (arith, e)) in
      let none = gains_none m token (drop p.at row) (λ q h (k : token ≡ suc q). omega (arith, e)) in
      record {
        nearer = omega arith;
        on = λ f₀ b. rw (one_back row p.at i u.inside) (behind_closing b p.seen l u.wide_closed (omega (arith, b.few)) (closed_now e)
            (λ q h o z. past_other (λ (k : token ≡ 128 + suc q). o (omega (arith, e))) low z) none (added_none m f));
      }

-- a closing of h, which ends turns of one byte, or none
module _ {row : List ℕ} {p : Place} {closed : List ℕ} {h : ℕ} {f : List Record} (u : Underway row p closed f) (z : Closes row p.at h) where
  place : h - 1 < mark_limit
  place = omega (arith, z.from_one, z.up_to_last)

  pub moved_plain : Moved row p closed f (record { at = p.at - 1; seen = p.seen }) (set closed (h - 1) p.seen) f
  moved_plain = moved_closing u z.not_first (h - 1) place (omega (arith, z.from_one, z.token))

  -- with it go all such turns that end there
  module _ {at : ℕ} (r : Ran row h p.at at) (i : at ≡ p.at → ⊥) where
    abbrev count : ℕ
    count = (p.at - at) / 3

    some : 0 < count
    some = omega (arith, r.no_further, r.whole, i)

    short : Short (suc (h - 1)) count (drop at row) (drop p.at row)
    short = let e : h ≡ suc (h - 1) = omega (arith, z.from_one) in rw e at r.short

    abbrev more : Record
    more = record { turns = count; bytes = count; longest = 1 }

    of_one_byte : shorts count ≡ more
    of_one_byte = let l = some in let one : min count 1 ≡ 1 = omega arith in rw one refl

    pub short_takes : Takes (h - 1) more f
    short_takes = rw of_one_byte at (takes at place (gains_short place short) u)

    pub moved_short : {f' : List Record} → Added (h - 1) more f f' → Moved row p closed f (record { at = at; seen = p.seen + count }) (set closed (h - 1) (p.seen + count - 1)) f'
    moved_short a =
        let l = some in
        let e : p.seen + count - 1 + 1 ≡ p.seen + count = omega arith in
        let own = rw e at (own_closing (p.seen + count - 1) (omega (arith, place)) l short) in
        record {
          nearer = omega (arith, r.no_further, i);
          on = λ f₀ b. behind_closing b (p.seen + count - 1) place u.wide_closed (omega (arith, b.few, short_longer short)) own
              (λ q j o c. other_closing (omega (arith, place)) (omega arith) (λ (y : suc (h - 1) ≡ suc q). o (omega arith)) short c) (rw of_one_byte at (gains_short place short)) a;
        }
