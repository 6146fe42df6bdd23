-- What a longer row has more in its figures, and that figures with that much more are those of the longer row. Assumes nothing.
use mathlib.Core.Path.{◌≡◌, refl, ◌∙◌, ap}
use mathlib.Core.Bool.{Bool, true, false, cond}
use mathlib.Core.List.{List, [], ◌∷◌}
use Prim.Native.Nat.{ℕ, zero, suc, ◌+◌, ◌≤◌, ◌<◌, min, max}
use native.Mathlib.Omega.{arith}
use lib.Dec.{eqb}
use lib.ListN.{drop}
use borrow.Author.Tests.{eqb-true, eqb-false, eq-eqb}
use Rattle.meaning.specs.Limits.{mark_limit}
use Rattle.meaning.specs.Turns.{turn_count, turn_bytes, bytes_read, longest_turn}
use Rattle.positions.specs.InFront.{next_bytes, turn_opened, turn_other, turn_counted}
use Rattle.meaning.specs.declared.Record.{Record}
use Rattle.tally.specs.Tally.{blank, Tallied}
use Rattle.tally.specs.Along.{plus, at_mark, turn_of, Added, Takes, Underway, Short, no_turn, one_turn}
use Rattle.tally.specs.declared.Place.{Place}
use Rattle.tally.proofs.Closings.{closed_now, past_byte, next_is}

-- the mark at place m has more turns
pub record Gains (m : ℕ) (more : Record) (row row' : List ℕ) : Type 0 where
  pub turns : (p : ℕ) → p < mark_limit → turn_count (suc p) row' ≡ at_mark m more.turns p + turn_count (suc p) row
  pub bytes : (p : ℕ) → p < mark_limit → bytes_read (suc p) row' ≡ at_mark m more.bytes p + bytes_read (suc p) row
  pub longest : (p : ℕ) → p < mark_limit → longest_turn (suc p) row' ≡ max (at_mark m more.longest p) (longest_turn (suc p) row)

-- by one token
module _ (m n t : ℕ) (row : List ℕ) (reads : (p : ℕ) → p < mark_limit → turn_bytes (suc p) t row ≡ at_mark m n p) where
  gains_token : Gains m (turn_of n) row (t ∷ row)
  gains_token = record {
    turns = λ p l. turn_counted (suc p) t row ∙ rw (reads p l) (ap (λ (k : ℕ). k + turn_count (suc p) row) (go (eqb p m)));
    bytes = λ p l. unfold bytes_read in rw (reads p l);
    longest = λ p l. unfold longest_turn in rw (reads p l);
  }
    where
      go : (c : Bool) → (turn_of (cond c n 0)).turns ≡ cond c (turn_of n).turns 0
      go true = refl
      go false = refl

nothing : (c : Bool) → ◌≡◌ {A = ℕ} 0 (cond c 0 0)
nothing true = refl
nothing false = refl

-- that opens no mark, or one
pub gains_none : (m t : ℕ) (row : List ℕ) → ((p : ℕ) → p < mark_limit → t ≡ suc p → ⊥) → Gains m blank row (t ∷ row)
gains_none m t row o = gains_token m 0 t row (λ p l. turn_other (suc p) t row (o p l) ∙ nothing (eqb p m))

pub gains_open : (m t n : ℕ) (row : List ℕ) → t ≡ suc m → next_bytes (suc m) row ≡ n → Gains m (turn_of n) row (t ∷ row)
gains_open m t n row e q = gains_token m n t row (λ p l. go p (eqb p m) refl)
  where
    go : (p : ℕ) (c : Bool) → eqb p m ≡ c → turn_bytes (suc p) t row ≡ cond c n 0
    go p true z = let s = eqb-true p m z in turn_opened (suc p) t row (omega arith) ∙ rw s q
    go p false z = turn_other (suc p) t row (λ k. eqb-false p m z (omega arith))

-- one behind another
pub gains_then : {m : ℕ} {g g' : Record} {a b c : List ℕ} → Gains m g a b → Gains m g' b c → Gains m (plus g' g) a c
gains_then {m} {g} {g'} G G' = record {
  turns = λ p i. omega (arith, G.turns p i, G'.turns p i, add g'.turns g.turns (eqb p m));
  bytes = λ p i. omega (arith, G.bytes p i, G'.bytes p i, add g'.bytes g.bytes (eqb p m));
  longest = λ p i. omega (arith, G.longest p i, G'.longest p i, greater g'.longest g.longest (eqb p m));
}
  where
    add : (a b : ℕ) (c : Bool) → cond c (a + b) 0 ≡ cond c a 0 + cond c b 0
    add a b true = refl
    add a b false = refl

    greater : (a b : ℕ) (c : Bool) → cond c (max a b) 0 ≡ max (cond c a 0) (cond c b 0)
    greater a b true = refl
    greater a b false = refl

-- k turns of one byte
abbrev pub shorts : ℕ → Record
shorts k = record { turns = k; bytes = k; longest = min k 1 }

pub gains_short : {m k : ℕ} {front row : List ℕ} → m < mark_limit → Short (suc m) k front row → Gains m (shorts k) row front
gains_short {m} {row = row} l no_turn = same
  where
    same : Gains m blank row row
    same = record {
      turns = λ p i. omega (arith, nothing (eqb p m));
      bytes = λ p i. omega (arith, nothing (eqb p m));
      longest = λ p i. omega (arith, nothing (eqb p m));
    }
gains_short {m} {k = suc k} {row = row} l (one_turn {b = b} {front = front} i j s) =
    let h : ℕ = suc m in
    let closing = gains_none m (128 + h) front (λ p q (e : 128 + h ≡ suc p). omega arith) in
    let letter = gains_none m b ((128 + h) ∷ front) (λ p q (e : b ≡ suc p). omega arith) in
    let reads = next_is {h = h} {seen = 1} (omega arith) (past_byte {h = h} {seen = 0} (omega arith) i j (closed_now refl)) in
    let opening = gains_open m h 1 (b ∷ ((128 + h) ∷ front)) refl reads in
    let e : 1 + (0 + (0 + k)) ≡ suc k = omega arith in
    let e' : max 1 (max 0 (max 0 (min k 1))) ≡ min (suc k) 1 = omega arith in
    rw (← e') (rw e at (gains_then (gains_then (gains_then (gains_short l s) closing) letter) opening))

-- figures that have so much more are those of the longer row
pub tallied_on : {m : ℕ} {more : Record} {row row' : List ℕ} {f₀ f f' : List Record} → Gains m more row row' → Added m more f f' → Tallied row f₀ f → Tallied row' f₀ f'
tallied_on g a t = record {
  more_turns = λ p l. omega (arith, g.turns p l, a.turns_added p l, t.more_turns p l);
  more_bytes = λ p l. omega (arith, g.bytes p l, a.bytes_added p l, t.more_bytes p l);
  longer = λ p l. omega (arith, g.longest p l, a.longer p l, t.longer p l);
}

pub added_none : (m : ℕ) (f : List Record) → Added m blank f f
added_none m f = record {
  turns_added = λ p l. omega (arith, nothing (eqb p m));
  bytes_added = λ p l. omega (arith, nothing (eqb p m));
  longer = λ p l. omega (arith, nothing (eqb p m));
}

-- and they fit, where the whole row does
fewer_turns : (h i : ℕ) (row : List ℕ) → turn_count h (drop i row) ≤ turn_count h row
unfolding turn_count
fewer_turns h zero row = omega arith
fewer_turns h (suc i) [] = omega arith
fewer_turns h (suc i) (t ∷ row) = omega (arith, fewer_turns h i row)

fewer_bytes : (h i : ℕ) (row : List ℕ) → bytes_read h (drop i row) ≤ bytes_read h row
unfolding bytes_read
fewer_bytes h zero row = omega arith
fewer_bytes h (suc i) [] = omega arith
fewer_bytes h (suc i) (t ∷ row) = omega (arith, fewer_bytes h i row)

pub takes : {m : ℕ} {more : Record} {row : List ℕ} {p : Place} {closed : List ℕ} {f : List Record} (at' : ℕ) → m < mark_limit → Gains m more (drop p.at row) (drop at' row) → Underway row p closed f → Takes m more f
takes {m} {row = row} at' l g u =
    let own : eqb m m ≡ true = eq-eqb m m refl in
    let so_far = u.behind.so_far in
    record {
      in_figures = omega (arith, u.wide_figures);
      fits =
          record {
            turns_fit = omega (arith, rw own at (g.turns m l), so_far.more_turns m l, fewer_turns (suc m) at' row, u.holds.turns_held m l);
            bytes_fit = omega (arith, rw own at (g.bytes m l), so_far.more_bytes m l, fewer_bytes (suc m) at' row, u.holds.bytes_held m l);
          };
    }
