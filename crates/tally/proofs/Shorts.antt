-- Turns of one byte in a row, by its tokens. Assumes nothing.
use mathlib.Core.Path.{◌≡◌, ◌∙◌, sym}
use mathlib.Core.List.{List, ◌∷◌}
use Prim.Native.Nat.{ℕ, suc, ◌+◌, ◌-◌, ◌/◌, ◌≤◌}
use native.Mathlib.Omega.{arith}
use lib.ListN.{length, get_or, take, drop}
use lib.Seq.{drop-cons}
use Rattle.std.proofs.lemmas.List.{get_or-take, length-take-le}
use Rattle.tally.specs.Along.{Short, no_turn, one_turn, Ends, Ran, Closes}

pub short_append : {h j k : ℕ} {a b c : List ℕ} → Short h j a b → Short h k b c → Short h (j + k) a c
short_append {k = k} no_turn t = let e : 0 + k ≡ k = omega arith in rw e t
short_append {j = suc j} {k} (one_turn b b' s) t = let e : suc j + k ≡ suc (j + k) = omega arith in rw e (one_turn b b' (short_append s t))

-- the three tokens before a place
three_tokens : (row : List ℕ) (at : ℕ) → 3 ≤ at → at ≤ length row
    → drop (at - 3) row ≡ get_or row (at - 3) 0 ∷ (get_or row (at - 2) 0 ∷ (get_or row (at - 1) 0 ∷ drop at row))
three_tokens row at l l' =
    let e₁ : suc (at - 3) ≡ at - 2 = omega arith in
    let e₂ : suc (at - 2) ≡ at - 1 = omega arith in
    let e₃ : suc (at - 1) ≡ at = omega arith in
    rw (drop-cons row (at - 3) 0 (omega arith), e₁, drop-cons row (at - 2) 0 (omega arith), e₂, drop-cons row (at - 1) 0 (omega arith), e₃)

-- the last two before a closing
pub short_turn : (row : List ℕ) (at h : ℕ) → at ≤ length row → let front = take at row in let n = length front in
    3 ≤ n → get_or front (n - 2) 0 / 256 ≡ 1 → get_or front (n - 3) 0 ≡ h → Closes row at h → Ends row at h
short_turn row at h l = rw (length-take-le at row l) go
  where
    go : 3 ≤ at → get_or (take at row) (at - 2) 0 / 256 ≡ 1 → get_or (take at row) (at - 3) 0 ≡ h → Closes row at h → Ends row at h
    go i byte opening z =
        let middle = get_or-take at row (at - 2) 0 (omega arith) in
        let first = get_or-take at row (at - 3) 0 (omega arith) in
        record {
          three = i;
          short = rw (three_tokens row at i l, z.token, sym first ∙ opening) (one_turn {b = get_or row (at - 2) 0} (omega (arith, middle, byte)) (omega (arith, middle, byte)) no_turn);
        }

-- along a run
pub ran_none : (row : List ℕ) (h at : ℕ) → Ran row h at at
ran_none row h at = let e : (at - at) / 3 ≡ 0 = omega arith in record { no_further = omega arith; whole = omega arith; short = rw e no_turn }

pub ran_more : {row : List ℕ} {h at at' : ℕ} → Ran row h at at' → Ends row at' h → Ran row h at (at' - 3)
ran_more {at = at} {at'} r t =
    let l = t.three in
    let m = r.no_further in
    let e : (at - (at' - 3)) / 3 ≡ 1 + (at - at') / 3 = omega arith in
    record { no_further = omega arith; whole = omega (arith, r.whole); short = rw e (short_append t.short r.short) }

pub ran_first : {row : List ℕ} {h at at' : ℕ} → Ends row at h → Ran row h (at - 3) at' → Ran row h at at'
ran_first {at = at} {at'} t r =
    let l = t.three in
    let m = r.no_further in
    let e : (at - at') / 3 ≡ (at - 3 - at') / 3 + 1 = omega arith in
    record { no_further = omega arith; whole = omega (arith, r.whole); short = rw e (short_append r.short t.short) }

-- a row with more turns in front has as many bytes more, at least
pub short_longer : {h k : ℕ} {front row : List ℕ} → Short h k front row → length row + k ≤ length front
short_longer no_turn = omega arith
short_longer (one_turn b b' s) = omega (arith, short_longer s)
