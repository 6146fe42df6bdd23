-- What a reader by recursive descent says of itself where it reads a class, and why: one law for each way through its code.
use Rattle.std.specs.Prelude.{◌≡◌, Bool, true, false, List, ℕ, ◌+◌, ◌≤◌, ◌<◌, length, get_or}
use Rattle.std.proofs.Math.Path.{refl}
use Rattle.std.proofs.Common.{◌∙◌, ap, arith, le-leb}
use Rattle.std.proofs.lemmas.Bool.{lt-leb}
use Rattle.meaning.specs.Expression.{pos}
use Rattle.meaning.specs.Grammar.{one_of, range, only, either, class_signs}
use Rattle.grammar.specs.Machine.{s_class, kind, n_char, inner}
use Rattle.grammar.specs.Machine.{Acc, empty, ranges, Frame, m_next, m_quote, m_low, m_dash, m_dash_quote, State, atom, inside, dead, add, step, none, result, alive}
use Rattle.grammar.specs.Reads.{plain_inner, Ranged, by_range, by_char, close_class}
use Rattle.grammar.specs.Place.{seen, seen_suc, Stops}
use Rattle.grammar.specs.Contract.{AtomDone, AtomBad, on, one, killed, cut_off}

-- an end of a class item, from i up to j
pub data CharAt (s : List ℕ) (i : ℕ) : ℕ → ℕ → Type 0 where
  bare_at : i < length s → one_of class_signs (get_or s i 0) ≡ false → CharAt s i (i + 1) (get_or s i 0)
  quoted_at : i + 1 < length s → get_or s i 0 ≡ 92 → CharAt s i (i + 1 + 1) (get_or s (i + 1) 0)

-- a byte that begins no class item: [ ] -
pub data ClassStray : ℕ → Type 0 where
  at_open : ClassStray 91
  at_end : ClassStray 93
  at_dash : ClassStray 45

-- no end of a class item begins at i; the machine stops at p
pub data NoChar (s : List ℕ) (i : ℕ) : ℕ → Type 0 where
  char_end : i ≡ length s → NoChar s i i
  char_stray : i < length s → ClassStray (get_or s i 0) → NoChar s i i
  char_cut : i + 1 ≡ length s → get_or s i 0 ≡ 92 → NoChar s i (i + 1)

-- where no class item begins at i, the machine stops at i
abbrev pub ClassWants : List ℕ → ℕ → Type 0
ClassWants s i = (i < length s → ClassStray (get_or s i 0)) → Stops s i

-- a class item ends at j, and a dash behind it kills
pub record PastRange (s : List ℕ) (j : ℕ) (c : Acc) (F : Frame) (K : List Frame) : Type 0 where
  pub ranged : Ranged (seen s j) c F K
  pub no_dash : j < length s → get_or s j 0 ≡ 45 → step (seen s j) 45 ≡ dead

pub record RangeDone (s : List ℕ) (i j : ℕ) (g : ℕ → Bool) : Type 0 where
  pub reads : (c : Acc) (F : Frame) (K : List Frame) → Ranged (seen s i) c F K → PastRange s j (ranges (add c g)) F K

pub record RangeBad (s : List ℕ) (i p : ℕ) : Type 0 where
  pub stops : (c : Acc) (F : Frame) (K : List Frame) → Ranged (seen s i) c F K → ClassWants s i → Stops s p

-- class items, from the place past the [
pub record RangesDone (s : List ℕ) (i j : ℕ) (f : ℕ → Bool) : Type 0 where
  pub reads : (F : Frame) (K : List Frame) → seen s i ≡ inside (m_next empty) F K → PastRange s j (ranges f) F K

-- up to the place past the ]
pub record ClassDone (s : List ℕ) (i j : ℕ) (f : ℕ → Bool) : Type 0 where
  pub reads : (F : Frame) (K : List Frame) → seen s i ≡ inside (m_next empty) F K → seen s j ≡ atom (pos f) 0 F K

pub record ClassBad (s : List ℕ) (i p : ℕ) : Type 0 where
  pub stops : (F : Frame) (K : List Frame) → seen s i ≡ inside (m_next empty) F K → Stops s p

ranged_char : {st : State} {c : Acc} {F : Frame} {K : List Frame} (b : ℕ) → Ranged st c F K → inner b ≡ n_char → step st b ≡ inside (m_low c b) F K
ranged_char b by_range e = rw e refl
ranged_char b by_char e = rw e refl

ranged_quote : {st : State} {c : Acc} {F : Frame} {K : List Frame} → Ranged st c F K → step st 92 ≡ inside (m_quote c) F K
unfolding inner
ranged_quote by_range = refl
ranged_quote by_char = refl

ranged_alive : {st : State} {c : Acc} {F : Frame} {K : List Frame} → Ranged st c F K → alive st ≡ true
ranged_alive by_range = refl
ranged_alive by_char = refl

ranged_open : {st : State} {c : Acc} {F : Frame} {K : List Frame} → Ranged st c F K → result st ≡ none
ranged_open by_range = refl
ranged_open by_char = refl

ranged_bad : {st : State} {c : Acc} {F : Frame} {K : List Frame} → Ranged st c F K → step st 91 ≡ dead
unfolding inner
ranged_bad by_range = refl
ranged_bad by_char = refl

first_stray : (F : Frame) (K : List Frame) (b : ℕ) → ClassStray b → step (inside (m_next empty) F K) b ≡ dead
unfolding inner
first_stray F K b at_open = refl
first_stray F K b at_end = refl
first_stray F K b at_dash = refl

more_stray : {st : State} {c : Acc} {F : Frame} {K : List Frame} (b : ℕ) → Ranged st c F K → (b ≡ 45 → step st 45 ≡ dead) → (b ≡ 93 → ⊥) → ClassStray b → step st b ≡ dead
more_stray b r d n at_open = ranged_bad r
more_stray b r d n at_end = absurd (n refl)
more_stray b r d n at_dash = d refl

dash_stray : (c : Acc) (x : ℕ) (F : Frame) (K : List Frame) (b : ℕ) → ClassStray b → step (inside (m_dash c x) F K) b ≡ dead
unfolding inner
dash_stray c x F K b at_open = refl
dash_stray c x F K b at_end = refl
dash_stray c x F K b at_dash = refl

-- the low end
low_done : {s : List ℕ} {i j x : ℕ} {c : Acc} {F : Frame} {K : List Frame} → CharAt s i j x → Ranged (seen s i) c F K → seen s j ≡ inside (m_low c x) F K
low_done {s} {i} (bare_at h p) r = seen_suc s i h ∙ ranged_char (get_or s i 0) r (plain_inner (get_or s i 0) p)
low_done {s} {i} {c = c} {F = F} {K = K} (quoted_at h e) r = on s (i + 1) (inside (m_quote c) F K) _ h (on s i (seen s i) 92 (omega arith) refl e ∙ ranged_quote r) refl

low_bad : {s : List ℕ} {i p : ℕ} {c : Acc} {F : Frame} {K : List Frame} → NoChar s i p → Ranged (seen s i) c F K → ClassWants s i → Stops s p
low_bad (char_end h) r w = w (λ l. absurd (omega arith))
low_bad (char_stray h x) r w = w (λ l. x)
low_bad {s} {i} {c = c} {F = F} {K = K} (char_cut h e) r w = cut_off (i + 1) (inside (m_quote c) F K) h (on s i (seen s i) 92 (omega arith) refl e ∙ ranged_quote r) refl refl

-- the machine dies of the byte at i
dies_of : {s : List ℕ} (i : ℕ) (st : State) → i < length s → seen s i ≡ st → alive st ≡ true → step st (get_or s i 0) ≡ dead → Stops s i
dies_of {s} i st h q a k = killed i h (ap alive q ∙ a) (ap (λ (x : State). step x (get_or s i 0)) q ∙ k)

-- the high end, behind a dash: whole, below the low end (then its last byte is bad), or not there
module _ (s : List ℕ) (i : ℕ) (c : Acc) (x : ℕ) (F : Frame) (K : List Frame) (q : seen s i ≡ inside (m_dash c x) F K) where
  high_quote : i < length s → get_or s i 0 ≡ 92 → seen s (i + 1) ≡ inside (m_dash_quote c x) F K
  unfolding inner
  high_quote h e = on s i (inside (m_dash c x) F K) 92 h q e

  high_done : {j y : ℕ} → CharAt s i j y → x ≤ y → seen s j ≡ inside (m_next (ranges (add c (range x y)))) F K
  high_done {y = y} (bare_at h p) l = on s i (inside (m_dash c x) F K) _ h q refl ∙ rw (plain_inner (get_or s i 0) p, le-leb x y l) refl
  high_done {y = y} (quoted_at h e) l = on s (i + 1) (inside (m_dash_quote c x) F K) _ h (high_quote (omega arith) e) refl ∙ rw (le-leb x y l) refl

  high_low : {j y : ℕ} (p : ℕ) → CharAt s i j y → y < x → j ≡ p + 1 → Stops s p
  high_low {y = y} p (bare_at h g) l e =
      let z : p ≡ i = omega arith in
      rw z (dies_of i (inside (m_dash c x) F K) h q refl (rw (plain_inner (get_or s i 0) g, lt-leb x y l) refl))
  high_low {y = y} p (quoted_at h g) l e =
      let z : p ≡ i + 1 = omega arith in
      rw z (dies_of (i + 1) (inside (m_dash_quote c x) F K) h (high_quote (omega arith) g) refl (rw (lt-leb x y l) refl))

  high_bad : {p : ℕ} → NoChar s i p → Stops s p
  high_bad (char_end h) = cut_off i (inside (m_dash c x) F K) h q refl refl
  high_bad (char_stray h g) = dies_of i (inside (m_dash c x) F K) h q refl (dash_stray c x F K (get_or s i 0) g)
  high_bad (char_cut h g) = cut_off (i + 1) (inside (m_dash_quote c x) F K) h (high_quote (omega arith) g) refl refl

module _ {s : List ℕ} where
  low_dash : {i j x : ℕ} (c : Acc) (F : Frame) (K : List Frame) → CharAt s i j x → j < length s → get_or s j 0 ≡ 45 → Ranged (seen s i) c F K → seen s (j + 1) ≡ inside (m_dash c x) F K
  unfolding inner
  low_dash {j = j} {x = x} c F K a h g r = on s j (inside (m_low c x) F K) 45 h (low_done a r) g

  -- class items
  pub range_single : {i j x : ℕ} → CharAt s i j x → (j < length s → get_or s j 0 ≡ 45 → ⊥) → RangeDone s i j (only x)
  range_single a n = record { reads = λ c F K r. record { ranged = rw (low_done a r) by_char; no_dash = λ l e. absurd (n l e) } }

  pub range_span : {i j k x y : ℕ} → CharAt s i j x → j < length s → get_or s j 0 ≡ 45 → CharAt s (j + 1) k y → x ≤ y → RangeDone s i k (range x y)
  unfolding inner
  range_span {j = j} {k = k} {x = x} {y = y} a h g b l = record {
    reads = λ c F K r.
        let q : seen s k ≡ inside (m_next (ranges (add c (range x y)))) F K = high_done s (j + 1) c x F K (low_dash c F K a h g r) b l in
        record { ranged = rw q by_range; no_dash = λ m e. rw q refl };
  }

  pub range_bad_low : {i p : ℕ} → NoChar s i p → RangeBad s i p
  range_bad_low a = record { stops = λ c F K r w. low_bad a r w }

  pub range_bad_high : {i j p x : ℕ} → CharAt s i j x → j < length s → get_or s j 0 ≡ 45 → NoChar s (j + 1) p → RangeBad s i p
  range_bad_high {j = j} {x = x} a h g b = record { stops = λ c F K r w. high_bad s (j + 1) c x F K (low_dash c F K a h g r) b }

  pub range_bad_order : {i j k p x y : ℕ} → CharAt s i j x → j < length s → get_or s j 0 ≡ 45 → CharAt s (j + 1) k y → y < x → k ≡ p + 1 → RangeBad s i p
  range_bad_order {j = j} {p = p} {x = x} a h g b l e = record { stops = λ c F K r w. high_low s (j + 1) c x F K (low_dash c F K a h g r) p b l e }

  -- classes
  pub ranges_first : {i j : ℕ} {g : ℕ → Bool} → RangeDone s i j g → RangesDone s i j g
  ranges_first a = record { reads = λ F K q. a.reads empty F K (rw q by_range) }

  pub ranges_more : {i j k : ℕ} {f g : ℕ → Bool} → RangesDone s i j f → RangeDone s j k g → RangesDone s i k (either f g)
  ranges_more {f = f} a b = record { reads = λ F K q. b.reads (ranges f) F K (a.reads F K q).ranged }

  pub class_done : {i j : ℕ} {f : ℕ → Bool} → RangesDone s i j f → j < length s → get_or s j 0 ≡ 93 → ClassDone s i (j + 1) f
  class_done {j = j} a h g = record { reads = λ F K q. on s j (seen s j) 93 h refl g ∙ close_class (a.reads F K q).ranged }

  pub class_open : {i j : ℕ} {f : ℕ → Bool} → RangesDone s i j f → j ≡ length s → ClassBad s i j
  class_open {j = j} a h = record { stops = λ F K q. let r = (a.reads F K q).ranged in cut_off j (seen s j) h refl (ranged_alive r) (ranged_open r) }

  pub class_first_bad : {i p : ℕ} → i ≤ length s → RangeBad s i p → ClassBad s i p
  class_first_bad {i} h a = record {
    stops = λ F K q. a.stops empty F K (rw q by_range) (λ x. record
        { within = h; live = ap alive q; dies = λ l. ap (λ (st : State). step st (get_or s i 0)) q ∙ first_stray F K (get_or s i 0) (x l); unfinished = λ l. ap result q });
  }

  pub class_more_bad : {i j p : ℕ} {f : ℕ → Bool} → RangesDone s i j f → j < length s → (get_or s j 0 ≡ 93 → ⊥) → RangeBad s j p → ClassBad s i p
  class_more_bad {j = j} {f = f} a h n b = record {
    stops = λ F K q.
        let r = a.reads F K q in
        b.stops (ranges f) F K r.ranged (λ x. dies_of j (seen s j) h refl (ranged_alive r.ranged) (more_stray (get_or s j 0) r.ranged (r.no_dash h) n (x h)));
  }

module _ (s : List ℕ) (i : ℕ) (h : i < length s) (e : get_or s i 0 ≡ 91) where
  pub atom_class : {j : ℕ} {f : ℕ → Bool} → ClassDone s (i + 1) j f → AtomDone s i j (pos f) 0
  unfolding kind
  atom_class a = record { reads = λ F K σ. a.reads F K (one s i F K s_class 91 h σ e refl) }

  pub atom_class_bad : {p : ℕ} → ClassBad s (i + 1) p → AtomBad s i p
  unfolding kind
  atom_class_bad a = record { stops = λ F K σ w. a.stops F K (one s i F K s_class 91 h σ e refl) }
