-- What a scan without recursion knows of the machine, and why: how many lists are open around the innermost one, and what stands last in that
-- one; and one law for each way through its code.
use Rattle.std.specs.Prelude.{◌≡◌, refl, Bool, true, false, List, [], ◌∷◌, ℕ, ◌+◌, ◌-◌, ◌≤◌, ◌<◌, length, get_or}
use Rattle.std.proofs.Common.{◌∙◌, ap, arith}
use Rattle.meaning.specs.Expression.{Re}
use Rattle.grammar.specs.Machine.{Sign, s_open, s_close, kind, sign_kind}
use Rattle.grammar.specs.Machine.{Front, after, Frame, frame, State, ready, atom, dead, fresh, join, step, none, result, alive}
use Rattle.grammar.specs.Reads.{Settles, by_sign, by_atom, settled}
use Rattle.grammar.specs.Place.{seen, Stops, Reading}
use Rattle.grammar.specs.Viable.{Accepting, accepting}
use Rattle.grammar.specs.Contract.{AtomDone, AtomBad, settles_alive, settles_open, sign_ready, wants_more, on, killed, cut_off, whole_row}

-- what stands last in a list: nothing, a |, an item with its sign, an atom
pub data Last : Type 0 where
  last_none last_bar last_item last_atom : Last

-- whether a | can stand behind it, a ), and a sign
abbrev pub ends_branch : Last → Bool
ends_branch last_none = false
ends_branch last_bar = false
ends_branch last_item = true
ends_branch last_atom = true

abbrev pub ends_group : Last → Bool
ends_group last_none = true
ends_group last_bar = false
ends_group last_item = true
ends_group last_atom = true

abbrev pub takes_sign : Last → Bool
takes_sign last_none = false
takes_sign last_bar = false
takes_sign last_item = false
takes_sign last_atom = true

-- what stands last in the innermost list, and the lists around it
pub data Scans : State → List Frame → Last → Type 0 where
  none_read : {K : List Frame} → Scans (ready fresh K) K last_none
  bar_read : {a : Re} {d : ℕ} {K : List Frame} → Scans (ready (frame (after a) [] d) K) K last_bar
  item_read : {f : Front} {x : Re} {l : List Re} {d : ℕ} {K : List Frame} → Scans (ready (frame f (x ∷ l) d) K) K last_item
  atom_read : {e : Re} {d : ℕ} {F : Frame} {K : List Frame} → Scans (atom e d F K) K last_atom

-- at i, with n lists open around the innermost one
pub record Scanning (s : List ℕ) (i n : ℕ) (w : Last) : Type 0 where
  pub around : List Frame
  pub stands : Scans (seen s i) around w
  pub count : length around ≡ n
  pub few : n ≤ i

abbrev innermost : {st : State} {K : List Frame} {w : Last} → Scans st K w → Frame
innermost none_read = fresh
innermost (bar_read {a = a} {d}) = frame (after a) [] d
innermost (item_read {f = f} {x} {l} {d}) = frame f (x ∷ l) d
innermost (atom_read {e = e} {d} {F}) = join F e d

settles : {st : State} {K : List Frame} {w : Last} (c : Scans st K w) → Settles st (innermost c) K
settles none_read = by_sign
settles bar_read = by_sign
settles item_read = by_sign
settles atom_read = by_atom

-- ---- one byte: what the machine makes of it where it may stand, and that it kills elsewhere

abbrev Makes : Bool → State → List Frame → Last → Type 0
Makes true st K w = Scans st K w
Makes false st K w = st ≡ dead

opens : {st : State} {K : List Frame} {w : Last} (c : Scans st K w) → Scans (step st 40) (innermost c ∷ K) last_none
unfolding kind
opens c = rw (settled 40 s_open (settles c) refl) none_read

closes : {st : State} {G : Frame} {K : List Frame} {w : Last} → Scans st (G ∷ K) w → Makes (ends_group w) (step st 41) K last_atom
unfolding kind
closes none_read = atom_read
closes bar_read = refl
closes item_read = atom_read
closes (atom_read {F = frame f l d}) = atom_read

closes_none : {st : State} {w : Last} → Scans st [] w → step st 41 ≡ dead
unfolding kind
closes_none c = settled 41 s_close (settles c) refl

bars : {st : State} {K : List Frame} {w : Last} → Scans st K w → Makes (ends_branch w) (step st 124) K last_bar
unfolding kind
bars none_read = refl
bars bar_read = refl
bars item_read = bar_read
bars (atom_read {F = frame f l d}) = bar_read

repeats : {st : State} {K : List Frame} {w : Last} {b : ℕ} {f : Re → Re} → Scans st K w → Sign b f → Makes (takes_sign w) (step st b) K last_item
repeats (none_read {K}) g = sign_ready fresh K g
repeats (bar_read {a = a} {d} {K}) g = sign_ready (frame (after a) [] d) K g
repeats (item_read {f = f} {x} {l} {d} {K}) g = sign_ready (frame f (x ∷ l) d) K g
repeats (atom_read {F = frame f l d}) g = rw (sign_kind g) item_read

-- ---- the end of the row: what was read is a pattern where the branch can end there

abbrev Finishes : Bool → State → Type 0
Finishes true st = Accepting st
Finishes false st = result st ≡ none

finishes : {st : State} {w : Last} → Scans st [] w → Finishes (ends_branch w) st
finishes none_read = refl
finishes bar_read = refl
finishes item_read = accepting refl
finishes (atom_read {F = frame f l d}) = accepting refl

-- ---- the scan: at its start, at a byte, past a letter, and at the end of the row

pub scan_start : {s : List ℕ} → Scanning s 0 0 last_none
scan_start = record { around = []; stands = none_read; count = refl; few = omega arith }

module _ {s : List ℕ} {i n : ℕ} {w : Last} (c : Scanning s i n w) where
  live : alive (seen s i) ≡ true
  live = settles_alive (settles c.stands)

  module _ (h : i < length s) where
    -- the byte b at i: the machine reads it, or dies of it
    goes : {K : List Frame} {m : ℕ} {w' : Last} (b : ℕ) → get_or s i 0 ≡ b → length K ≡ m → m ≤ i + 1 → Scans (step (seen s i) b) K w' → Scanning s (i + 1) m w'
    goes {K} b e l f x = record { around = K; stands = rw (on s i (seen s i) b h refl e) x; count = l; few = f }

    stops : (b : ℕ) → get_or s i 0 ≡ b → step (seen s i) b ≡ dead → Stops s i
    stops b e d = killed i h live (ap (step (seen s i)) e ∙ d)

    pub scan_open : get_or s i 0 ≡ 40 → Scanning s (i + 1) (n + 1) last_none
    scan_open e = goes 40 e (omega (arith, c.count)) (omega (arith, c.few)) (opens c.stands)

    pub scan_close : get_or s i 0 ≡ 41 → 0 < n → ends_group w ≡ true → Scanning s (i + 1) (n - 1) last_atom
    scan_close e l g = go c.around c.count c.stands
      where
        go : (K : List Frame) → length K ≡ n → Scans (seen s i) K w → Scanning s (i + 1) (n - 1) last_atom
        go [] q x = absurd (omega arith)
        go (G ∷ K) q x = goes 41 e (omega arith) (omega (arith, c.few)) (rw g at (closes x))

    pub scan_close_behind_bar : get_or s i 0 ≡ 41 → ends_group w ≡ false → Stops s i
    scan_close_behind_bar e g = go c.around c.stands
      where
        go : (K : List Frame) → Scans (seen s i) K w → Stops s i
        go [] x = stops 41 e (closes_none x)
        go (G ∷ K) x = stops 41 e (rw g at (closes x))

    pub scan_close_alone : get_or s i 0 ≡ 41 → n ≡ 0 → Stops s i
    scan_close_alone e z = go c.around c.count c.stands
      where
        go : (K : List Frame) → length K ≡ n → Scans (seen s i) K w → Stops s i
        go [] q x = stops 41 e (closes_none x)
        go (G ∷ K) q x = absurd (omega arith)

    pub scan_bar : get_or s i 0 ≡ 124 → ends_branch w ≡ true → Scanning s (i + 1) n last_bar
    scan_bar e g = goes 124 e c.count (omega (arith, c.few)) (rw g at (bars c.stands))

    pub scan_bar_early : get_or s i 0 ≡ 124 → ends_branch w ≡ false → Stops s i
    scan_bar_early e g = stops 124 e (rw g at (bars c.stands))

    pub scan_sign : {f : Re → Re} → Sign (get_or s i 0) f → takes_sign w ≡ true → Scanning s (i + 1) n last_item
    scan_sign r g = goes _ refl c.count (omega (arith, c.few)) (rw g at (repeats c.stands r))

    pub scan_sign_early : {f : Re → Re} → Sign (get_or s i 0) f → takes_sign w ≡ false → Stops s i
    scan_sign_early r g = stops _ refl (rw g at (repeats c.stands r))

    -- no letter: an atom that is no group was looked for at i, where no ) or | stands and no sign
    pub scan_bad : {p : ℕ} → (get_or s i 0 ≡ 41 → ⊥) → (get_or s i 0 ≡ 124 → ⊥) → ((f : Re → Re) → Sign (get_or s i 0) f → ⊥) → AtomBad s i p → Stops s p
    scan_bad y x z b =
        let σ = settles c.stands in
        b.stops _ _ σ (wants_more i h x y (record { settles = σ; no_sign = λ l f g. absurd (z f g) }))

  pub scan_letter : {j : ℕ} {e : Re} {d : ℕ} → i ≤ j → AtomDone s i j e d → Scanning s j n last_atom
  scan_letter l a = record { around = c.around; stands = rw (a.reads _ _ (settles c.stands)) atom_read; count = c.count; few = omega (arith, c.few) }

  module _ (h : i ≡ length s) where
    pub scan_whole : n ≡ 0 → ends_branch w ≡ true → Reading s
    scan_whole z g = go c.around c.count c.stands
      where
        reading : Accepting (seen s i) → Reading s
        reading (accepting {e = e} {d = d} q) = record { denotes = e; depth = d; whole = whole_row h q }

        go : (K : List Frame) → length K ≡ n → Scans (seen s i) K w → Reading s
        go [] q x = reading (rw g at (finishes x))
        go (G ∷ K) q x = absurd (omega arith)

    pub scan_group_open : 0 < n → Stops s i
    scan_group_open l = go c.around c.count c.stands
      where
        go : (K : List Frame) → length K ≡ n → Scans (seen s i) K w → Stops s i
        go [] q x = absurd (omega arith)
        go (G ∷ K) q x = cut_off i (seen s i) h refl live (settles_open (settles x))

    pub scan_branch_open : ends_branch w ≡ false → Stops s i
    scan_branch_open g = go c.around c.stands
      where
        go : (K : List Frame) → Scans (seen s i) K w → Stops s i
        go [] x = cut_off i (seen s i) h refl live (rw g at (finishes x))
        go (G ∷ K) x = cut_off i (seen s i) h refl live (settles_open (settles x))
