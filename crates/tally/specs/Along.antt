-- What is known of the row behind a place, from its end up to there, and how a step in front of it changes that. Assumes nothing: these are
-- definitions.
use Rattle.std.specs.Prelude.{◌≡◌, true, false, cond, List, ◌∷◌, ℕ, suc, ◌+◌, ◌-◌, ◌*◌, ◌/◌, ◌≤◌, ◌<◌, ◌^◌, max, eqb, ltb, length, get_or, drop}
use Rattle.meaning.specs.declared.Record.{Record}
use Rattle.meaning.specs.Limits.{mark_limit}
use Rattle.meaning.specs.Turns.{closes, some_token, up_to_closing, bytes_in}
use Rattle.tally.specs.declared.Place.{Place}
use Rattle.tally.specs.Tally.{figures_at, Holds, Tallied}

-- the figures of a mark that has more turns
abbrev pub plus : Record → Record → Record
plus r more = record { turns = r.turns + more.turns; bytes = r.bytes + more.bytes; longest = max r.longest more.longest }

pub record Fits (r more : Record) : Type 0 where
  pub turns_fit : r.turns + more.turns < 2 ^ 64
  pub bytes_fit : r.bytes + more.bytes < 2 ^ 64

-- n for the mark at place m, 0 for each other
abbrev pub at_mark : ℕ → ℕ → ℕ → ℕ
at_mark m n p = cond (eqb p m) n 0

-- the mark at place m has more turns
pub record Added (m : ℕ) (more : Record) (f f' : List Record) : Type 0 where
  pub turns_added : (p : ℕ) → p < mark_limit → (figures_at f' p).turns ≡ (figures_at f p).turns + at_mark m more.turns p
  pub bytes_added : (p : ℕ) → p < mark_limit → (figures_at f' p).bytes ≡ (figures_at f p).bytes + at_mark m more.bytes p
  pub longer : (p : ℕ) → p < mark_limit → (figures_at f' p).longest ≡ max (figures_at f p).longest (at_mark m more.longest p)

-- the mark at place m has a place there, and so much more fits
pub record Takes (m : ℕ) (more : Record) (f : List Record) : Type 0 where
  pub in_figures : m < length f
  pub fits : Fits (figures_at f m) more

-- a turn that read n bytes, which is none where n is 0
abbrev pub turn_of : ℕ → Record
turn_of n = record { turns = cond (ltb 0 n) 1 0; bytes = n; longest = n }

-- the turn that an opening of the mark at place m begins
abbrev pub opened_at : ℕ → ℕ → List ℕ → Record
opened_at m seen closed = turn_of (seen - get_or closed m 0)

-- room for it, and counted
pub record Opens (m seen : ℕ) (closed : List ℕ) (f : List Record) : Type 0 where
  pub in_closed : m < length closed
  pub takes : Takes m (opened_at m seen closed) f

abbrev pub Opened : ℕ → ℕ → List ℕ → List Record → List Record → Type 0
Opened m seen closed f f' = Added m (opened_at m seen closed) f f'

-- what stands in `closed` for a mark that is not closed behind the place, or more
abbrev pub never : ℕ
never = 18446744073709551615

-- Where `seen` byte tokens stand in a row: the next closing of h has c of them behind it; or there is none.
pub data Closed (h : ℕ) (row : List ℕ) (seen c : ℕ) : Type 0 where
  is_closed : some_token (closes h) row ≡ true → c + bytes_in (up_to_closing h row) ≡ seen → Closed h row seen c
  not_closed : some_token (closes h) row ≡ false → never ≤ c → Closed h row seen c

-- this row stands behind the place: its bytes, its next closings, and that it is counted
pub record Behind (row : List ℕ) (seen : ℕ) (closed : List ℕ) (f₀ f : List Record) : Type 0 where
  pub few : seen ≤ length row
  pub each : (m : ℕ) → m < mark_limit → Closed (suc m) row seen (get_or closed m 0)
  pub so_far : Tallied row f₀ f

-- on the way along a row that can be counted: the tokens from the place on are
pub record Underway (row : List ℕ) (p : Place) (closed : List ℕ) (f : List Record) : Type 0 where
  pub f₀ : List Record
  pub holds : Holds row f₀
  pub inside : p.at ≤ length row
  pub behind : Behind (drop p.at row) p.seen closed f₀ f
  pub wide_closed : mark_limit ≤ length closed
  pub wide_figures : mark_limit ≤ length f

-- a step towards the front, whatever the figures were at first
pub record Moved (row : List ℕ) (p : Place) (closed : List ℕ) (f : List Record) (p' : Place) (closed' : List ℕ) (f' : List Record) : Type 0 where
  pub nearer : p'.at < p.at
  pub on : (f₀ : List Record) → Behind (drop p.at row) p.seen closed f₀ f → Behind (drop p'.at row) p'.seen closed' f₀ f'

-- k turns of h, each of one byte, stand right before a row
pub data Short (h : ℕ) : ℕ → List ℕ → List ℕ → Type 0 where
  no_turn : {row : List ℕ} → Short h 0 row row
  one_turn : {k b : ℕ} {front row : List ℕ} → 256 ≤ b → b ≤ 511 → Short h k front row → Short h (suc k) (h ∷ (b ∷ ((128 + h) ∷ front))) row

-- such a turn ends at the place `at`
pub record Ends (row : List ℕ) (at h : ℕ) : Type 0 where
  pub three : 3 ≤ at
  pub short : Short h 1 (drop (at - 3) row) (drop at row)

-- from the place at' to the place `at` stand only such turns, of three tokens each
pub record Ran (row : List ℕ) (h at at' : ℕ) : Type 0 where
  pub no_further : at' ≤ at
  pub whole : at ≡ at' + 3 * ((at - at') / 3)
  pub short : Short h ((at - at') / 3) (drop at' row) (drop at row)

-- a closing of h stands before the place
pub record Closes (row : List ℕ) (at h : ℕ) : Type 0 where
  pub not_first : 0 < at
  pub from_one : 1 ≤ h
  pub up_to_last : h ≤ mark_limit
  pub token : get_or row (at - 1) 0 ≡ 128 + h
