-- One report of a night: from what the search found to the row that is counted. Assumes nothing.
use mathlib.Core.Path.{◌≡◌, refl, sym, ap, ◌∙◌}
use mathlib.Core.List.{List, []}
use Prim.Native.Nat.{ℕ, suc, ◌+◌, ◌-◌, ◌≤◌, ◌<◌}
use native.Mathlib.Omega.{arith}
use lib.ListN.{length, take, drop, length-append}
use lib.Seq.{drop-drop}
use borrow.Author.Tests.{eq-eqb, ne_eqb}
use Rattle.meaning.specs.Expression.{Re, marks}
use Rattle.meaning.specs.Limits.{text_limit, mark_limit, night_cells}
use Rattle.meaning.specs.Night.{Report, long_text, judged}
use Rattle.meaning.specs.Promise.{Judged, small_room}
use Rattle.meaning.specs.Turns.{turn_count, bytes_read, longest_turn}
use Rattle.laws.specs.Figures.{report_few}
use Rattle.positions.specs.TurnBytes.{turns_few}
use Rattle.tally.specs.Tally.{Holds, Tallied}
use Rattle.meaning.specs.declared.Record.{Record}
use Rattle.tree.specs.Outcome.{Outcome}
use Rattle.tree.specs.Judge.{Seeks}
use Rattle.night.specs.Reports.{Spacious, Reported}

-- a row that is not counted
tallied_none : {fs : List Record} → Tallied [] fs fs
unfolding turn_count bytes_read longest_turn
tallied_none = record { more_turns = λ m l. omega arith; more_bytes = λ m l. omega arith; longer = λ m l. omega arith }

-- cells past those of a text are past those of a night
pub past_night : {e : Re} {text cells cells' t t' : List ℕ} {r : Outcome} → Seeks e text cells cells' t t' r → length text ≤ text_limit → drop night_cells cells' ≡ drop night_cells cells
past_night {text = text} {cells = cells} {cells' = cells'} s l =
    let n = length text + 1 in
    let z : n + (night_cells - n) ≡ night_cells = omega arith in
    ap (λ (k : ℕ). drop k cells') (sym z) ∙ sym (drop-drop (night_cells - n) n cells') ∙ ap (λ (c : List ℕ). drop (night_cells - n) c) s.past ∙ drop-drop (night_cells - n) n cells
    ∙ ap (λ (k : ℕ). drop k cells) z

module _ {e : Re} {text room : List ℕ} (j : marks e ≤ mark_limit) where
  -- over its limit
  pub reported_long : {cells : List ℕ} {fs : List Record} → text_limit < length text → Reported e text cells cells room room fs fs 2
  unfolding bytes_read
  reported_long l = record { row = []; report = long_text l; tallied = tallied_none; few = λ h i. omega arith; past = refl; same_cells = refl }

  module _ {n v f : ℕ} {room' : List ℕ} (l : length text ≤ text_limit) (a : Judged e text room n v f room') where
    -- refused
    pub reported_none : {cells cells' : List ℕ} {fs : List Record} → (n ≡ 0 → ⊥) → drop night_cells cells' ≡ drop night_cells cells → length cells' ≡ length cells
        → Reported e text cells cells' room room' fs fs n
    unfolding bytes_read
    reported_none z p c = record {
      row = [];
      report = rw (ne_eqb n 0 z) at (judged l a);
      tallied = tallied_none;
      few = λ h i. omega arith;
      past = p;
      same_cells = c;
    }

    -- with a row at the front of the room
    pub front_fits : n ≡ 0 → v ≤ length room'
    front_fits z = go a z
      where
        go : {n v f : ℕ} {t : List ℕ} → Judged e text room n v f t → n ≡ 0 → v ≤ length t
        go (Judged.no_tree x p) z = absurd (omega arith)
        go (small_room x h) z = absurd (omega arith)
        go (Judged.tree {row = row} x h y) z = simp length-append (omega arith)

    front : n ≡ 0 → Report e text room n (take v room') room'
    front z = rw (eq-eqb n 0 z) at (judged l a)

    pub front_held : {fs : List Record} → n ≡ 0 → Spacious fs → Holds (take v room') fs
    front_held z s = record {
      turns_held = λ m i. omega (arith, s.more_turns m i, turns_few (suc m) (take v room'), report_few (suc m) (omega arith) j (front z));
      bytes_held = λ m i. omega (arith, s.more_bytes m i, report_few (suc m) (omega arith) j (front z));
    }

    pub reported_row : {cells cells' : List ℕ} {fs fs' : List Record} → n ≡ 0 → drop night_cells cells' ≡ drop night_cells cells → length cells' ≡ length cells
        → Tallied (take v room') fs fs' → Reported e text cells cells' room room' fs fs' 0
    reported_row z p c t = record { row = take v room'; report = rw z at (front z); tallied = t; few = λ h i. report_few h i j (front z); past = p; same_cells = c }
