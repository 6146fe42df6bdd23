-- The figures of a night are small: a report adds to a mark at most as many turns and bytes as a text may have bytes, and 1,000 reports as many as
-- a last-night number may be.
use Rattle.std.specs.Prelude.{◌≡◌, refl, List, map, ℕ, zero, suc, ◌+◌, ◌*◌, ◌≤◌, length, drop}
use Rattle.std.proofs.Common.{ap}
use native.Mathlib.Omega.{arith}
use Rattle.std.proofs.Math.Seq.{take-append_seam}
use Rattle.meaning.specs.declared.Record.{Record}
use Rattle.meaning.specs.Expression.{Re, marks}
use Rattle.meaning.specs.Limits.{text_limit, mark_limit, report_limit, last_limit}
use Rattle.meaning.specs.Turns.{turn_count, bytes_read, longest_turn}
use Rattle.meaning.specs.Promise.{Judged, small_room}
use Rattle.meaning.specs.Night.{sum, greatest, Report, Night, no_more, then, record_of, records}
use Rattle.grammar.specs.Each.{Each, each_none, each_more}
use Rattle.positions.specs.TurnBytes.{turns_few, longest_few, tree_few}

-- no figure of a record is over the limit
pub record Small (r : Record) : Type 0 where
  pub few_turns : r.turns ≤ last_limit
  pub few_bytes : r.bytes ≤ last_limit
  pub few_longest : r.longest ≤ last_limit

pub length_records : (rows : List (List ℕ)) (m k : ℕ) → length (records rows m k) ≡ k
unfolding records
length_records rows m zero = refl
length_records rows m (suc k) = ap suc (length_records rows (suc m) k)

module _ {e : Re} (h : ℕ) (i : h ≤ mark_limit) (j : marks e ≤ mark_limit) where
  pub report_few : {text room row room' : List ℕ} {n : ℕ} → Report e text room n row room' → bytes_read h row ≤ text_limit
  report_few {text = text} {room = room} r = one r
    where
      one : {n : ℕ} {row room' : List ℕ} → Report e text room n row room' → bytes_read h row ≤ text_limit
      one (Report.long_text l) = unfold bytes_read in omega arith
      one (Report.judged l (Judged.no_tree x p)) = unfold bytes_read in omega arith
      one (Report.judged l (small_room a g)) = unfold bytes_read in omega arith
      one (Report.judged l (Judged.tree {row = row} a g f)) =
          rw (take-append_seam row (drop (length row) room)) (omega (arith, tree_few {h = h} {m = 0} (omega arith) (omega arith) a.tree))

  pub night_few : {texts rows : List (List ℕ)} {room numbers room' : List ℕ} → Night e texts room numbers rows room'
      → (sum (map (turn_count h) rows) ≤ text_limit * length texts) × (sum (map (bytes_read h) rows) ≤ text_limit * length texts)
      × (greatest (map (longest_turn h) rows) ≤ text_limit)
  unfolding sum greatest
  night_few no_more = (omega arith, omega arith, omega arith)
  night_few (then {row = row} r t) =
      let z = night_few t in
      let one = report_few r in
      (omega (arith, z.0, one, turns_few h row), omega (arith, z.1, one), omega (arith, z.2, one, longest_few h row))

pub records_small : {e : Re} {texts rows : List (List ℕ)} {room numbers room' : List ℕ} → marks e ≤ mark_limit → length texts ≤ report_limit
    → Night e texts room numbers rows room' → (m k : ℕ) → m + k ≤ mark_limit → Each Small (records rows m k)
unfolding records
records_small j l t m zero h = each_none
records_small {rows = rows} j l t m (suc k) h =
    let z = night_few (suc m) (omega arith) j t in
    let small : Small (record_of rows (suc m)) = record { few_turns = omega (arith, z.0); few_bytes = omega (arith, z.1); few_longest = omega (arith, z.2) } in
    each_more small (records_small j l t (suc m) k (omega arith))
