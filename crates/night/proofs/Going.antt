-- Along the reports of a night, one after another. Assumes nothing.
use mathlib.Core.Path.{◌≡◌, refl, ap, ◌∙◌}
use mathlib.Core.List.{List, [], ◌∷◌, ◌++◌, map, append-nil, append_assoc}
use Prim.Native.Nat.{ℕ, suc, ◌+◌, ◌*◌, ◌≤◌, ◌<◌, max}
use native.Mathlib.Omega.{arith}
use lib.ListN.{length, get_or, set, take, drop, get_or-replicate, length-set, length-append, length-drop}
use lib.Seq.{drop-cons, drop-drop, drop-length, take-suc-set}
use Rattle.meaning.specs.Expression.{Re}
use Rattle.meaning.specs.Limits.{text_limit, mark_limit, report_limit}
use Rattle.meaning.specs.Promise.{Judged, small_room}
use Rattle.meaning.specs.Night.{Report, long_text, judged, Night, no_more, then, sum, greatest, reports_in}
use Rattle.meaning.specs.Turns.{turn_count, bytes_read, longest_turn}
use Rattle.positions.specs.TurnBytes.{turns_few}
use Rattle.laws.specs.Sums.{sum_from}
use Rattle.meaning.specs.declared.Record.{Record}
use Rattle.tally.specs.Tally.{Tallied, blank, figures_at}
use Rattle.night.specs.Reports.{Spacious, Zero, Reported, Counts}

-- one row more at the end
sum_more : (f : List ℕ → ℕ) (rows : List (List ℕ)) (row : List ℕ) → sum (map f (rows ++ (row ∷ []))) ≡ sum (map f rows) + f row
unfolding sum
sum_more f [] row = omega arith
sum_more f (r ∷ rows) row = omega (arith, sum_more f rows row)

greatest_more : (f : List ℕ → ℕ) (rows : List (List ℕ)) (row : List ℕ) → greatest (map f (rows ++ (row ∷ []))) ≡ max (greatest (map f rows)) (f row)
unfolding greatest
greatest_more f [] row = omega arith
greatest_more f (r ∷ rows) row = omega (arith, greatest_more f rows row)

counts_more : {rows : List (List ℕ)} {row : List ℕ} {fs fs' : List Record} → Counts rows fs → Tallied row fs fs' → Counts (rows ++ (row ∷ [])) fs'
counts_more {rows} {row} c t = record {
  turns_of = λ m l. omega (arith, t.more_turns m l, c.turns_of m l, sum_more (turn_count (suc m)) rows row);
  bytes_of = λ m l. omega (arith, t.more_bytes m l, c.bytes_of m l, sum_more (bytes_read (suc m)) rows row);
  longest_of = λ m l. omega (arith, t.longer m l, c.longest_of m l, greatest_more (longest_turn (suc m)) rows row);
}

-- nothing is counted of any mark
none_at : {ns : List ℕ} {fs : List Record} {m : ℕ} → Zero ns fs → m < mark_limit → figures_at fs m ≡ blank
none_at {m = m} z l = rw z.no_figures (get_or-replicate mark_limit m blank blank l)

counts_none : {ns : List ℕ} {fs : List Record} → Zero ns fs → Counts [] fs
unfolding sum greatest
counts_none z = record {
  turns_of = λ m l. ap (λ (r : Record). r.turns) (none_at z l);
  bytes_of = λ m l. ap (λ (r : Record). r.bytes) (none_at z l);
  longest_of = λ m l. ap (λ (r : Record). r.longest) (none_at z l);
}

-- after i reports, which end at byte `at`: whatever night the rest is, it is the night
pub record Going (e : Re) (bytes lengths room₀ : List ℕ) (i at : ℕ) (room numbers : List ℕ) (fs : List Record) : Type 0 where
  pub rows : List (List ℕ)
  pub onward : (ns room' : List ℕ) (rest : List (List ℕ)) → Night e (reports_in (drop i lengths) (drop at bytes)) room ns rest room'
      → Night e (reports_in lengths bytes) room₀ (take i numbers ++ ns) (rows ++ rest) room'
  pub counts : Counts rows fs

pub going_none : {e : Re} {bytes lengths room numbers : List ℕ} {fs : List Record} → Zero numbers fs → Going e bytes lengths room 0 0 room numbers fs
going_none z = record { rows = []; onward = λ ns room' rest n. n; counts = counts_none z }

module _ {e : Re} {bytes lengths room₀ room numbers : List ℕ} {fs : List Record} {i at : ℕ} (g : Going e bytes lengths room₀ i at room numbers fs) where
  pub going_more : {row room' : List ℕ} {fs' : List Record} {k : ℕ} → i < length lengths → i < length numbers
      → Report e (take (get_or lengths i 0) (drop at bytes)) room k row room' → Tallied row fs fs'
      → Going e bytes lengths room₀ (i + 1) (at + get_or lengths i 0) room' (set numbers i k) fs'
  unfolding reports_in
  going_more {row} {room'} {k = k} l l' r t = let z : suc i ≡ i + 1 = omega arith in rw (← z) (record {
    rows = g.rows ++ (row ∷ []);
    onward = λ ns room'' rest n.
        rw (take-suc-set numbers i k l', append_assoc (take i numbers) (k ∷ []) ns, append_assoc g.rows (row ∷ []) rest)
        (g.onward (k ∷ ns) room'' (row ∷ rest) (rw (drop-cons lengths i 0 l, drop-drop (get_or lengths i 0) at bytes) (then r n)));
    counts = counts_more g.counts t;
  })

  pub going_all : i ≡ length lengths → Night e (reports_in lengths bytes) room₀ (take (length lengths) numbers) g.rows room
  unfolding reports_in
  going_all z =
      let n = g.onward [] room [] (rw (z, drop-length lengths) no_more) in
      rw (append-nil (take i numbers), append-nil g.rows, z) at n

-- the tree room is as long as it was
report_room : {e : Re} {text room row room' : List ℕ} {n : ℕ} → Report e text room n row room' → length room' ≡ length room
report_room {e} {text} {room} {row} {room'} {n} r = one n row room' r
  where
    one : (n : ℕ) (row room' : List ℕ) → Report e text room n row room' → length room' ≡ length room
    one n row room' (long_text l) = refl
    one n row room' (judged l (Judged.no_tree x p)) = refl
    one n row room' (judged l (small_room x h)) = refl
    one n row room' (judged l (Judged.tree {row = tree} x h y)) = simp (length-append, length-drop) (omega arith)

-- what holds whatever the pattern denotes: the rest of the lengths, how many cells and tokens there are, room for the numbers and for the figures
pub record Along (bytes lengths cells₀ cells room₀ room numbers : List ℕ) (fs : List Record) (i at : ℕ) : Type 0 where
  pub within : i ≤ length lengths
  pub ends : at + sum (drop i lengths) ≡ length bytes
  pub same_cells : length cells ≡ length cells₀
  pub same_room : length room ≡ length room₀
  pub each_number : length numbers ≡ report_limit
  pub few_turns : (m : ℕ) → m < mark_limit → (figures_at fs m).turns ≤ text_limit * i
  pub few_bytes : (m : ℕ) → m < mark_limit → (figures_at fs m).bytes ≤ text_limit * i

pub along_none : {bytes lengths cells room numbers : List ℕ} {fs : List Record} → Zero numbers fs → sum lengths ≡ length bytes → Along bytes lengths cells cells room room numbers fs 0 0
along_none z e = record {
  within = omega arith;
  ends = omega arith;
  same_cells = refl;
  same_room = refl;
  each_number = ap length z.no_numbers;
  few_turns = λ m l. omega (arith, ap (λ (r : Record). r.turns) (none_at z l));
  few_bytes = λ m l. omega (arith, ap (λ (r : Record). r.bytes) (none_at z l));
}

module _ {bytes lengths cells₀ cells room₀ room numbers : List ℕ} {fs : List Record} {i at : ℕ} (a : Along bytes lengths cells₀ cells room₀ room numbers fs i at) (l : i < length lengths) where
  -- the report at i ends within the row
  pub next_end : at + get_or lengths i 0 + sum (drop (i + 1) lengths) ≡ length bytes
  next_end = omega (arith, a.ends, sum_from lengths i l)

  pub spacious : length lengths ≤ report_limit → Spacious fs
  spacious few = record { more_turns = λ m h. omega (arith, a.few_turns m h); more_bytes = λ m h. omega (arith, a.few_bytes m h) }

  pub along_more : {e : Re} {text cells' room' : List ℕ} {fs' : List Record} {k : ℕ} → Reported e text cells cells' room room' fs fs' k
      → Along bytes lengths cells₀ cells' room₀ room' (set numbers i k) fs' (i + 1) (at + get_or lengths i 0)
  along_more {k = k} r = record {
    within = omega arith;
    ends = next_end;
    same_cells = r.same_cells ∙ a.same_cells;
    same_room = report_room r.report ∙ a.same_room;
    each_number = length-set numbers i k ∙ a.each_number;
    few_turns = λ m h. omega (arith, a.few_turns m h, r.tallied.more_turns m h, turns_few (suc m) r.row, r.few (suc m) (omega arith));
    few_bytes = λ m h. omega (arith, a.few_bytes m h, r.tallied.more_bytes m h, r.few (suc m) (omega arith));
  }
