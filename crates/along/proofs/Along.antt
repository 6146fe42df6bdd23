-- The walk along a text: what it has written after some bytes, and how the rest of the chain of runs goes on from there. Assumes nothing.
use mathlib.Core.Path.{◌≡◌, refl, sym, ap, ap₂, ◌∙◌}
use mathlib.Core.Bool.{Bool, true, false, ◌||◌, or_assoc, or-false, false≢true}
use mathlib.Core.List.{List, [], ◌∷◌, ◌++◌, append_assoc, append-nil}
use Prim.Native.Nat.{ℕ, suc, ◌+◌, ◌*◌, ◌≤◌, ◌<◌}
use native.Mathlib.Nat.{zero-add, add-mul}
use native.Mathlib.Numerals.{add-one}
use native.Mathlib.Omega.{arith}
use lib.ListN.{length, get_or, drop, length-append}
use lib.Seq.{sets, drop-cons, drop-length}
use Rattle.meaning.specs.Expression.{Re, marks}
use Rattle.meaning.specs.Tree.{letter}
use Rattle.grammar.specs.Fair.{Fair}
use Rattle.positions.specs.Alive.{ended, alive, alive_in, alive_on, at_goal}
use Rattle.positions.specs.EnterBest.{enter_best}
use Rattle.positions.specs.Positions.{Out, pass, at}
use Rattle.positions.specs.ResumeBest.{resume_best}
use Rattle.positions.specs.Room.{spare_most}
use Rattle.positions.specs.RunWays.{enter_run_room, resume_run_room}
use Rattle.positions.specs.Runs.{Run, run, row_of, out_of, other_of, enter_run, resume_run, enter_run_same, resume_run_same}
use Rattle.positions.specs.Tests.{Ok, ok_pass}
use Rattle.positions.specs.Texts.{Text, text, row_in, other_in, chain, read, rest_run, text_run}
use Rattle.positions.specs.Theorem.{found, first_row, other_tree}
use Rattle.walks.specs.declared.step.Step.{Step}
use Rattle.walks.specs.declared.step.Step.TheVariants.{Passed, Stopped}
use Rattle.walks.specs.Steps.{step_of, Wrote}
use Rattle.along.specs.Along.{Along}
use Rattle.along.specs.Rows.{Shows, Below, Beyond}
use Rattle.along.proofs.Standing.{written_shows, shows_still, shows_then, shows_whole}

run_eta : (R : Run) → run (row_of R) (out_of R) (other_of R) ≡ R
run_eta (run ρ o w) = refl

pub apart : {c c' q : ℕ} {w w' : Bool} → Passed c w ≡ Stopped q c' w' → ⊥
apart e = let z : ◌≡◌ {A = ℕ} 0 1 = cc in omega arith

-- a byte and its run, after a row
chain_read : (ρ : List ℕ) (o : Out) (w : Bool) (c : ℕ) (R : Run) (T : Text)
    → chain (run ρ o w) (read c (chain R T)) ≡ chain (run (ρ ++ letter c ∷ row_of R) (out_of R) (w || other_of R)) T
chain_read ρ o w c (run σ o' v) (text r u) = ap₂ text (sym (append_assoc ρ (letter c ∷ σ) r)) (sym (or_assoc w v u))

module _ (e : Re) (f : Fair e) (h : marks e ≤ 127) (txt : List ℕ) where
  pub along_start : {t₀ t : List ℕ} {s : Step} (goal : ℕ → Bool) (last : Bool) → found e txt ≡ true → ((q : ℕ) → goal q ≡ alive e txt q) → last ≡ ended txt
      → Wrote t₀ t 0 s (enter_run 0 0 e goal last) → Along e txt t s 0
  unfolding text_run
  along_start {t₀} {t} {s} goal last i g l k =
      let R = enter_run 0 0 e (alive e txt) (ended txt) in
      let same : enter_run 0 0 e goal last ≡ R = enter_run_same 0 0 e goal (alive e txt) last g ∙ ap (enter_run 0 0 e (alive e txt)) l in
      let W : Wrote t₀ t 0 s R = rw same at k in
      record {
        row = row_of R;
        out = out_of R;
        other = other_of R;
        shows = written_shows t₀ (row_of R) 0 W.row;
        step = W.step ∙ ap (λ (m : ℕ). step_of (out_of R) m (other_of R)) (zero-add (length (row_of R)));
        whole = ap (λ (R' : Run). chain R' (rest_run e (out_of R) txt)) (sym (run_eta R));
        ok = (enter_best f 0 0 (omega arith) (alive e txt) (ended txt) i).ok;
        few = omega (arith, enter_run_room 0 0 e (alive e txt) (ended txt));
      }

  -- one byte more, from position q
  module _ (i : ℕ) (inside : i < length txt) (t t' : List ℕ) (s s' : Step) where
    b : ℕ
    b = get_or txt i 0

    rest : drop i txt ≡ b ∷ drop (i + 1) txt
    unfolding b
    rest = rw (add-one i) (drop-cons txt i 0 inside)

    R : ℕ → Run
    R q = resume_run 0 0 e q (alive e (drop (i + 1) txt)) (ended (drop (i + 1) txt))

    on_ok : (q : ℕ) → Ok (alive e (drop i txt)) (ended (drop i txt)) (at q) → Ok (alive e (drop (i + 1) txt)) (ended (drop (i + 1) txt)) (out_of (R q))
    unfolding R
    on_ok q ok =
        let way = (alive_on e b (drop (i + 1) txt) q (at_goal (rw rest at ok))).1 in
        (resume_best f 0 0 (omega arith) q (alive e (drop (i + 1) txt)) (ended (drop (i + 1) txt)) way).ok

    module _ (row : List ℕ) (q : ℕ) (w : Bool) (shows : Shows t 0 row) (whole : text_run e txt ≡ chain (run row (at q) w) (rest_run e (at q) (drop i txt)))
        (ok : Ok (alive e (drop i txt)) (ended (drop i txt)) (at q)) (few : length row ≤ 2 * marks e + i * (4 * marks e + 1)) where
      more : (c : ℕ) → c ≡ length row → Below t t' c → Shows t' c (letter b ∷ row_of (R q)) → s' ≡ step_of (out_of (R q)) (c + suc (length (row_of (R q)))) (w || other_of (R q)) → Along e txt t' s' (i + 1)
      unfolding rest_run R
      more c z B S n = record {
        row = row ++ letter b ∷ row_of (R q);
        out = out_of (R q);
        other = w || other_of (R q);
        shows = shows_then t' 0 row (letter b ∷ row_of (R q)) (shows_still 0 row shows B (omega arith)) (rw (z ∙ sym (zero-add (length row))) at S);
        step = n ∙ ap (λ (m : ℕ). step_of (out_of (R q)) m (w || other_of (R q))) (ap (λ (m : ℕ). m + suc (length (row_of (R q)))) z ∙ sym (length-append row (letter b ∷ row_of (R q))));
        whole = whole ∙ ap (λ (l : List ℕ). chain (run row (at q) w) (rest_run e (at q) l)) rest ∙ chain_read row (at q) w b (R q) (rest_run e (out_of (R q)) (drop (i + 1) txt));
        ok = on_ok q ok;
        few =
            let k = resume_run_room 0 0 e q (alive e (drop (i + 1) txt)) (ended (drop (i + 1) txt)) (omega arith, omega (arith, alive_in e (drop i txt) q (at_goal ok))) in
            let m = spare_most (out_of (R q)) (marks e) in
            simp length-append (omega (arith, k, m, add-mul i 1 (4 * marks e + 1)));
      }

    -- a walk that has not passed stands before a position
    standing : (row : List ℕ) (o : Out) (v : Bool) {q c : ℕ} {w : Bool} → Shows t 0 row → s ≡ step_of o (length row) v → text_run e txt ≡ chain (run row o v) (rest_run e o (drop i txt))
        → Ok (alive e (drop i txt)) (ended (drop i txt)) o → length row ≤ 2 * marks e + i * (4 * marks e + 1)
        → s ≡ Stopped q c w → Below t t' c → Shows t' c (letter b ∷ row_of (R q)) → s' ≡ step_of (out_of (R q)) (c + suc (length (row_of (R q)))) (w || other_of (R q)) → Along e txt t' s' (i + 1)
    standing row pass v S k whole ok few z B T n = let a : ◌≡◌ {A = Step} (Passed _ _) (Stopped _ _ _) = sym k ∙ z in absurd (apart a)
    standing row (at p) v {q} {c} {w} S k whole ok few z B T n =
        let a : Stopped p (length row) v ≡ Stopped q c w = sym k ∙ z in
        let i : q ≡ p = cc in
        let j : c ≡ length row = cc in
        let l : w ≡ v = cc in
        more row p v S whole ok few c j B (rw i at T) (rw (i, l) at n)

    pub along_more : {q c : ℕ} {w : Bool} (goal : ℕ → Bool) (last : Bool) → Along e txt t s i → s ≡ Stopped q c w → ((p : ℕ) → goal p ≡ alive e (drop (i + 1) txt) p)
        → last ≡ ended (drop (i + 1) txt) → Below t t' c → Shows t' c (letter (get_or txt i 0) ∷ row_of (resume_run 0 0 e q goal last))
        → s' ≡ step_of (out_of (resume_run 0 0 e q goal last)) (c + suc (length (row_of (resume_run 0 0 e q goal last)))) (w || other_of (resume_run 0 0 e q goal last)) → Along e txt t' s' (i + 1)
    unfolding b R
    along_more {q} goal last A z g l B S n =
        let same : resume_run 0 0 e q goal last ≡ R q = resume_run_same 0 0 e q goal (alive e (drop (i + 1) txt)) last g ∙ ap (resume_run 0 0 e q (alive e (drop (i + 1) txt))) l in
        standing A.row A.out A.other A.shows A.step A.whole A.ok A.few z B (rw same at S) (rw same at n)

    -- and does so while a byte is left
    pub along_stands : Along e txt t s i → {c : ℕ} {w : Bool} → s ≡ Passed c w → ⊥
    along_stands A z = go A.out A.step A.ok
      where
        go : (o : Out) → s ≡ step_of o (length A.row) A.other → Ok (alive e (drop i txt)) (ended (drop i txt)) o → ⊥
        go pass k o = passing (rw rest at o)
          where
            passing : Ok (alive e (b ∷ drop (i + 1) txt)) false pass → ⊥
            passing (ok_pass h) = false≢true h
        go (at p) k o = apart (sym z ∙ k)

  -- how far it has come: before a position that is alive, and with few tokens
  pub along_few : {t : List ℕ} {s : Step} {i c q : ℕ} {w : Bool} → Along e txt t s i → s ≡ Stopped q c w → (alive e (drop i txt) q ≡ true) × (c ≤ 2 * marks e + i * (4 * marks e + 1))
  along_few {t} {s} {i} {c} {q} {w} A z = go A.out A.step A.ok
    where
      go : (o : Out) → s ≡ step_of o (length A.row) A.other → Ok (alive e (drop i txt)) (ended (drop i txt)) o → (alive e (drop i txt) q ≡ true) × (c ≤ 2 * marks e + i * (4 * marks e + 1))
      go pass k o = absurd (apart (sym k ∙ z))
      go (at p) k o =
          let j : q ≡ p = cc in
          let l : c ≡ length A.row = cc in
          (rw j (at_goal o), omega (arith, A.few))

  -- at the end the row is whole
  pub along_end : {t₀ t : List ℕ} {s : Step} {i : ℕ} → Along e txt t s i → i ≡ length txt → ((c : ℕ) (w : Bool) → s ≡ Passed c w → Beyond t₀ t c)
      → (t ≡ sets t₀ 0 (first_row e txt)) × (s ≡ Passed (length (first_row e txt)) (other_tree e txt))
  unfolding alive rest_run
  along_end {t₀} {t} {s} {i} A z B = go A.out A.row A.other A.shows A.step A.whole A.ok
    where
      none : drop i txt ≡ []
      none = rw z (drop-length txt)

      go : (o : Out) (row : List ℕ) (w : Bool) → Shows t 0 row → s ≡ step_of o (length row) w → text_run e txt ≡ chain (run row o w) (rest_run e o (drop i txt))
          → Ok (alive e (drop i txt)) (ended (drop i txt)) o → (t ≡ sets t₀ 0 (first_row e txt)) × (s ≡ Passed (length (first_row e txt)) (other_tree e txt))
      go (at q) row w S k whole ok = absurd (false≢true (at_goal (rw none at ok)))
      go pass row w S k whole ok =
          let all : text_run e txt ≡ text row w = whole ∙ ap (λ (l : List ℕ). chain (run row pass w) (rest_run e pass l)) none ∙ ap₂ text (append-nil row) (or-false w) in (
            shows_whole t₀ t row S (B (length row) w k) ∙ ap (λ (x : Text). sets t₀ 0 (row_in x)) (sym all),
            k ∙ ap (λ (x : Text). Passed (length (row_in x)) (other_in x)) (sym all),
          )
