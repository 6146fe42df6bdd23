-- One byte of the walk along a text by the walk from the root, and the walk's beginning and end. Assumes nothing.
use mathlib.Core.Path.{◌≡◌, refl, sym, ap, ◌∙◌}
use mathlib.Core.Bool.{Bool, ◌||◌, or_comm}
use mathlib.Core.List.{List, [], ◌∷◌}
use Prim.Native.Nat.{ℕ, suc, ◌+◌, ◌≤◌, ◌<◌}
use native.Mathlib.Omega.{arith}
use lib.Dec.{eqb}
use lib.ListN.{length, get_or, set, drop, length-drop}
use borrow.Author.Tests.{eq-eqb, ne_eqb}
use Rattle.meaning.specs.Expression.{Re, marks, size}
use Rattle.meaning.specs.Tree.{letter}
use Rattle.kinds.specs.Nodes.{kinds_of, args_of}
use Rattle.kinds.specs.declared.ReadPattern.{ReadPattern}
use Rattle.positions.specs.Alive.{alive, ended, alive_in}
use Rattle.positions.specs.Positions.{Out, pass, at}
use Rattle.positions.specs.Runs.{Run, run, row_of, out_of, other_of, put, enter_run, resume_run}
use Rattle.sets.specs.declared.set.Set.{Set}
use Rattle.sets.specs.Members.{has, held, row}
use Rattle.walks.specs.declared.step.Step.{Step}
use Rattle.walks.specs.declared.step.Step.TheVariants.{Passed, Stopped}
use Rattle.walks.specs.Enter.{EntersAt}
use Rattle.walks.specs.Steps.{cursor, noted, step_of, Wrote}
use Rattle.walks.proofs.Written.{wrote_put, wrote_cursor}
use Rattle.along.specs.declared.links.Links.{Links}
use Rattle.along.specs.declared.stand.Stand.{Stand}
use Rattle.along.specs.declared.walk.Tree.{Tree}
use Rattle.along.specs.Along.{Along, Came}
use Rattle.along.specs.Glide.{Glided, Glides, Guided}
use Rattle.along.specs.Links.{Kept, Linked, Stock, Went}
use Rattle.along.specs.Rows.{Beyond}
use Rattle.walks.specs.Root.{Charted}
use Rattle.along.specs.Walk.{Walkable, Writes}
use Rattle.along.specs.Stand.{Stands, stood, other_of_step}
use Rattle.along.proofs.Along.{along_start, along_more, along_stands, along_few, along_end}
use Rattle.along.proofs.Coming.{came_at, came_then, along_room}
use Rattle.along.proofs.Standing.{written_below, written_shows, written_beyond, beyond_then, beyond_less}

cursor_noted : (w : Bool) (u : Step) → cursor (noted w u) ≡ cursor u
cursor_noted w (Passed c v) = refl
cursor_noted w (Stopped q c v) = refl

turned : (o : Out) (m : ℕ) (v w : Bool) → noted w (step_of o m v) ≡ step_of o m (w || v)
turned pass m v w = ap (Passed m) (or_comm v w)
turned (at p) m v w = ap (Stopped p m) (or_comm v w)

put_eta : (t : ℕ) (R : Run) → put t R ≡ run (t ∷ row_of R) (out_of R) (other_of R)
put_eta t (run ρ o w) = refl

-- behind the last byte the text has ended
pub ended_at : (txt : List ℕ) (i : ℕ) → i ≤ length txt → eqb i (length txt) ≡ ended (drop i txt)
ended_at txt i h = go (drop i txt) refl
  where
    go : (l : List ℕ) → drop i txt ≡ l → eqb i (length txt) ≡ ended l
    go [] e = eq-eqb i (length txt) (omega (arith, length-drop i txt, ap length e))
    go (x ∷ l) e = ne_eqb i (length txt) (λ z. omega (arith, length-drop i txt, ap length e))

pub ended_zero : (txt : List ℕ) → eqb (length txt) 0 ≡ ended txt
ended_zero [] = refl
ended_zero (x ∷ l) = ne_eqb (suc (length l)) 0 (λ z. omega arith)

module _ {e : Re} {pattern : ReadPattern} {txt cells : List ℕ} {root : ℕ} (W : Walkable e pattern root txt cells) where
  few : marks e ≤ 127
  few = omega (arith, W.few)

  pub walk_guided : {ns : List ℕ} {fs : List Set} {us : List ℕ} {ts : List Set} → Charted (kinds_of pattern.node) (args_of pattern.node) ns fs us ts root → Guided e txt cells ts
  walk_guided C = record {
    fair = W.fair;
    few = W.few;
    few_positions = W.few_positions;
    short = W.short;
    enough = W.enough;
    living = W.living;
    long = C.long;
    follow = C.follow e W.holds;
  }

  -- the way into the root
  pub walk_start : {t₀ t : List ℕ} {s : Step} {goal : Set} (last : Bool) → goal ≡ row (held cells) 0 → last ≡ ended txt → EntersAt (kinds_of pattern.node) (args_of pattern.node) root goal last t₀ t 0 s → Along e txt t s 0
  walk_start {goal = goal} last g l E =
      along_start e W.fair few txt (has goal) last W.a_tree (λ q. ap (λ (u : Set). has u q) g ∙ W.living 0 q (omega arith)) l (E.wrote e 0 0 W.holds)

  pub start_beyond : {t₀ t : List ℕ} {s : Step} {goal : Set} {last : Bool} → EntersAt (kinds_of pattern.node) (args_of pattern.node) root goal last t₀ t 0 s → Beyond t₀ t (cursor s)
  start_beyond {t₀} {goal = goal} {last} E =
      let k = E.wrote e 0 0 W.holds in
      beyond_less _ (written_beyond t₀ (row_of (enter_run 0 0 e (has goal) last)) 0 k.row) (omega (arith, wrote_cursor k))

  -- a glide from where it stands while a byte is left
  module _ {ns : List ℕ} {fs : List Set} {us : List ℕ} {ts : List Set} (G : Charted (kinds_of pattern.node) (args_of pattern.node) ns fs us ts root) {t₀ t : List ℕ} {s₀ s : Step} {i₀ i : ℕ} {g : Stand} (C : Came e txt t₀ t s₀ s i₀ i) (h : i < length txt)
      (S : Stands s i g) where
    stands : Came e txt t₀ t s₀ (stood g) i₀ g.read
    stands = came_at (go s refl) (sym S.read) C
      where
        go : (x : Step) → s ≡ x → s ≡ stood g
        go (Passed c w) z = absurd (along_stands e W.fair few txt i h t t s s C.along z)
        go (Stopped q c w) z = sym (S.step q c w z)

    module _ {k : Links} (K : Stock pattern root k) where
      kept : Kept e k
      kept = K.kept e W.fair few W.holds

      pub walk_glides : Glides txt cells ts k t g
      walk_glides = record {
        e = e;
        guided = walk_guided G;
        along = stands.along;
        used = k.used;
        few = K.few;
        kept = kept;
        left = omega (arith, S.read);
        all_keys = K.all_keys;
        all_links = K.all_links;
        all_tokens = K.all_tokens;
      }

      pub walk_glided : {t₁ : List ℕ} {g' : Stand} → Glided txt cells ts k t t₁ g g' → Came e txt t₀ t₁ s₀ (stood g') i₀ g'.read
      walk_glided D = came_then stands (D.goes e k.used (walk_guided G) kept stands.along)

  module _ {t : List ℕ} {s : Stand} (h : s.read < length txt) (A : Along e txt t (stood s) s.read) where
    inside : s.position < size e
    inside = alive_in e (drop s.read txt) s.position (along_few e W.fair few txt A refl).0

    -- there is room to count
    pub walk_linked : Linked pattern root s.position (s.at + 1)
    walk_linked =
        let k = along_room W.fair W.few W.short A (omega arith) refl in
        record {
          placed = record { e = e; m = 0; p = 0; holds = W.holds; within = W.within; inside = (omega arith, omega (arith, inside)); few = omega (arith, W.few); room = omega (arith, k) };
          few_positions = omega (arith, W.few_positions);
          room = omega (arith, k);
        }

    -- the next byte: its letter, and the way on
    pub walk_came : {t₁ t' : List ℕ} {u r : Step} {c : ℕ} {goal : Set} {last : Bool} → goal ≡ row (held cells) (s.read + 1) → last ≡ ended (drop (s.read + 1) txt)
        → c ≡ s.at + 1 → t₁ ≡ set t s.at (256 + get_or txt s.read 0) → Went pattern root s.position goal last t₁ t' c u → r ≡ noted s.other u
        → Came e txt t t' (stood s) r s.read (s.read + 1)
    walk_came {t₁} {t'} {u} {r} {c} {goal} {last} g l y z D n =
        let b = letter (get_or txt s.read 0) in
        let R = resume_run 0 0 e s.position (has goal) last in
        let w : Wrote t₁ t' c u R = D.wrote e W.holds inside in
        let x : Wrote t t' s.at u (put b R) = wrote_put b R w y z in
        let v : Wrote t t' s.at u (run (b ∷ row_of R) (out_of R) (other_of R)) = rw (put_eta b R) at x in
        let a : cursor r ≡ cursor u = ap cursor n ∙ cursor_noted s.other u in
        let m = wrote_cursor v in
        let goal_lives : (p : ℕ) → has goal p ≡ alive e (drop (s.read + 1) txt) p = λ p. ap (λ (x : Set). has x p) g ∙ W.living (s.read + 1) p (omega arith) in
        let stepped = n ∙ ap (noted s.other) v.step ∙ turned (out_of R) (s.at + suc (length (row_of R))) (other_of R) s.other in
        record {
          along =
              along_more e W.fair few txt s.read h t t' (stood s) r (has goal) last A refl goal_lives l
              (written_below t (b ∷ row_of R) s.at v.row) (written_shows t (b ∷ row_of R) s.at v.row) stepped;
          later = omega (arith, a, m);
          beyond = beyond_less _ (written_beyond t (b ∷ row_of R) s.at v.row) (omega (arith, a, m));
        }

  -- and the end
  pub walk_end : {t₀ t₁ t : List ℕ} {s₀ s : Step} {i : ℕ} {r : Tree} → Beyond t₀ t₁ (cursor s₀) → Came e txt t₁ t s₀ s 0 i
      → i ≡ length txt → r.length ≡ cursor s → r.other ≡ other_of_step s → Writes e txt t₀ t r
  walk_end {t₀ = t₀} {t = t} {s₀} {s} B C z l o =
      let b : Beyond t₀ t (cursor s) = beyond_less _ (beyond_then _ B C.beyond (omega (arith, C.later))) (omega arith) in
      let x = along_end e W.fair few txt {t₀ = t₀} C.along z (λ c w k. rw (ap cursor k) at b) in
      record { row = x.0; measures = record { long = l ∙ ap cursor x.1; other = o ∙ ap other_of_step x.1 } }
