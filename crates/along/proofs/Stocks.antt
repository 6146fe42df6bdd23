-- What is kept from one text to the next stays right. Assumes nothing.
use mathlib.Core.Path.{◌≡◌, refl, ap, ◌∙◌}
use mathlib.Core.Bool.{Bool, false, ◌&&◌}
use mathlib.Core.List.{List}
use Prim.Native.Nat.{ℕ, ◌+◌, ◌-◌, ◌≤◌, ◌<◌}
use native.Mathlib.Omega.{arith}
use lib.ListN.{length, replicate}
use Rattle.meaning.specs.Expression.{Re, size}
use Rattle.grammar.specs.Holds.{Holds}
use Rattle.kinds.specs.Nodes.{kinds_of, args_of}
use Rattle.kinds.specs.declared.ReadPattern.{ReadPattern}
use Rattle.positions.specs.Places.{Within, w_pass, w_at}
use Rattle.positions.specs.Positions.{Out, pass, at}
use Rattle.positions.specs.Runs.{Run, row_of, out_of, other_of, resume_run}
use Rattle.positions.specs.Sets.{follows}
use Rattle.sets.specs.declared.set.Set.{Set}
use Rattle.sets.specs.Members.{has, limit, none}
use Rattle.walks.specs.declared.step.Step.{Step}
use Rattle.walks.specs.Resume.{Placed, ResumesAt}
use Rattle.walks.specs.Steps.{cursor, step_of, Wrote}
use Rattle.walks.proofs.Written.{wrote_cursor}
use Rattle.along.specs.declared.links.Links.{Links}
use Rattle.along.specs.Links.{PlaceOf, Keeps, Linked, Stock, Went, moved, pool_limit, position_of}
use Rattle.along.specs.Rows.{Below, Laid}
use Rattle.along.proofs.Copying.{laid_shows}
use Rattle.along.proofs.Linking.{kept_more, kept_none, resume_within}
use Rattle.along.proofs.Standing.{written_below, written_shows, shows_wrote, beyond_less}

-- nothing is kept
pub stock_none : (pattern : ReadPattern) (root : ℕ) (k : Links) → k.keys ≡ replicate 256 none → length k.links ≡ 256 → length k.pool ≡ 1024 → k.used ≡ 0 → Stock pattern root k
stock_none pattern root k z l t u = record { all_keys = ap length z; all_links = l; all_tokens = t; few = omega arith; kept = λ e f m h. rw z (kept_none e 256 k.links k.pool k.used) }

-- the walk on from the root is the way on
pub went : {pattern : ReadPattern} {root q from : ℕ} {goal : Set} {pass last : Bool} {t t' : List ℕ} {r : Step} → pass ≡ last → ResumesAt (kinds_of pattern.node) (args_of pattern.node) root q goal pass t t' from r → Went pattern root q goal last t t' from r
went z R = record { wrote = λ e held inside. rw (← z) (R.wrote e 0 0 held (omega arith, omega arith)) }

moved_step : (o : Out) (from new c : ℕ) (w : Bool) → moved from new (step_of o c w) ≡ step_of o (new + (c - from)) w
moved_step pass from new c w = refl
moved_step (at q) from new c w = refl

-- a row that was written into the pool and is laid into the tree is written there
pub laid_wrote : {pool pool' t t' : List ℕ} {from new long : ℕ} {u : Step} (R : Run) → Wrote pool pool' from u R → cursor u ≤ length pool' → long ≡ cursor u - from → Laid pool' t t' from long new 0
    → Wrote t t' new (moved from new u) R
laid_wrote {pool} {pool'} {t} {t'} {from} {new} {long} {u} R W h l L =
    let c = wrote_cursor W in
    let n : long ≡ length (row_of R) = omega arith in
    let L' : Laid pool' t t' from (length (row_of R)) new 0 = rw n at L in
    let e : new + (from + length (row_of R) - from) ≡ new + length (row_of R) = omega arith in
    record {
      row = shows_wrote t t' (row_of R) new L'.below (laid_shows (row_of R) L' (omega arith) (written_shows pool (row_of R) from W.row)) (beyond_less _ L'.beyond (omega arith));
      step = ap (moved from new) W.step ∙ moved_step (out_of R) from new (from + length (row_of R)) (other_of R) ∙ ap (λ (m : ℕ). step_of (out_of R) m (other_of R)) e;
    }

within_position : {p : ℕ} {e : Re} {o : Out} (c : ℕ) (w : Bool) → Within p e o → p + size e ≤ limit → position_of (step_of o c w) < limit
within_position c w w_pass h = omega arith
within_position c w (w_at i) h = omega (arith, i.1)

pub linked_inside : {pattern : ReadPattern} {root j from : ℕ} → Linked pattern root j from → j < limit
linked_inside L = omega (arith, L.placed.inside.1, L.few_positions)

-- a walk on into the pool, from the tokens that are used
module _ {pattern : ReadPattern} {pool : List ℕ} {root q : ℕ} {k : Links} {goal : Set} {last : Bool} {u : Step} (S : Stock pattern root k) {from : ℕ} (P : Placed (kinds_of pattern.node) (args_of pattern.node) root q from)
    (W : ResumesAt (kinds_of pattern.node) (args_of pattern.node) root q goal last k.pool pool k.used u) where
  some : Wrote k.pool pool k.used u (resume_run P.m P.p P.e q (has goal) last)
  some = W.wrote P.e P.m P.p P.holds P.inside

  below : Below k.pool pool k.used
  below = written_below k.pool (row_of (resume_run P.m P.p P.e q (has goal) last)) k.used some.row

  pub pool_on : k.used ≤ cursor u
  pool_on = omega (arith, wrote_cursor some)

  -- it stops inside the expression
  pub pool_inside : P.p + size P.e ≤ limit → position_of u < limit
  pool_inside h =
      let R = resume_run P.m P.p P.e q (has goal) last in
      rw some.step (within_position (k.used + length (row_of R)) (other_of R) (resume_within P.m P.p P.e q (has goal) last P.inside) h)

  pub pool_long : length pool ≡ 1024
  pool_long = below.same_length ∙ S.all_tokens

  -- what is written is kept
  pub stock_more : {k' : Links} {r : Step} {new end s : ℕ} {near : Set} → last ≡ false → end ≡ cursor u → end ≤ pool_limit → PlaceOf q s → q < 64
      → ((e : Re) → Holds (kinds_of pattern.node) (args_of pattern.node) 0 0 root e → q < size e → (p : ℕ) → has near p ≡ (follows 0 e q p && has goal p))
      → Keeps s near k.used new u r (record { keys = k.keys; links = k.links; pool = pool; used = end }) k' → Stock pattern root k'
  stock_more {s = s} {near} z c h place i n K = record {
    all_keys = K.same_keys ∙ S.all_keys;
    all_links = K.same_links ∙ S.all_links;
    all_tokens = ap length K.same_pool ∙ pool_long;
    few = omega (arith, K.same_used);
    kept = λ e f m held.
        rw (K.same_pool, K.same_used, c)
        (kept_more q near goal f m (n e held) s (S.kept e f m held) place (omega (arith, place.below, S.all_links)) below pool_on
        (λ j. rw z at (W.wrote e 0 0 held (omega arith, omega arith))) K);
  }
