-- A glide along a text: the way on that is kept is the way on. Assumes nothing.
use mathlib.Core.Path.{◌≡◌, refl, sym, ap, ◌∙◌}
use mathlib.Core.Bool.{Bool, ◌&&◌, ◌||◌, true, false}
use mathlib.Core.List.{List}
use Prim.Native.Nat.{ℕ, suc, ◌+◌, ◌-◌, ◌≤◌, ◌<◌}
use native.Mathlib.Numerals.{add-one}
use native.Mathlib.Omega.{arith}
use lib.Dec.{eqb}
use lib.ListN.{length, get_or, drop}
use Rattle.meaning.specs.Expression.{Re, marks, size}
use Rattle.positions.specs.Alive.{alive, alive_at, alive_in, ended_at}
use Rattle.positions.specs.Places.{In, inside}
use Rattle.positions.specs.Room.{spare_most}
use Rattle.positions.specs.Runs.{Run, row_of, out_of, other_of, resume_run}
use Rattle.positions.specs.RunWays.{resume_run_room}
use Rattle.positions.specs.Sets.{follows, Meet, meet, reaches_meet}
use Rattle.positions.specs.Tests.{reads, reaches}
use Rattle.bits.specs.Truth.{both}
use Rattle.sets.specs.declared.set.Set.{Set}
use Rattle.sets.specs.Members.{has, held, limit, row, Alike}
use Rattle.walks.specs.declared.step.Step.TheVariants.{Stopped}
use Rattle.walks.specs.Steps.{cursor, step_of}
use Rattle.walks.specs.Tables.{flag}
use Rattle.along.specs.declared.links.Link.{Link}
use Rattle.along.specs.declared.links.Links.{Links}
use Rattle.along.specs.declared.stand.Stand.{Stand}
use Rattle.along.specs.Along.{Along, Came}
use Rattle.along.specs.Glide.{Guided, Recalled, Recalls}
use Rattle.along.specs.Links.{Leads, link_at, PlaceOf, KeptIn, pool_limit}
use Rattle.along.specs.Stand.{stood}
use Rattle.along.proofs.Along.{along_more, along_few}
use Rattle.along.proofs.Coming.{along_room}
use Rattle.along.proofs.Linking.{kept_link, resume_within}
use Rattle.along.proofs.Standing.{beyond_less}

-- 1 says yes, and 0 no
flag_back : (w : Bool) → eqb (flag w) 1 ≡ w
flag_back true = refl
flag_back false = refl

-- the run towards a goal that is not the last
abbrev way : Re → ℕ → Set → Run
way e q goal = resume_run 0 0 e q (has goal) false

-- what a turn of the glide finds: at place p stands the same as those of the goal that may follow
pub record Turn (cells : List ℕ) (ts : List Set) (k : Links) (s : Stand) (goal near : Set) (p : ℕ) : Type 0 where
  pub goal_is : goal ≡ row (held cells) (s.read + 1)
  pub near_is : (q : ℕ) → has near q ≡ (has (row ts s.position) q && has goal q)
  pub place : PlaceOf s.position p
  pub same : Alike (row k.keys p) near

module _ {e : Re} {txt cells : List ℕ} {ts : List Set} (G : Guided e txt cells ts) {t : List ℕ} {s : Stand} (A : Along e txt t (stood s) s.read) where
  few : marks e ≤ 127
  few = omega (arith, G.few)

  living : alive e (drop s.read txt) s.position ≡ true
  living = (along_few e G.fair few txt A refl).0

  within : s.position < size e
  within = alive_in e (drop s.read txt) s.position living

  pub glide_inside : s.position < limit
  glide_inside = omega (arith, within, G.few_positions)

  -- a byte that is not the last
  module _ {k : Links} {goal near : Set} {p : ℕ} (T : Turn cells ts k s goal near p) (h : s.read + 1 < length txt) where
    near_follows : (q : ℕ) → has near q ≡ (follows 0 e s.position q && has goal q)
    near_follows q = T.near_is q ∙ ap (λ (b : Bool). b && has goal q) (G.follow s.position within q)

    goal_living : (q : ℕ) → has goal q ≡ alive e (drop (s.read + 1) txt) q
    goal_living q = ap (λ (u : Set). has u q) T.goal_is ∙ G.living (s.read + 1) q (omega arith)

    -- one of the goal may follow
    member : (q : ℕ) × (has near q ≡ true)
    member =
        let q = s.position in
        let on = alive e (drop (suc s.read) txt) in
        let b = both (reads 0 e q (get_or txt s.read 0)) (reaches 0 e q on) (sym (alive_at e txt s.read q (omega arith)) ∙ living) in
        go ((reaches_meet 0 e q on).0 b.1)
      where
        go : Meet (follows 0 e s.position) (alive e (drop (suc s.read) txt)) → (q : ℕ) × (has near q ≡ true)
        go (meet {q = q} i k) =
            let l : has goal q ≡ true = goal_living q ∙ ap (λ (m : ℕ). alive e (drop m txt) q) (add-one s.read) ∙ k in
            (q, near_follows q ∙ rw (i, l) refl)

    module _ {used : ℕ} (K : KeptIn e k.keys k.links k.pool used) where
      abbrev here : Link
      here = link_at k.links p

      leads : Leads (way e s.position goal) k.pool used here
      leads = kept_link s.position near goal G.fair few near_follows p member.0 K within T.place member.1 T.same

      pub glide_recalls : used ≤ pool_limit → length k.pool ≡ 1024 → Recalls here k.pool s
      glide_recalls u n =
          let i : In 0 e s.position = (omega arith, omega (arith, within)) in
          let l = resume_run_room 0 0 e s.position (has goal) false i in
          let led-to = inside (rw leads.out at (resume_within 0 0 e s.position (has goal) false i)) in
          let m = spare_most (out_of (way e s.position goal)) (marks e) in
          let r = along_room G.fair G.few G.short A (omega arith) refl in
          record {
            inside = omega (arith, led-to.1, G.few_positions);
            past = omega (arith, leads.past);
            all_tokens = n;
            room = omega (arith, l, m, leads.long_is, r);
            next = omega (arith, G.short);
          }

      led : Stopped here.position (s.at + 1 + here.long) (s.other || eqb here.other 1)
          ≡ step_of (out_of (way e s.position goal)) (s.at + suc (length (row_of (way e s.position goal)))) (s.other || other_of (way e s.position goal))
      led =
          let m : s.at + 1 + here.long ≡ s.at + suc (length (row_of (way e s.position goal))) = omega (arith, leads.long_is) in
          rw (leads.out, leads.other, flag_back _, m) refl

      -- the byte is read, and its way gone
      pub glide_came : {t' : List ℕ} {spare : ℕ} {r : Stand} → Recalled here k.pool (get_or txt s.read 0) t t' spare s r → spare ≤ length txt - (s.read + 1)
          → Came e txt t t' (stood s) (stood r) s.read r.read
      glide_came {t'} {spare} {r} C l =
          let R = way e s.position goal in
          let c : r.at ≡ s.at + 1 + here.long = ap cursor C.step in
          record {
            along =
                rw C.read
                (along_more e G.fair few txt s.read (omega arith) t t' (stood s) (stood r) (has goal) false A refl goal_living (sym (ended_at txt (s.read + 1) h)) C.below
                (C.row (row_of R) (sym leads.long_is) leads.row) (C.step ∙ led));
            later = omega (arith, C.read);
            beyond = beyond_less _ C.beyond (omega (arith, C.read));
          }
