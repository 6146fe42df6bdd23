-- Links: the ways that a walk has gone are kept, and what is kept stays right. Assumes nothing.
use mathlib.Core.Path.{◌≡◌, refl, sym, ap, ◌∙◌}
use mathlib.Core.Bool.{Bool, true, false, ◌&&◌, false≢true}
use mathlib.Core.List.{List}
use Prim.Native.Nat.{ℕ, ◌+◌, ◌-◌, ◌≤◌, ◌<◌}
use native.Mathlib.Omega.{arith}
use borrow.Author.Tests.{eqb-true, eqb-false}
use lib.Dec.{eqb}
use lib.ListN.{length, set, replicate}
use lib.Seq.{get_or-set_same, get_or-set_other}
use Rattle.meaning.specs.Expression.{Re, marks, size}
use Rattle.grammar.specs.Fair.{Fair}
use Rattle.positions.specs.Links.{resume_near}
use Rattle.positions.specs.Places.{In, Within, resumed}
use Rattle.positions.specs.Positions.{pass, at}
use Rattle.positions.specs.Runs.{Run, run, row_of, out_of, resume_run, resume_run_same}
use Rattle.positions.specs.RunWays.{resume_run_way}
use Rattle.positions.specs.Sets.{follows}
use Rattle.sets.proofs.SetLaws.{nones_empty}
use Rattle.sets.specs.declared.set.Set.{Set}
use Rattle.sets.specs.Members.{has, none, row, Alike, Stored}
use Rattle.walks.specs.declared.step.Step.{Step}
use Rattle.walks.specs.declared.step.Step.TheVariants.{Passed, Stopped}
use Rattle.walks.specs.Steps.{cursor, Wrote}
use Rattle.walks.specs.Tables.{flag}
use Rattle.along.specs.declared.links.Link.{Link}
use Rattle.along.specs.declared.links.Links.{Links}
use Rattle.along.specs.Links.{Leads, link_at, PlaceOf, PlaceFor, KeptIn, Keeps}
use Rattle.along.specs.Rows.{Below}
use Rattle.along.proofs.Along.{apart}
use Rattle.along.proofs.Standing.{written_shows, shows_still}

-- ---- what is written behind a link leaves it

leads_on : {R : Run} {t t' : List ℕ} {c c' : ℕ} {l : Link} → Leads R t c l → Below t t' c → c ≤ c' → Leads R t' c' l
leads_on {R = R} {l = l} L B h = record {
  out = L.out;
  long_is = L.long_is;
  other = L.other;
  past = omega (arith, L.past);
  row = shows_still l.from (row_of R) L.row B (omega (arith, L.past, L.long_is));
}

pub kept_on : {e : Re} {keys : List Set} {links : List Link} {t t' : List ℕ} {c c' : ℕ} → KeptIn e keys links t c → Below t t' c → c ≤ c' → KeptIn e keys links t' c'
kept_on K B h = record { link = λ j s p i k y. leads_on (K.link j s p i k y) B h }

leads_new : {t t' : List ℕ} {c c' q : ℕ} {w : Bool} {r : Step} (R : Run) → Wrote t t' c r R → r ≡ Stopped q c' w → Leads R t' c' (record { position = q; from = c; long = c' - c; other = flag w })
leads_new (run ρ pass v) W z = absurd (apart (sym W.step ∙ z))
leads_new {t} {t'} {c} {c'} {q} {w} (run ρ (at p) v) W z =
    let a : Stopped p (c + length ρ) v ≡ Stopped q c' w = sym W.step ∙ z in
    let i : p ≡ q = cc in
    let j : c + length ρ ≡ c' = cc in
    let k : w ≡ v = cc in
    record { out = ap at i; long_is = omega arith; other = ap flag k; past = omega arith; row = written_shows t ρ c W.row }

-- ---- the places

pub place_of : {j s : ℕ} {goal : Set} → PlaceFor j goal s → PlaceOf j s
place_of P = record { from = omega (arith, P.place); below = omega (arith, P.place) }

pub place_within : {j s : ℕ} {goal : Set} → PlaceFor j goal s → j < 64 → s < 256
place_within P h = omega (arith, P.place)

-- one more link, which is asked for where the goal has a member
kept_new : {e : Re} {keys keys' : List Set} {links : List Link} {t : List ℕ} {m : ℕ} {goal : Set} (j s : ℕ) (l : Link) → KeptIn e keys links t m → PlaceOf j s → s < length links → Stored goal s keys keys'
    → (j < size e → (p : ℕ) → has goal p ≡ true → Leads (resume_run 0 0 e j (has goal) false) t m l) → KeptIn e keys' (set links s l) t m
kept_new {e} {keys} {keys'} {links} {t} {m} {goal} j s l K P n S L = record { link = λ j' s' p i P' y. go j' s' p i P' y (eqb s' s) refl }
  where
    go : (j' s' p : ℕ) → j' < size e → PlaceOf j' s' → has (row keys' s') p ≡ true → (v : Bool) → eqb s' s ≡ v → Leads (resume_run 0 0 e j' (has (row keys' s')) false) t m (link_at (set links s l) s')
    go j' s' p i P' y true z =
        let x = eqb-true s' s z in
        let u : j' ≡ j = omega (arith, P.from, P.below, P'.from, P'.below) in
        let k : has goal p ≡ true = sym (ap (λ (g : Set). has g p) S.here) ∙ ap (λ (v : ℕ). has (row keys' v) p) (sym x) ∙ y in
        rw (u, x, S.here, get_or-set_same links s l _ n) (L (omega arith) p k)
    go j' s' p i P' y false z =
        let x = eqb-false s' s z in
        let o = S.other s' x in
        rw (o, get_or-set_other links s s' l _ x) (K.link j' s' p i P' (rw o at y))

-- ---- the way on from a position stays inside

pub resume_within : (m p : ℕ) (e : Re) (j : ℕ) (g : ℕ → Bool) (b : Bool) → In p e j → Within p e (out_of (resume_run m p e j g b))
resume_within m p e j g b i = resumed (resume_run_way m p e j g b i)

-- ---- the way on from position q, to the positions `near` of the goal that may follow it

near_run : {e : Re} (q : ℕ) (near goal : Set) → Fair e → marks e ≤ 127 → ((p : ℕ) → has near p ≡ (follows 0 e q p && has goal p)) → (p : ℕ) → has near p ≡ true
    → resume_run 0 0 e q (has goal) false ≡ resume_run 0 0 e q (has near) false
near_run q near goal f m n p y = resume_near f m q p (has goal) (has near) n y

-- a link whose goal is the same as `near`
pub kept_link : {e : Re} {keys : List Set} {links : List Link} {t : List ℕ} {c : ℕ} (q : ℕ) (near goal : Set) → Fair e → marks e ≤ 127 → ((p : ℕ) → has near p ≡ (follows 0 e q p && has goal p)) → (s p : ℕ)
    → KeptIn e keys links t c → q < size e → PlaceOf q s → has near p ≡ true → Alike (row keys s) near → Leads (resume_run 0 0 e q (has goal) false) t c (link_at links s)
kept_link {e} {keys} q near goal f m n s p K i P y same =
    rw (near_run q near goal f m n p y, ← resume_run_same 0 0 e q (has (row keys s)) (has near) false same) (K.link q s p i P (same p ∙ y))

-- after a walk to the goal, which is kept
pub kept_more : {e : Re} {k k' : Links} {t : List ℕ} {c new : ℕ} {u r : Step} (q : ℕ) (near goal : Set) → Fair e → marks e ≤ 127
    → (q < size e → (p : ℕ) → has near p ≡ (follows 0 e q p && has goal p)) → (s : ℕ) → KeptIn e k.keys k.links t c → PlaceOf q s → s < length k.links → Below t k.pool c → c ≤ cursor u
    → (q < size e → Wrote t k.pool c u (resume_run 0 0 e q (has goal) false)) → Keeps s near c new u r k k' → KeptIn e k'.keys k'.links k.pool (cursor u)
kept_more {e} {k} {k'} {t} {c} {new} {u} {r} q near goal f m n s K P l B h W S = go u refl
  where
    old : KeptIn e k.keys k.links k.pool (cursor u)
    old = kept_on K B h

    go : (x : Step) → u ≡ x → KeptIn e k'.keys k'.links k.pool (cursor u)
    go (Passed d w) z = let p = S.passed d w z in rw (p.0, p.1) old
    go (Stopped p d w) z =
        let x = S.stopped p d w z in
        let y : cursor u ≡ d = ap cursor z in
        let o : KeptIn e k.keys k.links k.pool d = rw y at old in
        rw (y, x.1) (kept_new q s _ o P l x.0 (λ i p v. rw (← near_run q near goal f m (n i) p v) (leads_new _ (W i) z)))

-- what a position may be followed by, in the goal
pub near_is : (e : Re) (ts : List Set) (q : ℕ) (near goal : Set) → ((p : ℕ) → has (row ts q) p ≡ follows 0 e q p)
    → ((p : ℕ) → has near p ≡ (has (row ts q) p && has goal p)) → (p : ℕ) → has near p ≡ (follows 0 e q p && has goal p)
near_is e ts q near goal f n p = n p ∙ ap (λ (b : Bool). b && has goal p) (f p)

pub kept_none : (e : Re) (n : ℕ) (links : List Link) (t : List ℕ) (c : ℕ) → KeptIn e (replicate n none) links t c
kept_none e n links t c = record { link = λ j s p h i y. absurd (false≢true (sym (nones_empty n s p) ∙ y)) }
