-- Sets of positions as tests of membership: what may come first, what may follow a position, and the form in which a table is filled from the root down.
use Rattle.std.specs.Prelude.{◌≡◌, refl, Bool, true, false, ◌&&◌, ◌||◌, cond, List, ◌↔◌, ℕ, ◌+◌, ltb, eqb}
use Rattle.std.proofs.Common.{sym, ◌∙◌, eqb-true, eq-eqb}
use Rattle.std.proofs.Math.Bool.{or-false, and-true, and-false}
use Rattle.meaning.specs.Expression.{Re, eps, pos, cat, alt, branch, star, plus, opt, size}
use Rattle.positions.specs.Places.{In, source, placed}
use Rattle.positions.specs.Positions.{at, Enter, Resume}
use Rattle.positions.specs.Tests.{nullable, leads, reads, ends, reaches, reads_some, hits, leads_full, leads_some, ends_some, reaches_full, reaches_some}
use Rattle.bits.specs.Truth.{alike}

-- q is in the set of the positions that e may begin with; that may follow position j of e. A set has the member q if it reaches the goal
-- that is q alone, so these have the equations of `leads` and `reaches`.
abbrev pub firsts : ℕ → Re → ℕ → Bool
firsts p e q = leads p e (eqb q)

abbrev pub follows : ℕ → Re → ℕ → ℕ → Bool
follows p e j q = reaches p e j (eqb q)

-- two sets have a member in common
pub data Meet (f g : ℕ → Bool) : Type 0 where
  meet : {q : ℕ} → f q ≡ true → g q ≡ true → Meet f g

-- members are where a way leads
pub firsts_full : {m p q : ℕ} {e : Re} {ρ : List ℕ} → Enter m p e ρ (at q) → firsts p e q ≡ true
firsts_full {q = q} w = leads_full (eqb q) w (eq-eqb q q refl)

pub firsts_some : (m p : ℕ) (e : Re) (q : ℕ) → firsts p e q ≡ true → (ρ : List ℕ) × Enter m p e ρ (at q)
firsts_some m p e q h = elim (leads_some m p e (eqb q) h) [ hits {ρ = ρ} {q = q'} w k ↦ (ρ, rw (eqb-true q q' k) w) ]

pub follows_full : {m p j q : ℕ} {e : Re} {ρ : List ℕ} → Resume m p e j ρ (at q) → follows p e j q ≡ true
follows_full {q = q} w = reaches_full (eqb q) w (eq-eqb q q refl)

pub follows_some : (m p : ℕ) (e : Re) (j q : ℕ) → follows p e j q ≡ true → (ρ : List ℕ) × Resume m p e j ρ (at q)
follows_some m p e j q h = elim (reaches_some m p e j (eqb q) h) [ hits {ρ = ρ} {q = q'} w k ↦ (ρ, rw (eqb-true q q' k) w) ]

-- members are positions of e
pub ends_inside : (p : ℕ) (e : Re) (j : ℕ) → ends p e j ≡ true → In p e j
ends_inside p e j h = source (ends_some 0 p e j h).1

pub reads_in : (p : ℕ) (e : Re) (j c : ℕ) → reads p e j c ≡ true → In p e j
reads_in p e j c h = placed (reads_some p e j c h)

-- the tests say whether a set meets the goal
pub leads_meet : (p : ℕ) (e : Re) (g : ℕ → Bool) → (leads p e g ≡ true) ↔ Meet (firsts p e) g
leads_meet p e g = (λ h. elim (leads_some 0 p e g h) [ hits w k ↦ meet (firsts_full w) k ], λ h. elim h [ meet {q = q} i k ↦ leads_full g (firsts_some 0 p e q i).1 k ])

pub reaches_meet : (p : ℕ) (e : Re) (j : ℕ) (g : ℕ → Bool) → (reaches p e j g ≡ true) ↔ Meet (follows p e j) g
reaches_meet p e j g = (λ h. elim (reaches_some 0 p e j g h) [ hits w k ↦ meet (follows_full w) k ], λ h. elim h [ meet {q = q} i k ↦ reaches_full g (follows_some 0 p e j q i).1 k ])

-- tests of the same goal
pub leads_same : (p : ℕ) (e : Re) (g g' : ℕ → Bool) → ((q : ℕ) → g q ≡ g' q) → leads p e g ≡ leads p e g'
leads_same p e g g' s = alike _ _ (to g g' s) (to g' g (λ q. sym (s q)))
  where
    to : (g g' : ℕ → Bool) → ((q : ℕ) → g q ≡ g' q) → leads p e g ≡ true → leads p e g' ≡ true
    to g g' s h = elim (leads_some 0 p e g h) [ hits {q = q} w k ↦ leads_full g' w (sym (s q) ∙ k) ]

-- From the root down: a tells whether q may come after e, b whether the end may. Then q may follow position j of e, and j may be the last.
unfoldable pub follows_in : ℕ → Re → Bool → ℕ → ℕ → Bool
follows_in p eps a j q = false
follows_in p (pos c) a j q = eqb j p && a
follows_in p (cat x y) a j q = cond (ltb j (p + size x)) (follows_in p x (firsts (p + size x) y q || (nullable y && a)) j q) (follows_in (p + size x) y a j q)
follows_in p (alt x y) a j q = cond (ltb j (p + size x)) (follows_in p x a j q) (follows_in (p + size x) y a j q)
follows_in p (branch x) a j q = follows_in p x a j q
follows_in p (star x) a j q = follows_in p x (firsts p x q || a) j q
follows_in p (plus x) a j q = follows_in p x (firsts p x q || a) j q
follows_in p (opt x) a j q = follows_in p x a j q

unfoldable pub ends_in : ℕ → Re → Bool → ℕ → Bool
ends_in p eps b j = false
ends_in p (pos c) b j = eqb j p && b
ends_in p (cat x y) b j = cond (ltb j (p + size x)) (ends_in p x (nullable y && b) j) (ends_in (p + size x) y b j)
ends_in p (alt x y) b j = cond (ltb j (p + size x)) (ends_in p x b j) (ends_in (p + size x) y b j)
ends_in p (branch x) b j = ends_in p x b j
ends_in p (star x) b j = ends_in p x b j
ends_in p (plus x) b j = ends_in p x b j
ends_in p (opt x) b j = ends_in p x b j

cat_law : (t r l f n a r' l' : Bool) → cond t (r || (l && (f || (n && a)))) (r' || (l' && a)) ≡ (cond t (r || (l && f)) r' || (cond t (l && n) l' && a))
cat_law true true l f n a r' l' = refl
cat_law true false true f n a r' l' = refl
cat_law true false false f n a r' l' = refl
cat_law false r l f n a r' l' = refl

alt_law : (t r l a r' l' : Bool) → cond t (r || (l && a)) (r' || (l' && a)) ≡ (cond t r r' || (cond t l l' && a))
alt_law true r l a r' l' = refl
alt_law false r l a r' l' = refl

star_law : (r l f a : Bool) → (r || (l && (f || a))) ≡ ((r || (l && f)) || (l && a))
star_law true l f a = refl
star_law false true f a = refl
star_law false false f a = refl

pub follows_down : (p : ℕ) (e : Re) (a : Bool) (j q : ℕ) → follows_in p e a j q ≡ (follows p e j q || (ends p e j && a))
unfolding follows_in reaches ends
follows_down p eps a j q = refl
follows_down p (pos c) a j q = refl
follows_down p (cat x y) a j q = rw (follows_down p x (firsts (p + size x) y q || (nullable y && a)) j q, follows_down (p + size x) y a j q)
    (cat_law (ltb j (p + size x)) (follows p x j q) (ends p x j) (firsts (p + size x) y q) (nullable y) a (follows (p + size x) y j q) (ends (p + size x) y j))
follows_down p (alt x y) a j q = rw (follows_down p x a j q, follows_down (p + size x) y a j q)
    (alt_law (ltb j (p + size x)) (follows p x j q) (ends p x j) a (follows (p + size x) y j q) (ends (p + size x) y j))
follows_down p (branch x) a j q = follows_down p x a j q
follows_down p (star x) a j q = follows_down p x (firsts p x q || a) j q ∙ star_law (follows p x j q) (ends p x j) (firsts p x q) a
follows_down p (plus x) a j q = follows_down p x (firsts p x q || a) j q ∙ star_law (follows p x j q) (ends p x j) (firsts p x q) a
follows_down p (opt x) a j q = follows_down p x a j q

cat_end : (t l n b l' : Bool) → cond t (l && (n && b)) (l' && b) ≡ (cond t (l && n) l' && b)
cat_end true true n b l' = refl
cat_end true false n b l' = refl
cat_end false l n b l' = refl

alt_end : (t l b l' : Bool) → cond t (l && b) (l' && b) ≡ (cond t l l' && b)
alt_end true l b l' = refl
alt_end false l b l' = refl

pub ends_down : (p : ℕ) (e : Re) (b : Bool) (j : ℕ) → ends_in p e b j ≡ (ends p e j && b)
unfolding ends_in ends
ends_down p eps b j = refl
ends_down p (pos c) b j = refl
ends_down p (cat x y) b j = rw (ends_down p x (nullable y && b) j, ends_down (p + size x) y b j) (cat_end (ltb j (p + size x)) (ends p x j) (nullable y) b (ends (p + size x) y j))
ends_down p (alt x y) b j = rw (ends_down p x b j, ends_down (p + size x) y b j) (alt_end (ltb j (p + size x)) (ends p x j) b (ends (p + size x) y j))
ends_down p (branch x) b j = ends_down p x b j
ends_down p (star x) b j = ends_down p x b j
ends_down p (plus x) b j = ends_down p x b j
ends_down p (opt x) b j = ends_down p x b j

-- nothing comes after the root but the end
pub follows_root : (e : Re) (j q : ℕ) → follows_in 0 e false j q ≡ follows 0 e j q
follows_root e j q = follows_down 0 e false j q ∙ rw (and-false (ends 0 e j)) (or-false (follows 0 e j q))

pub ends_root : (e : Re) (j : ℕ) → ends_in 0 e true j ≡ ends 0 e j
ends_root e j = ends_down 0 e true j ∙ and-true (ends 0 e j)
