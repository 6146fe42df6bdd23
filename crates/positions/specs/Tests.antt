-- Tests on positions: whether a part can be passed, and whether a goal can be reached from its start or from a position of it.
use Rattle.std.specs.Prelude.{◌≡◌, refl, Bool, true, false, ◌&&◌, ◌||◌, cond, List, [], ℕ, suc, ◌+◌, ◌≤◌, ◌<◌, ltb, eqb}
use Rattle.std.proofs.Common.{sym, ◌∙◌, true≢false, inl, inr, lt-ltb, le-ltb, eqb-true, eq-eqb}
use Rattle.std.proofs.lemmas.Bool.{false≢true}
use Rattle.meaning.specs.Expression.{Re, eps, pos, cat, alt, branch, star, plus, opt, size}
use Rattle.positions.specs.Places.{source, placed}
use Rattle.positions.specs.Positions.{Out, pass, at, at_pass}
use Rattle.positions.specs.Positions.{Enter, e_eps, e_pos, e_cat_in, e_cat_over, e_left, e_right}
use Rattle.positions.specs.Positions.{e_branch_in, e_branch_over, e_star_in, e_star_over, e_plus_in, e_plus_over, e_opt_in, e_opt_over}
use Rattle.positions.specs.Positions.{Resume, r_pos, r_cat_in, r_cat_over, r_cat_right, r_left, r_right}
use Rattle.positions.specs.Positions.{r_branch_in, r_branch_out, r_star_in, r_star_out, r_star_again, r_plus_in, r_plus_out, r_plus_again, r_opt_in, r_opt_out}
use Rattle.positions.specs.Positions.{At, a_pos, a_cat_left, a_cat_right, a_left, a_right, a_branch, a_star, a_plus, a_opt}
use Rattle.bits.specs.Truth.{or_left, or_right, and_both, either, both, chosen}

-- where a walk may end: at a position of the goal or, if b, by passing
pub data Ok (g : ℕ → Bool) (b : Bool) : Out → Type 0 where
  ok_at : {q : ℕ} → g q ≡ true → Ok g b (at q)
  ok_pass : b ≡ true → Ok g b pass

pub ok_stays : {g : ℕ → Bool} {b : Bool} {q : ℕ} (c : Bool) → Ok g b (at q) → Ok g c (at q)
ok_stays c (ok_at h) = ok_at h

pub ok_passes : {g : ℕ → Bool} {b : Bool} → Ok g b pass → b ≡ true
ok_passes (ok_pass h) = h

-- some way may end so
abbrev pub Can : (List ℕ → Out → Type 0) → (ℕ → Bool) → Bool → Type 0
Can R g b = (ρ : List ℕ) × (o : Out) × R ρ o × Ok g b o

-- e can be passed over no text
unfoldable pub nullable : Re → Bool
nullable eps = true
nullable (pos c) = false
nullable (cat x y) = nullable x && nullable y
nullable (alt x y) = nullable x || nullable y
nullable (branch x) = nullable x
nullable (star x) = true
nullable (plus x) = nullable x
nullable (opt x) = true

-- some way into e, before which p positions stand, ends at the goal
unfoldable pub leads : ℕ → Re → (ℕ → Bool) → Bool
leads p eps g = false
leads p (pos c) g = g p
leads p (cat x y) g = leads p x g || (nullable x && leads (p + size x) y g)
leads p (alt x y) g = leads p x g || leads (p + size x) y g
leads p (branch x) g = leads p x g
leads p (star x) g = leads p x g
leads p (plus x) g = leads p x g
leads p (opt x) g = leads p x g

-- e can be entered on the way to the goal or, if b, passed
abbrev pub feasible : ℕ → Re → (ℕ → Bool) → Bool → Bool
feasible p e g b = leads p e g || (nullable e && b)

-- position j of e reads the byte c
unfoldable pub reads : ℕ → Re → ℕ → ℕ → Bool
reads p eps j c = false
reads p (pos k) j c = eqb j p && k c
reads p (cat x y) j c = cond (ltb j (p + size x)) (reads p x j c) (reads (p + size x) y j c)
reads p (alt x y) j c = cond (ltb j (p + size x)) (reads p x j c) (reads (p + size x) y j c)
reads p (branch x) j c = reads p x j c
reads p (star x) j c = reads p x j c
reads p (plus x) j c = reads p x j c
reads p (opt x) j c = reads p x j c

-- e can be left from position j of it
unfoldable pub ends : ℕ → Re → ℕ → Bool
ends p eps j = false
ends p (pos c) j = eqb j p
ends p (cat x y) j = cond (ltb j (p + size x)) (ends p x j && nullable y) (ends (p + size x) y j)
ends p (alt x y) j = cond (ltb j (p + size x)) (ends p x j) (ends (p + size x) y j)
ends p (branch x) j = ends p x j
ends p (star x) j = ends p x j
ends p (plus x) j = ends p x j
ends p (opt x) j = ends p x j

-- some way on from position j of e ends at the goal
unfoldable pub reaches : ℕ → Re → ℕ → (ℕ → Bool) → Bool
reaches p eps j g = false
reaches p (pos c) j g = false
reaches p (cat x y) j g = cond (ltb j (p + size x)) (reaches p x j g || (ends p x j && leads (p + size x) y g)) (reaches (p + size x) y j g)
reaches p (alt x y) j g = cond (ltb j (p + size x)) (reaches p x j g) (reaches (p + size x) y j g)
reaches p (branch x) j g = reaches p x j g
reaches p (star x) j g = reaches p x j g || (ends p x j && leads p x g)
reaches p (plus x) j g = reaches p x j g || (ends p x j && leads p x g)
reaches p (opt x) j g = reaches p x j g

-- from position j of e there is a way to the goal or, if b, out of e
abbrev pub resumes : ℕ → Re → ℕ → (ℕ → Bool) → Bool → Bool
resumes p e j g b = reaches p e j g || (ends p e j && b)

-- the side of a position
on_left : {a : Bool} {j n : ℕ} (b : Bool) → j < n → a ≡ true → cond (ltb j n) a b ≡ true
on_left {j = j} {n = n} b h e = rw (lt-ltb j n h, e)

on_right : {b : Bool} {j n : ℕ} (a : Bool) → n ≤ j → b ≡ true → cond (ltb j n) a b ≡ true
on_right {j = j} {n = n} a h e = rw (le-ltb j n h, e)

-- what a position reads
pub reads_full : {p j c : ℕ} {e : Re} → At p e j c → reads p e j c ≡ true
unfolding reads
reads_full {p} (a_pos h) = and_both (eq-eqb p p refl) h
reads_full (a_cat_left a) = on_left _ (placed a).1 (reads_full a)
reads_full (a_cat_right a) = on_right _ (placed a).0 (reads_full a)
reads_full (a_left a) = on_left _ (placed a).1 (reads_full a)
reads_full (a_right a) = on_right _ (placed a).0 (reads_full a)
reads_full (a_branch a) = reads_full a
reads_full (a_star a) = reads_full a
reads_full (a_plus a) = reads_full a
reads_full (a_opt a) = reads_full a

pub reads_some : (p : ℕ) (e : Re) (j c : ℕ) → reads p e j c ≡ true → At p e j c
unfolding reads
reads_some p eps j c h = absurd (false≢true h)
reads_some p (pos k) j c h = let i = both (eqb j p) (k c) h in rw (eqb-true j p i.0) (a_pos i.1)
reads_some p (cat x y) j c h = elim (chosen (ltb j (p + size x)) (reads p x j c) _ h) [ inl i ↦ a_cat_left (reads_some p x j c i) | inr i ↦ a_cat_right (reads_some (p + size x) y j c i) ]
reads_some p (alt x y) j c h = elim (chosen (ltb j (p + size x)) (reads p x j c) _ h) [ inl i ↦ a_left (reads_some p x j c i) | inr i ↦ a_right (reads_some (p + size x) y j c i) ]
reads_some p (branch x) j c h = a_branch (reads_some p x j c h)
reads_some p (star x) j c h = a_star (reads_some p x j c h)
reads_some p (plus x) j c h = a_plus (reads_some p x j c h)
reads_some p (opt x) j c h = a_opt (reads_some p x j c h)

-- a way that passes, and a way that ends at the goal
abbrev pub Passes : (List ℕ → Out → Type 0) → Type 0
Passes R = (ρ : List ℕ) × R ρ pass

pub data Hits (R : List ℕ → Out → Type 0) (g : ℕ → Bool) : Type 0 where
  hits : {ρ : List ℕ} {q : ℕ} → R ρ (at q) → g q ≡ true → Hits R g

hits_ways : {R S : List ℕ → Out → Type 0} {g : ℕ → Bool} → ((ρ : List ℕ) (q : ℕ) → R ρ (at q) → (σ : List ℕ) × S σ (at q)) → Hits R g → Hits S g
hits_ways to (hits w k) = hits (to _ _ w).1 k

-- the ways in
pub nullable_full : {m p : ℕ} {e : Re} {ρ : List ℕ} → Enter m p e ρ pass → nullable e ≡ true
unfolding nullable
nullable_full e_eps = refl
nullable_full (e_cat_over e e') = and_both (nullable_full e) (nullable_full e')
nullable_full (e_left e) = or_left _ (nullable_full e)
nullable_full (e_right {x = x} e) = or_right (nullable x) (nullable_full e)
nullable_full (e_branch_over e) = nullable_full e
nullable_full e_star_over = refl
nullable_full (e_plus_over e) = nullable_full e
nullable_full e_opt_over = refl

pub nullable_some : (m p : ℕ) (e : Re) → nullable e ≡ true → Passes (Enter m p e)
unfolding nullable
nullable_some m p eps h = ([], e_eps)
nullable_some m p (pos c) h = absurd (false≢true h)
nullable_some m p (cat x y) h = let i = both (nullable x) (nullable y) h in (_, e_cat_over (nullable_some m p x i.0).1 (nullable_some _ _ y i.1).1)
nullable_some m p (alt x y) h = elim (either (nullable x) _ h) [ inl i ↦ (_, e_left (nullable_some m p x i).1) | inr i ↦ (_, e_right (nullable_some _ _ y i).1) ]
nullable_some m p (branch x) h = (_, e_branch_over (nullable_some (suc m) p x h).1)
nullable_some m p (star x) h = ([], e_star_over)
nullable_some m p (plus x) h = (_, e_plus_over (nullable_some (suc m) p x h).1)
nullable_some m p (opt x) h = ([], e_opt_over)

pub leads_full : {m p q : ℕ} {e : Re} {ρ : List ℕ} (g : ℕ → Bool) → Enter m p e ρ (at q) → g q ≡ true → leads p e g ≡ true
unfolding leads
leads_full g e_pos h = h
leads_full g (e_cat_in e) h = or_left _ (leads_full g e h)
leads_full {p = p} g (e_cat_over {x = x} e e') h = or_right (leads p x g) (and_both (nullable_full e) (leads_full g e' h))
leads_full g (e_left e) h = or_left _ (leads_full g e h)
leads_full {p = p} g (e_right {x = x} e) h = or_right (leads p x g) (leads_full g e h)
leads_full g (e_branch_in e) h = leads_full g e h
leads_full g (e_star_in e) h = leads_full g e h
leads_full g (e_plus_in e) h = leads_full g e h
leads_full g (e_opt_in e) h = leads_full g e h

pub leads_some : (m p : ℕ) (e : Re) (g : ℕ → Bool) → leads p e g ≡ true → Hits (Enter m p e) g
unfolding leads
leads_some m p eps g h = absurd (false≢true h)
leads_some m p (pos c) g h = hits e_pos h
leads_some m p (cat x y) g h = elim (either (leads p x g) _ h) [
  | inl i ↦ hits_ways (λ ρ q w. (_, e_cat_in w)) (leads_some m p x g i)
  | inr i ↦ let k = both (nullable x) _ i in hits_ways (λ ρ q w. (_, e_cat_over (nullable_some m p x k.0).1 w)) (leads_some _ _ y g k.1)
]
leads_some m p (alt x y) g h = elim (either (leads p x g) _ h) [
  | inl i ↦ hits_ways (λ ρ q w. (_, e_left w)) (leads_some m p x g i)
  | inr i ↦ hits_ways (λ ρ q w. (_, e_right w)) (leads_some _ _ y g i)
]
leads_some m p (branch x) g h = hits_ways (λ ρ q w. (_, e_branch_in w)) (leads_some (suc m) p x g h)
leads_some m p (star x) g h = hits_ways (λ ρ q w. (_, e_star_in w)) (leads_some (suc m) p x g h)
leads_some m p (plus x) g h = hits_ways (λ ρ q w. (_, e_plus_in w)) (leads_some (suc m) p x g h)
leads_some m p (opt x) g h = hits_ways (λ ρ q w. (_, e_opt_in w)) (leads_some (suc m) p x g h)

pub feasible_full : {m p : ℕ} {e : Re} {ρ : List ℕ} {g : ℕ → Bool} {b : Bool} {o : Out} → Enter m p e ρ o → Ok g b o → feasible p e g b ≡ true
feasible_full {g = g} w (ok_at h) = or_left _ (leads_full g w h)
feasible_full {p = p} {e = e} {g = g} w (ok_pass h) = or_right (leads p e g) (and_both (nullable_full w) h)

-- where a whole can be entered, so can its parts
cat_law : (lx nx ly ny b : Bool) → ((lx || (nx && ly)) || ((nx && ny) && b)) ≡ true → (lx || (nx && (ly || (ny && b)))) ≡ true
cat_law true nx ly ny b h = refl
cat_law false true true ny b h = refl
cat_law false true false ny b h = h
cat_law false false ly ny b h = h

pub feasible_cat : (p : ℕ) (x y : Re) (g : ℕ → Bool) (b : Bool) → feasible p (cat x y) g b ≡ true → feasible p x g (feasible (p + size x) y g b) ≡ true
unfolding leads nullable
feasible_cat p x y g b h = cat_law (leads p x g) (nullable x) (leads (p + size x) y g) (nullable y) b h

alt_law : (lx nx ly ny b : Bool) → ((lx || ly) || ((nx || ny) && b)) ≡ true → (lx || (nx && b)) ≡ false → (ly || (ny && b)) ≡ true
alt_law true nx ly ny b h e = absurd (true≢false e)
alt_law false nx true ny b h e = refl
alt_law false true false ny b h e = absurd (true≢false (sym h ∙ e))
alt_law false false false ny b h e = h

pub feasible_right : (p : ℕ) (x y : Re) (g : ℕ → Bool) (b : Bool) → feasible p (alt x y) g b ≡ true → feasible p x g b ≡ false → feasible (p + size x) y g b ≡ true
unfolding leads nullable
feasible_right p x y g b h e = alt_law (leads p x g) (nullable x) (leads (p + size x) y g) (nullable y) b h e

-- the ways on
pub ends_full : {m p j : ℕ} {e : Re} {ρ : List ℕ} {o : Out} → Resume m p e j ρ o → o ≡ pass → ends p e j ≡ true
unfolding ends
ends_full {p = p} r_pos z = eq-eqb p p refl
ends_full (r_cat_in w) z = absurd (at_pass z)
ends_full (r_cat_over {o = pass} w u) z = on_left _ (source w).1 (and_both (ends_full w refl) (nullable_full u))
ends_full (r_cat_over {o = at q} w u) z = absurd (at_pass z)
ends_full (r_cat_right w) z = on_right _ (source w).0 (ends_full w z)
ends_full (r_left w) z = on_left _ (source w).1 (ends_full w z)
ends_full (r_right w) z = on_right _ (source w).0 (ends_full w z)
ends_full (r_branch_in w) z = absurd (at_pass z)
ends_full (r_branch_out w) z = ends_full w refl
ends_full (r_star_in w) z = absurd (at_pass z)
ends_full (r_star_out w) z = ends_full w refl
ends_full (r_star_again w u) z = absurd (at_pass z)
ends_full (r_plus_in w) z = absurd (at_pass z)
ends_full (r_plus_out w) z = ends_full w refl
ends_full (r_plus_again w u) z = absurd (at_pass z)
ends_full (r_opt_in w) z = absurd (at_pass z)
ends_full (r_opt_out w) z = ends_full w refl

pub ends_some : (m p : ℕ) (e : Re) (j : ℕ) → ends p e j ≡ true → Passes (Resume m p e j)
unfolding ends
ends_some m p eps j h = absurd (false≢true h)
ends_some m p (pos c) j h = ([], rw (eqb-true j p h) r_pos)
ends_some m p (cat x y) j h = elim (chosen (ltb j (p + size x)) (ends p x j && nullable y) _ h) [
  | inl i ↦ let k = both (ends p x j) _ i in (_, r_cat_over (ends_some m p x j k.0).1 (nullable_some _ _ y k.1).1)
  | inr i ↦ (_, r_cat_right (ends_some _ _ y j i).1)
]
ends_some m p (alt x y) j h = elim (chosen (ltb j (p + size x)) (ends p x j) _ h) [ inl i ↦ (_, r_left (ends_some m p x j i).1) | inr i ↦ (_, r_right (ends_some _ _ y j i).1) ]
ends_some m p (branch x) j h = (_, r_branch_out (ends_some (suc m) p x j h).1)
ends_some m p (star x) j h = (_, r_star_out (ends_some (suc m) p x j h).1)
ends_some m p (plus x) j h = (_, r_plus_out (ends_some (suc m) p x j h).1)
ends_some m p (opt x) j h = (_, r_opt_out (ends_some (suc m) p x j h).1)

pub reaches_full : {m p j q : ℕ} {e : Re} {ρ : List ℕ} (g : ℕ → Bool) → Resume m p e j ρ (at q) → g q ≡ true → reaches p e j g ≡ true
unfolding reaches
reaches_full g (r_cat_in w) h = on_left _ (source w).1 (or_left _ (reaches_full g w h))
reaches_full {p = p} {j = j} g (r_cat_over {x = x} w u) h = on_left _ (source w).1 (or_right (reaches p x j g) (and_both (ends_full w refl) (leads_full g u h)))
reaches_full g (r_cat_right w) h = on_right _ (source w).0 (reaches_full g w h)
reaches_full g (r_left w) h = on_left _ (source w).1 (reaches_full g w h)
reaches_full g (r_right w) h = on_right _ (source w).0 (reaches_full g w h)
reaches_full g (r_branch_in w) h = reaches_full g w h
reaches_full g (r_star_in w) h = or_left _ (reaches_full g w h)
reaches_full {p = p} {j = j} g (r_star_again {x = x} w u) h = or_right (reaches p x j g) (and_both (ends_full w refl) (leads_full g u h))
reaches_full g (r_plus_in w) h = or_left _ (reaches_full g w h)
reaches_full {p = p} {j = j} g (r_plus_again {x = x} w u) h = or_right (reaches p x j g) (and_both (ends_full w refl) (leads_full g u h))
reaches_full g (r_opt_in w) h = reaches_full g w h

pub reaches_some : (m p : ℕ) (e : Re) (j : ℕ) (g : ℕ → Bool) → reaches p e j g ≡ true → Hits (Resume m p e j) g
unfolding reaches
reaches_some m p eps j g h = absurd (false≢true h)
reaches_some m p (pos c) j g h = absurd (false≢true h)
reaches_some m p (cat x y) j g h = elim (chosen (ltb j (p + size x)) (reaches p x j g || (ends p x j && leads (p + size x) y g)) _ h) [
  | inl i ↦ elim (either (reaches p x j g) _ i) [
    | inl k ↦ hits_ways (λ ρ q w. (_, r_cat_in w)) (reaches_some m p x j g k)
    | inr k ↦ let l = both (ends p x j) _ k in hits_ways (λ ρ q w. (_, r_cat_over (ends_some m p x j l.0).1 w)) (leads_some _ _ y g l.1)
  ]
  | inr i ↦ hits_ways (λ ρ q w. (_, r_cat_right w)) (reaches_some _ _ y j g i)
]
reaches_some m p (alt x y) j g h = elim (chosen (ltb j (p + size x)) (reaches p x j g) _ h) [
  | inl i ↦ hits_ways (λ ρ q w. (_, r_left w)) (reaches_some m p x j g i)
  | inr i ↦ hits_ways (λ ρ q w. (_, r_right w)) (reaches_some _ _ y j g i)
]
reaches_some m p (branch x) j g h = hits_ways (λ ρ q w. (_, r_branch_in w)) (reaches_some (suc m) p x j g h)
reaches_some m p (star x) j g h = elim (either (reaches p x j g) _ h) [
  | inl i ↦ hits_ways (λ ρ q w. (_, r_star_in w)) (reaches_some (suc m) p x j g i)
  | inr i ↦ let k = both (ends p x j) _ i in hits_ways (λ ρ q u. (_, r_star_again (ends_some (suc m) p x j k.0).1 u)) (leads_some (suc m) p x g k.1)
]
reaches_some m p (plus x) j g h = elim (either (reaches p x j g) _ h) [
  | inl i ↦ hits_ways (λ ρ q w. (_, r_plus_in w)) (reaches_some (suc m) p x j g i)
  | inr i ↦ let k = both (ends p x j) _ i in hits_ways (λ ρ q u. (_, r_plus_again (ends_some (suc m) p x j k.0).1 u)) (leads_some (suc m) p x g k.1)
]
reaches_some m p (opt x) j g h = hits_ways (λ ρ q w. (_, r_opt_in w)) (reaches_some (suc m) p x j g h)

pub resumes_full : {m p j : ℕ} {e : Re} {ρ : List ℕ} {o : Out} {g : ℕ → Bool} {b : Bool} → Resume m p e j ρ o → Ok g b o → resumes p e j g b ≡ true
resumes_full {g = g} w (ok_at h) = or_left _ (reaches_full g w h)
resumes_full {p = p} {j = j} {e = e} {g = g} w (ok_pass h) = or_right (reaches p e j g) (and_both (ends_full w refl) h)

pub resumes_some : (m p : ℕ) (e : Re) (j : ℕ) (g : ℕ → Bool) (b : Bool) → resumes p e j g b ≡ true → Can (Resume m p e j) g b
resumes_some m p e j g b h = elim (either (reaches p e j g) _ h) [
  | inl i ↦ elim (reaches_some m p e j g i) [ hits w k ↦ (_, _, w, ok_at k) ]
  | inr i ↦ let k = both (ends p e j) b i in (_, _, (ends_some m p e j k.0).1, ok_pass k.1)
]
