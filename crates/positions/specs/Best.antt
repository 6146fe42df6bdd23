-- The first of the ways that may end at a goal, and how the first of a whole comes from the first of its parts.
use Rattle.std.specs.Prelude.{◌≡◌, refl, Bool, true, ◌||◌, List, [], ◌∷◌, ◌++◌, ℕ, ◌+◌, ◌≤◌, ◌<◌}
use Rattle.std.proofs.Common.{ap, inl, inr, arith}
use Rattle.positions.specs.Parts.{Then, stay, over, Put, puts}
use Rattle.positions.specs.Positions.{Out, pass, at, at_pass, pass_at}
use Rattle.positions.specs.Runs.{Run, run, row_of, out_of, other_of, and_then, put}
use Rattle.positions.specs.Tests.{Ok, ok_at, ok_pass, ok_stays, ok_passes}
use Rattle.bits.specs.Truth.{or_left, or_right, either}

-- ρ stands before ρ', which ends at o', whatever follows the two, if what follows a pass is above the marks m + 1 to m + k
pub data Less (m k : ℕ) : List ℕ → List ℕ → Out → Type 0 where
  l_here : {t t' : ℕ} {ρ ρ' : List ℕ} {o' : Out} → t < t' → Less m k (t ∷ ρ) (t' ∷ ρ') o'
  l_pass : {t : ℕ} {ρ : List ℕ} → m < t → t ≤ m + k → Less m k (t ∷ ρ) [] pass
  l_at : {t q : ℕ} {ρ : List ℕ} → t < 256 → Less m k (t ∷ ρ) [] (at q)
  l_next : {t t' : ℕ} {ρ ρ' : List ℕ} {o' : Out} → t ≡ t' → Less m k ρ ρ' o' → Less m k (t ∷ ρ) (t' ∷ ρ') o'

-- an empty row, or one that begins above n
pub data Above (n : ℕ) : List ℕ → Type 0 where
  v_nil : Above n []
  v_cons : {t : ℕ} {τ : List ℕ} → n < t → Above n (t ∷ τ)

-- the run r and another way: they are the same, or the other is later and the run says that there is another
pub data Compared (m k : ℕ) (r : Run) (ρ : List ℕ) (o : Out) : Type 0 where
  same : row_of r ≡ ρ → out_of r ≡ o → Compared m k r ρ o
  later : other_of r ≡ true → Less m k (row_of r) ρ o → Compared m k r ρ o

-- a later way than that of the run
pub data Rival (m k : ℕ) (R : List ℕ → Out → Type 0) (g : ℕ → Bool) (b : Bool) (r : Run) : Type 0 where
  rival : {ρ : List ℕ} {o : Out} → R ρ o → Ok g b o → Less m k (row_of r) ρ o → Rival m k R g b r

-- r is the first of the ways R that may end so, and says whether there is another
pub record Best (m k : ℕ) (R : List ℕ → Out → Type 0) (g : ℕ → Bool) (b : Bool) (r : Run) : Type 0 where
  pub way : R (row_of r) (out_of r)
  pub ok : Ok g b (out_of r)
  pub least : (ρ : List ℕ) (o : Out) → R ρ o → Ok g b o → Compared m k r ρ o
  pub rivals : other_of r ≡ true → Rival m k R g b r

-- the order
pub less_wider : {m k m₀ k₀ : ℕ} {ρ ρ' : List ℕ} {o : Out} → m₀ ≤ m → m + k ≤ m₀ + k₀ → Less m k ρ ρ' o → Less m₀ k₀ ρ ρ' o
less_wider h h' (l_here a) = l_here a
less_wider h h' (l_pass {t = t} a b) = l_pass {t = t} (omega arith) (omega arith)
less_wider h h' (l_at a) = l_at a
less_wider h h' (l_next e l) = l_next e (less_wider h h' l)

pub less_left : {m k : ℕ} {ρ ρ' : List ℕ} {o : Out} (σ : List ℕ) → Less m k ρ ρ' o → Less m k (ρ ++ σ) ρ' o
less_left σ (l_here a) = l_here a
less_left σ (l_pass a b) = l_pass a b
less_left σ (l_at a) = l_at a
less_left σ (l_next e l) = l_next e (less_left σ l)

pass_above : {m₀ k₀ t : ℕ} {ρ τ : List ℕ} (m k : ℕ) (o : Out) → m₀ ≤ m → m + k ≤ m₀ + k₀ → m + k ≤ 127 → m < t → t ≤ m + k → Above (m + k) τ → Less m₀ k₀ (t ∷ ρ) τ o
pass_above {t = t} m k pass h h' n a b v_nil = l_pass {t = t} (omega arith) (omega arith)
pass_above {t = t} m k (at q) h h' n a b v_nil = l_at {t = t} (omega arith)
pass_above {t = t} m k pass h h' n a b (v_cons {t = t'} c) = l_here {t = t} {t' = t'} (omega arith)
pass_above {t = t} m k (at q) h h' n a b (v_cons {t = t'} c) = l_here {t = t} {t' = t'} (omega arith)

pub less_right : {m k m₀ k₀ : ℕ} {ρ ρ' τ : List ℕ} {u : Out} (o : Out) → m₀ ≤ m → m + k ≤ m₀ + k₀ → m + k ≤ 127 → Less m k ρ ρ' u → u ≡ pass → Above (m + k) τ → Less m₀ k₀ ρ (ρ' ++ τ) o
less_right o h h' n (l_here a) e v = l_here a
less_right {m} {k} o h h' n (l_pass a b) e v = pass_above m k o h h' n a b v
less_right o h h' n (l_at a) e v = let z : ◌≡◌ {A = ℕ} 0 1 = cc in absurd (omega arith)
less_right o h h' n (l_next i l) e v = l_next i (less_right o h h' n l e v)

less_prefix : {m k : ℕ} {ρ' σ σ' : List ℕ} {o : Out} (ρ : List ℕ) → ρ ≡ ρ' → Less m k σ σ' o → Less m k (ρ ++ σ) (ρ' ++ σ') o
less_prefix {m} {k} {ρ'} {σ} {σ'} {o} ρ e l = rw (← e) (go ρ)
  where
    go : (ρ : List ℕ) → Less m k (ρ ++ σ) (ρ ++ σ') o
    go [] = l
    go (t ∷ ρ) = l_next refl (go ρ)

-- the best of the same ways
pub best_ways : {m k : ℕ} {R S : List ℕ → Out → Type 0} {g : ℕ → Bool} {b : Bool} {r : Run}
    → ((ρ : List ℕ) (o : Out) → R ρ o → S ρ o) → ((ρ : List ℕ) (o : Out) → S ρ o → R ρ o) → Best m k R g b r → Best m k S g b r
best_ways {m} {k} {R} {S} {g} {b} {r} to from B = record { way = to _ _ B.way; ok = B.ok; least = λ ρ o w h. B.least ρ o (from ρ o w) h; rivals = λ c. go (B.rivals c) }
  where
    go : Rival m k R g b r → Rival m k S g b r
    go (rival w h l) = rival (to _ _ w) h l

-- a token in front
pub best_put : {m k : ℕ} {R : List ℕ → Out → Type 0} {g : ℕ → Bool} {b : Bool} (t : ℕ) (r : Run) → Best m k R g b r → Best m k (Put t R) g b (put t r)
best_put {m} {k} {R} {g} {b} t (run ρ o w) B = record { way = puts B.way; ok = B.ok; least = λ ρ' o' u h. least u h; rivals = λ c. rivals (B.rivals c) }
  where
    verdict : {ρ' : List ℕ} {o' : Out} → Compared m k (run ρ o w) ρ' o' → Compared m k (run (t ∷ ρ) o w) (t ∷ ρ') o'
    verdict (same e f) = same (ap (λ (l : List ℕ). t ∷ l) e) f
    verdict (later c l) = later c (l_next refl l)

    least : {ρ' : List ℕ} {o' : Out} → Put t R ρ' o' → Ok g b o' → Compared m k (run (t ∷ ρ) o w) ρ' o'
    least (puts u) h = verdict (B.least _ _ u h)

    rivals : Rival m k R g b (run ρ o w) → Rival m k (Put t R) g b (run (t ∷ ρ) o w)
    rivals (rival u h l) = rival (puts u) h (l_next refl l)

pub best_wider : {m k m₀ k₀ : ℕ} {R : List ℕ → Out → Type 0} {g : ℕ → Bool} {b : Bool} {r : Run} → m₀ ≤ m → m + k ≤ m₀ + k₀ → Best m k R g b r → Best m₀ k₀ R g b r
best_wider {m} {k} {m₀} {k₀} {R} {g} {b} {r} h h' B = record { way = B.way; ok = B.ok; least = λ ρ o w u. verdict (B.least ρ o w u); rivals = λ c. rivals (B.rivals c) }
  where
    verdict : {ρ : List ℕ} {o : Out} → Compared m k r ρ o → Compared m₀ k₀ r ρ o
    verdict (same e f) = same e f
    verdict (later c l) = later c (less_wider h h' l)

    rivals : Rival m k R g b r → Rival m₀ k₀ R g b r
    rivals (rival u o l) = rival u o (less_wider h h' l)

-- one part and then the other
abbrev pub Fits : ℕ → ℕ → ℕ → ℕ → Type 0
Fits m k m₀ k₀ = (m₀ ≤ m) × (m + k ≤ m₀ + k₀) × (m + k ≤ 127)

module _ (m k m₀ k₀ : ℕ) (R S : List ℕ → Out → Type 0) (g : ℕ → Bool) (b f : Bool) (h : Fits m k m₀ k₀)
    (above : (τ : List ℕ) (o : Out) → S τ o → Above (m + k) τ)
    (full : (τ : List ℕ) (o : Out) → S τ o → Ok g b o → f ≡ true) where
  then_rivals : {r s : Run} → (f ≡ true → Best m₀ k₀ S g b s) → Rival m k R g f r → Rival m₀ k₀ (Then R S) g b r
  then_rivals C (rival w (ok_at i) l) = rival (stay w) (ok_at i) (less_wider h.0 h.1 l)
  then_rivals C (rival w (ok_pass i) l) = rival (over w (C i).way) (C i).ok (less_right _ h.0 h.1 h.2 l refl (above _ _ (C i).way))

  -- where the first stays
  module _ (q : ℕ) (ρ : List ℕ) (w : Bool) (B : Best m k R g f (run ρ (at q) w)) where
    stay_stay : {σ : List ℕ} {o : Out} → Compared m k (run ρ (at q) w) σ o → Compared m₀ k₀ (run ρ (at q) w) σ o
    stay_stay (same e i) = same e i
    stay_stay (later c l) = later c (less_wider h.0 h.1 l)

    stay_over : {σ τ : List ℕ} {o : Out} → Compared m k (run ρ (at q) w) σ pass → S τ o → Compared m₀ k₀ (run ρ (at q) w) (σ ++ τ) o
    stay_over (same e i) s = absurd (at_pass i)
    stay_over (later c l) s = later c (less_right _ h.0 h.1 h.2 l refl (above _ _ s))

    stay_least : {σ : List ℕ} {o : Out} → Then R S σ o → Ok g b o → Compared m₀ k₀ (run ρ (at q) w) σ o
    stay_least (stay u) i = stay_stay (B.least _ _ u (ok_stays f i))
    stay_least (over u s) i = stay_over (B.least _ _ u (ok_pass (full _ _ s i))) s

  -- where the first passes
  module _ (ρ ρ' : List ℕ) (w v : Bool) (u : Out) (B : Best m k R g f (run ρ pass w)) (C : Best m₀ k₀ S g b (run ρ' u v)) where
    over_stay : {q : ℕ} {σ : List ℕ} → Compared m k (run ρ pass w) σ (at q) → Compared m₀ k₀ (run (ρ ++ ρ') u (w || v)) σ (at q)
    over_stay (same e i) = absurd (pass_at i)
    over_stay (later c l) = later (or_left v c) (less_left ρ' (less_wider h.0 h.1 l))

    over_same : {σ τ : List ℕ} {o : Out} → ρ ≡ σ → Compared m₀ k₀ (run ρ' u v) τ o → Compared m₀ k₀ (run (ρ ++ ρ') u (w || v)) (σ ++ τ) o
    over_same e (same i i') = same (rw (e, i)) i'
    over_same e (later c l) = later (or_right w c) (less_prefix ρ e l)

    over_over : {σ τ : List ℕ} {o : Out} → Compared m k (run ρ pass w) σ pass → S τ o → Ok g b o → Compared m₀ k₀ (run (ρ ++ ρ') u (w || v)) (σ ++ τ) o
    over_over (same e i) s x = over_same e (C.least _ _ s x)
    over_over (later c l) s x = later (or_left v c) (less_left ρ' (less_right _ h.0 h.1 h.2 l refl (above _ _ s)))

    over_least : {σ : List ℕ} {o : Out} → Then R S σ o → Ok g b o → Compared m₀ k₀ (run (ρ ++ ρ') u (w || v)) σ o
    over_least (stay x) i = over_stay (B.least _ _ x (ok_stays f i))
    over_least (over x s) i = over_over (B.least _ _ x B.ok) s i

    rival_left : Rival m₀ k₀ (Then R S) g b (run ρ pass w) → Rival m₀ k₀ (Then R S) g b (run (ρ ++ ρ') u (w || v))
    rival_left (rival x i l) = rival x i (less_left ρ' l)

    rival_right : Rival m₀ k₀ S g b (run ρ' u v) → Rival m₀ k₀ (Then R S) g b (run (ρ ++ ρ') u (w || v))
    rival_right (rival s i l) = rival (over B.way s) i (less_prefix ρ refl l)

    over_rivals : (w || v) ≡ true → Rival m₀ k₀ (Then R S) g b (run (ρ ++ ρ') u (w || v))
    over_rivals e = elim (either w v e) [ inl a ↦ rival_left (then_rivals (λ i. C) (B.rivals a)) | inr c ↦ rival_right (C.rivals c) ]

  then_best : (r s : Run) → Best m k R g f r → (f ≡ true → Best m₀ k₀ S g b s) → Best m₀ k₀ (Then R S) g b (and_then r s)
  then_best (run ρ (at q) w) s B C = record { way = stay B.way; ok = ok_stays b B.ok; least = λ σ o x i. stay_least q ρ w B x i; rivals = λ e. then_rivals C (B.rivals e) }
  then_best (run ρ pass w) (run ρ' u v) B C =
      let D = C (ok_passes B.ok) in
      record { way = over B.way D.way; ok = D.ok; least = λ σ o x i. over_least ρ ρ' w v u B D x i; rivals = λ e. over_rivals ρ ρ' w v u B D e }

pub best_then : {m k m₀ k₀ : ℕ} {R S : List ℕ → Out → Type 0} {g : ℕ → Bool} {b f : Bool} (r s : Run) → Fits m k m₀ k₀
    → ((τ : List ℕ) (o : Out) → S τ o → Above (m + k) τ)
    → ((τ : List ℕ) (o : Out) → S τ o → Ok g b o → f ≡ true)
    → Best m k R g f r → (f ≡ true → Best m₀ k₀ S g b s) → Best m₀ k₀ (Then R S) g b (and_then r s)
best_then r s h above full B C = then_best _ _ _ _ _ _ _ _ _ h above full r s B C
