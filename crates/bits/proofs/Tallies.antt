-- A test of the numbers below n, `tally f n` and `any f n`. Assumes nothing.
use mathlib.Core.Path.{◌≡◌, refl, sym, ap, ap₂, ◌∙◌}
use mathlib.Core.Bool.{Bool, true, false, ◌&&◌, ◌||◌, not, and-true, or-true, true≢false}
use Prim.Native.Nat.{ℕ, zero, suc, ◌+◌, ◌<◌, suc-le-suc, zero-le}
use native.Mathlib.Nat.{not-suc-le-zero, le_of_suc-le-suc}
use native.Mathlib.Omega.{arith}
use lib.Dec.{eqb, eqb-suc-suc, eqb-zero-suc, eqb-suc-zero}
use Rattle.bits.specs.Tally.{one, tally, any}

-- ---- two tests that agree below n

module _ (f g : ℕ → Bool) where
  abbrev pub Agree : ℕ → Type 0
  Agree n = (p : ℕ) → p < n → f p ≡ g p

  pub agree_first : {n : ℕ} → Agree (suc n) → f 0 ≡ g 0
  agree_first e = e 0 (suc-le-suc zero-le)

pub agree_rest : (f g : ℕ → Bool) {n : ℕ} → Agree f g (suc n) → Agree (λ p. f (suc p)) (λ p. g (suc p)) n
agree_rest f g e p l = e (suc p) (suc-le-suc l)

pub tally_ext : (f g : ℕ → Bool) (n : ℕ) → Agree f g n → tally f n ≡ tally g n
unfolding tally
tally_ext f g zero e = refl
tally_ext f g (suc n) e =
    ap₂ (λ (a : Bool) (b : ℕ). one a + b) (agree_first f g e) (tally_ext (λ p. f (suc p)) (λ p. g (suc p)) n (agree_rest f g e))

pub any_ext : (f g : ℕ → Bool) (n : ℕ) → Agree f g n → any f n ≡ any g n
unfolding any
any_ext f g zero e = refl
any_ext f g (suc n) e =
    ap₂ (λ (a b : Bool). a || b) (agree_first f g e) (any_ext (λ p. f (suc p)) (λ p. g (suc p)) n (agree_rest f g e))

-- ---- whether there is one

pub any_at : (f : ℕ → Bool) (n q : ℕ) → q < n → f q ≡ true → any f n ≡ true
unfolding any
any_at f zero q l e = absurd (not-suc-le-zero l)
any_at f (suc n) zero l e = ap (λ (b : Bool). b || any (λ p. f (suc p)) n) e
any_at f (suc n) (suc q) l e = ap (λ (b : Bool). f 0 || b) (any_at (λ p. f (suc p)) n q (le_of_suc-le-suc l) e) ∙ or-true (f 0)

pub any_none : (f : ℕ → Bool) (n : ℕ) → any f n ≡ false → (q : ℕ) → q < n → f q ≡ false
any_none f n e q l = go (f q) refl
  where
    go : (t : Bool) → f q ≡ t → t ≡ false
    go true r = absurd (true≢false (sym (any_at f n q l r) ∙ e))
    go false r = refl

pub any_some : (f : ℕ → Bool) (n : ℕ) → any f n ≡ true → (q : ℕ) × (q < n) × (f q ≡ true)
unfolding any
any_some f zero e = absurd (true≢false (sym e))
any_some f (suc n) e = go (f 0) refl e (λ a. any_some (λ p. f (suc p)) n a)
  where
    rest : Bool
    rest = any (λ p. f (suc p)) n

    go : (t : Bool) → f 0 ≡ t → (t || rest) ≡ true → (rest ≡ true → (q : ℕ) × (q < n) × (f (suc q) ≡ true))
        → (q : ℕ) × (q < suc n) × (f q ≡ true)
    go true r _ _ = (0, suc-le-suc zero-le, r)
    go false r a later = let w = later a in (suc w.0, suc-le-suc w.1, w.2)

-- ---- a number that counted no longer counts

pub tally_less : (f g : ℕ → Bool) (n p : ℕ) → p < n → f p ≡ true → ((q : ℕ) → g q ≡ (f q && not (eqb q p))) → tally g n < tally f n
unfolding tally
tally_less f g zero p l e h = absurd (not-suc-le-zero l)
tally_less f g (suc n) zero l e h =
    let head : one (g 0) ≡ 0 = ap one (h 0 ∙ ap (λ (b : Bool). b && false) e) in
    let was : one (f 0) ≡ 1 = ap one e in
    let rest : tally (λ p. g (suc p)) n ≡ tally (λ p. f (suc p)) n =
    tally_ext (λ p. g (suc p)) (λ p. f (suc p)) n (λ q _. h (suc q) ∙ ap (λ (b : Bool). f (suc q) && not b) (eqb-suc-zero q) ∙ and-true (f (suc q))) in
    omega arith
tally_less f g (suc n) (suc p) l e h =
    let head : one (g 0) ≡ one (f 0) = ap one (h 0 ∙ ap (λ (b : Bool). f 0 && not b) (eqb-zero-suc p) ∙ and-true (f 0)) in
    let rest : tally (λ p. g (suc p)) n < tally (λ p. f (suc p)) n =
    tally_less (λ p. f (suc p)) (λ p. g (suc p)) n p (le_of_suc-le-suc l) e (λ q. h (suc q) ∙ ap (λ (b : Bool). f (suc q) && not b) (eqb-suc-suc q p)) in
    omega arith
