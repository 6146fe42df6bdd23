-- The chain of runs over a text: it gives the first tree, and says exactly whether there is another.
use Rattle.std.specs.Prelude.{◌≡◌, refl, Bool, true, false, ◌||◌, ◌⊎◌, ◌↔◌, ℕ, ◌≤◌}
use Rattle.std.proofs.Common.{sym, ◌∙◌, ap, inl, inr, arith}
use Rattle.std.proofs.lemmas.Bool.{false≢true}
use mathlib.Core.List.{List, [], ◌∷◌, ◌++◌}
use Rattle.meaning.specs.Expression.{Re, marks}
use Rattle.meaning.specs.Tree.{letter, Tree, Before, b_here, b_longer, b_next, First, Other}
use Rattle.grammar.specs.Fair.{Fair}
use Rattle.positions.specs.Alive.{ended, alive, alive_full, alive_some, at_goal, alive_on}
use Rattle.positions.specs.Best.{Less, l_here, l_pass, l_at, l_next, Compared, same, later, Rival, rival, Best}
use Rattle.positions.specs.Complete.{complete}
use Rattle.positions.specs.EnterBest.{enter_best}
use Rattle.positions.specs.Order.{before_differs}
use Rattle.positions.specs.Positions.{Out, pass, at, Resume, At, Trace, done, step, Chain, link}
use Rattle.positions.specs.ResumeBest.{resume_best}
use Rattle.positions.specs.Runs.{Run, run, out_of, enter_run, resume_run}
use Rattle.positions.specs.Sound.{walked}
use Rattle.positions.specs.Tests.{Ok, ok_at, ok_pass, feasible}
use Rattle.bits.specs.Truth.{or_left, or_right, either}

-- a whole row, and whether there is another
pub data Text : Type 0 where
  text : List ℕ → Bool → Text

abbrev pub row_in : Text → List ℕ
row_in (text r v) = r

abbrev pub other_in : Text → Bool
other_in (text r v) = v

abbrev pub chain : Run → Text → Text
chain (run ρ o w) (text r v) = text (ρ ++ r) (w || v)

abbrev pub read : ℕ → Text → Text
read c (text r v) = text (letter c ∷ r) v

-- from o: each byte, and the run from its position to one that is alive
unfoldable pub rest_run : Re → Out → List ℕ → Text
rest_run e o [] = text [] false
rest_run e pass (c ∷ s) = text [] false
rest_run e (at q) (c ∷ s) = let r = resume_run 0 0 e q (alive e s) (ended s) in read c (chain r (rest_run e (out_of r) s))

unfoldable pub text_run : Re → List ℕ → Text
text_run e s = let r = enter_run 0 0 e (alive e s) (ended s) in chain r (rest_run e (out_of r) s)

data Judged (t : Text) (r : List ℕ) : Type 0 where
  equal : row_in t ≡ r → Judged t r
  after : other_in t ≡ true → Before (row_in t) r → Judged t r

data Second (T : List ℕ → Type 0) (t : Text) : Type 0 where
  second : {r : List ℕ} → T r → Before (row_in t) r → Second T t

-- t is the first of the rows T, and says whether there is another
record Foremost (T : List ℕ → Type 0) (t : Text) : Type 0 where
  pub row : T (row_in t)
  pub least : (r : List ℕ) → T r → Judged t r
  pub seconds : other_in t ≡ true → Second T t

foremost_rows : {T U : List ℕ → Type 0} {t : Text} → ((r : List ℕ) → T r → U r) → ((r : List ℕ) → U r → T r) → Foremost T t → Foremost U t
foremost_rows to from F = record { row = to _ F.row; least = λ r u. F.least r (from r u); seconds = λ e. elim (F.seconds e) [ second x b ↦ second (to _ x) b ] }

less_before : {m k n p : ℕ} {e : Re} {ρ ρ' s r' : List ℕ} {o : Out} (r : List ℕ) → Less m k ρ ρ' o → Trace n p e o s r' → Before (ρ ++ r) (ρ' ++ r')
less_before r (l_here h) t = b_here h
less_before r (l_pass h h') done = b_longer
less_before r (l_at {t = t} h) (step {b = b} a w u) = b_here {t = t} {t' = letter b} (omega arith)
less_before r (l_next i l) t = b_next i (less_before r l t)

before_prefix : {r r' : List ℕ} (ρ : List ℕ) → Before r r' → Before (ρ ++ r) (ρ ++ r')
before_prefix [] b = b
before_prefix (t ∷ ρ) b = b_next refl (before_prefix ρ b)

-- a step and the rest
module _ (k : ℕ) (e : Re) (R : List ℕ → Out → Type 0) (s ρ : List ℕ) (o : Out) (w : Bool) (r : List ℕ) (v : Bool)
    (B : Best 0 k R (alive e s) (ended s) (run ρ o w)) (F : Foremost (Trace 0 0 e o s) (text r v)) where
  chain_same : {σ u : List ℕ} → ρ ≡ σ → Judged (text r v) u → Judged (text (ρ ++ r) (w || v)) (σ ++ u)
  chain_same i (equal i') = equal (rw (i, i'))
  chain_same i (after c l) = after (or_right w c) (rw (← i) (before_prefix ρ l))

  chain_judged : {σ u : List ℕ} {o' : Out} → Compared 0 k (run ρ o w) σ o' → Trace 0 0 e o' s u → Judged (text (ρ ++ r) (w || v)) (σ ++ u)
  chain_judged (same i i') t = chain_same i (F.least _ (rw i' t))
  chain_judged (later c l) t = after (or_left v c) (less_before r l t)

  chain_least : {u : List ℕ} → Chain 0 0 e R s u → Judged (text (ρ ++ r) (w || v)) u
  chain_least (link x t) = chain_judged (B.least _ _ x (alive_full t)) t

  second_left : Rival 0 k R (alive e s) (ended s) (run ρ o w) → Second (Chain 0 0 e R s) (text (ρ ++ r) (w || v))
  second_left (rival {o = o'} x i l) = let t = alive_some e s o' i in second (link x t.1) (less_before r l t.1)

  second_right : Second (Trace 0 0 e o s) (text r v) → Second (Chain 0 0 e R s) (text (ρ ++ r) (w || v))
  second_right (second t l) = second (link B.way t) (before_prefix ρ l)

  linked : Foremost (Chain 0 0 e R s) (text (ρ ++ r) (w || v))
  linked = record { row = link B.way F.row; least = λ u x. chain_least x; seconds = λ i. elim (either w v i) [ inl a ↦ second_left (B.rivals a) | inr a ↦ second_right (F.seconds a) ] }

chain_foremost : {k : ℕ} {e : Re} {R : List ℕ → Out → Type 0} {s : List ℕ} (r : Run) (t : Text)
    → Best 0 k R (alive e s) (ended s) r → Foremost (Trace 0 0 e (out_of r) s) t → Foremost (Chain 0 0 e R s) (chain r t)
chain_foremost (run ρ o w) (text r v) B F = linked _ _ _ _ ρ o w r v B F

-- a byte, and then what follows it
data Reads (q c : ℕ) (e : Re) (s : List ℕ) : List ℕ → Type 0 where
  then_on : {r : List ℕ} → Chain 0 0 e (Resume 0 0 e q) s r → Reads q c e s (letter c ∷ r)

read_of : {q c : ℕ} {e : Re} {s r : List ℕ} → Trace 0 0 e (at q) (c ∷ s) r → Reads q c e s r
read_of (step a w t) = then_on (link w t)

read_to : {q c : ℕ} {e : Re} {s r : List ℕ} → At 0 e q c → Chain 0 0 e (Resume 0 0 e q) s r → Trace 0 0 e (at q) (c ∷ s) (letter c ∷ r)
read_to a (link w t) = step a w t

read_judged : {t : Text} {u : List ℕ} (c : ℕ) → Judged t u → Judged (read c t) (letter c ∷ u)
read_judged {t = text r v} c (equal i) = equal (ap (λ (l : List ℕ). letter c ∷ l) i)
read_judged {t = text r v} c (after i l) = after i (b_next refl l)

then_judged : {q c : ℕ} {e : Re} {s : List ℕ} (t : Text) → Foremost (Chain 0 0 e (Resume 0 0 e q) s) t → (u : List ℕ) → Reads q c e s u → Judged (read c t) u
then_judged (text r v) F u (then_on y) = read_judged _ (F.least _ y)

read_foremost : {q c : ℕ} {e : Re} {s : List ℕ} → At 0 e q c → (t : Text) → Foremost (Chain 0 0 e (Resume 0 0 e q) s) t → Foremost (Trace 0 0 e (at q) (c ∷ s)) (read c t)
read_foremost {c = c} a (text r v) F = record {
  row = read_to a F.row;
  least = λ u x. then_judged (text r v) F u (read_of x);
  seconds = λ i. elim (F.seconds i) [ second x l ↦ second (read_to a x) (b_next refl l) ];
}

nothing_read : {e : Re} {r : List ℕ} → Trace 0 0 e pass [] r → Judged (text [] false) r
nothing_read done = equal refl

module _ (e : Re) (f : Fair e) (h : marks e ≤ 127) where
  rest_foremost : (s : List ℕ) (o : Out) → Ok (alive e s) (ended s) o → Foremost (Trace 0 0 e o s) (rest_run e o s)
  unfolding rest_run
  rest_foremost [] pass i = record { row = done; least = λ r t. nothing_read t; seconds = λ j. absurd (false≢true j) }
  rest_foremost [] (at q) (ok_at i) = unfold alive in absurd (false≢true i)
  rest_foremost (c ∷ s) pass (ok_pass i) = absurd (false≢true i)
  rest_foremost (c ∷ s) (at q) i =
      let w = alive_on e c s q (at_goal i) in
      let B = resume_best f 0 0 (omega arith) q (alive e s) (ended s) w.1 in
      read_foremost w.0 _ (chain_foremost _ _ B (rest_foremost s _ B.ok))

  -- the chain of runs gives the first tree, and says whether there is another
  text_foremost : (s : List ℕ) → feasible 0 e (alive e s) (ended s) ≡ true → Foremost (Tree 0 e s) (text_run e s)
  unfolding text_run
  text_foremost s i =
      let B = enter_best f 0 0 (omega arith) (alive e s) (ended s) i in
      foremost_rows (λ r w. walked w) (λ r t. complete 0 t) (chain_foremost _ _ B (rest_foremost s _ B.ok))

judged_first : {t : Text} {r : List ℕ} → Judged t r → (row_in t ≡ r) ⊎ Before (row_in t) r
judged_first (equal i) = inl i
judged_first (after i b) = inr b

judged_two : {t : Text} {r r' : List ℕ} → Judged t r → Judged t r' → (r ≡ r' → ⊥) → other_in t ≡ true
judged_two (equal i) (equal i') n = absurd (n (sym i ∙ i'))
judged_two (equal i) (after c b) n = c
judged_two (after c b) k n = c

module _ (e : Re) (f : Fair e) (h : marks e ≤ 127) (s : List ℕ) (i : feasible 0 e (alive e s) (ended s) ≡ true) where
  pub text_first : First e s (row_in (text_run e s))
  text_first = let F = text_foremost e f h s i in record { tree = F.row; first = λ r t. judged_first (F.least r t) }

  pub text_other : (other_in (text_run e s) ≡ true) ↔ Other e s
  text_other =
      let F = text_foremost e f h s i in (
        λ c. elim (F.seconds c) [ second x b ↦ record { one = _; two = _; tree_one = F.row; tree_two = x; apart = before_differs b } ],
        λ o. judged_two (F.least _ o.tree_one) (F.least _ o.tree_two) o.apart,
      )
