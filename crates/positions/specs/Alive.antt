-- From the end of the text backwards: the positions that can read the next byte and finish.
use Rattle.std.specs.Prelude.{◌≡◌, refl, Bool, true, false, ◌&&◌, List, [], ◌∷◌, ◌↔◌, ℕ, suc, ◌<◌, length, get_or, drop}
use Rattle.std.proofs.lemmas.Bool.{false≢true}
use Rattle.std.proofs.Math.Bool.{or-false, and-true, and-false}
use Rattle.std.proofs.Common.{arith, drop-cons}
use Rattle.meaning.specs.Expression.{Re, size}
use Rattle.positions.specs.Positions.{Out, at, Resume, At, Trace, done, step}
use Rattle.positions.specs.Sets.{reads_in}
use Rattle.positions.specs.Tests.{Ok, ok_at, ok_pass, Can, reads, ends, reaches, resumes, reads_full, reads_some, hits, reaches_some, resumes_full, resumes_some}
use Rattle.bits.specs.Truth.{and_both, both, alike}

-- no byte is left
abbrev pub ended : List ℕ → Bool
ended [] = true
ended (c ∷ s) = false

-- q can read the first byte of s and the rest can be finished
unfoldable pub alive : Re → List ℕ → ℕ → Bool
alive e [] q = false
alive e (c ∷ s) q = reads 0 e q c && resumes 0 e q (alive e s) (ended s)

none_reached : (e : Re) (q : ℕ) → reaches 0 e q (alive e []) ≡ false
unfolding alive
none_reached e q = alike _ _ (λ h. elim (reaches_some 0 0 e q (alive e []) h) [ hits w k ↦ k ]) (λ h. absurd (false≢true h))

-- the sets from the last one to the first
pub alive_last : (e : Re) (c q : ℕ) → alive e (c ∷ []) q ≡ (reads 0 e q c && ends 0 e q)
unfolding alive
alive_last e c q = rw (none_reached e q, and-true (ends 0 e q))

pub alive_more : (e : Re) (c d : ℕ) (s : List ℕ) (q : ℕ) → alive e (c ∷ d ∷ s) q ≡ (reads 0 e q c && reaches 0 e q (alive e (d ∷ s)))
alive_more e c d s q = unfold alive in rw (and-false (ends 0 e q), or-false (reaches 0 e q (alive e (d ∷ s))))

-- the same by places of a text
pub alive_at : (e : Re) (s : List ℕ) (i q : ℕ) → suc i < length s → alive e (drop i s) q ≡ (reads 0 e q (get_or s i 0) && reaches 0 e q (alive e (drop (suc i) s)))
alive_at e s i q h = rw (drop-cons s i 0 (omega arith), drop-cons s (suc i) 0 h) (alive_more e (get_or s i 0) (get_or s (suc i) 0) (drop (suc (suc i)) s) q)

pub ended_at : (s : List ℕ) (i : ℕ) → i < length s → ended (drop i s) ≡ false
ended_at s i h = rw (drop-cons s i 0 h)

-- the text s can be read from o to the end
abbrev pub Finishes : Re → Out → List ℕ → Type 0
Finishes e o s = (r : List ℕ) × Trace 0 0 e o s r

pub alive_full : {e : Re} {o : Out} {s r : List ℕ} → Trace 0 0 e o s r → Ok (alive e s) (ended s) o
unfolding alive
alive_full done = ok_pass refl
alive_full (step a w t) = ok_at (and_both (reads_full a) (resumes_full w (alive_full t)))

ok_finishes : {e : Re} (s : List ℕ) → ((q : ℕ) → alive e s q ≡ true → Finishes e (at q) s) → (o : Out) → Ok (alive e s) (ended s) o → Finishes e o s
ok_finishes [] f o (ok_pass h) = ([], done)
ok_finishes [] f o (ok_at h) = f _ h
ok_finishes (c ∷ s) f o (ok_pass h) = absurd (false≢true h)
ok_finishes (c ∷ s) f o (ok_at h) = f _ h

position_finishes : (e : Re) (s : List ℕ) (q : ℕ) → alive e s q ≡ true → Finishes e (at q) s
unfolding alive
position_finishes e [] q h = absurd (false≢true h)
position_finishes e (c ∷ s) q h =
    let i = both (reads 0 e q c) _ h in
    let w = resumes_some 0 0 e q (alive e s) (ended s) i.1 in
    (_, step (reads_some 0 e q c i.0) w.2 (ok_finishes s (position_finishes e s) _ w.3).1)

pub alive_some : (e : Re) (s : List ℕ) (o : Out) → Ok (alive e s) (ended s) o → Finishes e o s
alive_some e s o h = ok_finishes s (position_finishes e s) o h

pub at_goal : {g : ℕ → Bool} {b : Bool} {q : ℕ} → Ok g b (at q) → g q ≡ true
at_goal (ok_at h) = h

-- the alive positions are those from which the text can be read to the end
pub alive_exact : (e : Re) (s : List ℕ) (q : ℕ) → (alive e s q ≡ true) ↔ Finishes e (at q) s
alive_exact e s q = (position_finishes e s q, λ t. at_goal (alive_full t.1))

pub alive_in : (e : Re) (s : List ℕ) (q : ℕ) → alive e s q ≡ true → q < size e
unfolding alive
alive_in e [] q h = absurd (false≢true h)
alive_in e (c ∷ s) q h = let i = reads_in 0 e q c (both (reads 0 e q c) _ h).0 in omega arith

-- where position q is alive, it reads the byte, and there is a way on
pub alive_on : (e : Re) (c : ℕ) (s : List ℕ) (q : ℕ) → alive e (c ∷ s) q ≡ true → At 0 e q c × Can (Resume 0 0 e q) (alive e s) (ended s)
unfolding alive
alive_on e c s q h = let i = both (reads 0 e q c) _ h in (reads_some 0 e q c i.0, resumes_some 0 0 e q (alive e s) (ended s) i.1)
