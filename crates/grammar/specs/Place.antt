-- The place of a mistake: the longest beginning of a row that begins a pattern ends where the machine stops.
use Rattle.std.specs.Prelude.{◌≡◌, refl, Bool, true, false, cond, List, [], ◌∷◌, ◌⊎◌, ℕ, suc, ◌+◌, ◌≤◌, ◌<◌, length, take, drop, get_or}
use Rattle.std.proofs.Common.{sym, ◌∙◌, ap, true≢false, inl, inr, arith, add-one, take-append-drop, take-take, take-suc}
use Rattle.std.proofs.Math.Decide.{dec_le}
use Rattle.std.proofs.Math.Seq.{take-length}
use Rattle.meaning.specs.Expression.{Re}
use Rattle.meaning.specs.Grammar.{Pattern, Bytes, Viable, Longest}
use Rattle.grammar.specs.Machine.{State, ready, atom, quote, inside, dead, start, step, run, Answer, none, read, result, alive, run_append, run_dead}
use Rattle.grammar.specs.ByteRow.{bytes_take}
use Rattle.grammar.specs.Reads.{accepts}
use Rattle.grammar.specs.Viable.{alive_viable, viable_alive, none_read, accepted}

-- the state that the first i bytes of s lead to
abbrev pub seen : List ℕ → ℕ → State
seen s i = run start (take i s)

pub seen_suc : (s : List ℕ) (i : ℕ) → i < length s → seen s (i + 1) ≡ step (seen s i) (get_or s i 0)
seen_suc s i h = rw (add-one, take-suc s i 0, run_append start (take i s) (get_or s i 0 ∷ [])) refl

pub seen_all : (s : List ℕ) → seen s (length s) ≡ run start s
seen_all s = rw take-length refl

pub seen_from : (s : List ℕ) (p q : ℕ) → p ≤ q → seen s q ≡ run (seen s p) (drop p (take q s))
seen_from s p q h =
    let rest = drop p (take q s) in
    ap (run start) (sym (take-append-drop p (take q s))) ∙ run_append start (take p (take q s)) rest
    ∙ ap (λ (l : List ℕ). run (run start l) rest) (take-take p q s h)

-- from this state the machine stops at p: it dies of the byte there, or the row ends and is no pattern
pub record Halts (st : State) (s : List ℕ) (p : ℕ) : Type 0 where
  pub within : p ≤ length s
  pub live : alive (run st (take p s)) ≡ true
  pub dies : p < length s → step (run st (take p s)) (get_or s p 0) ≡ dead
  pub unfinished : p ≡ length s → result (run st (take p s)) ≡ none

abbrev pub Stops : List ℕ → ℕ → Type 0
Stops = Halts start

-- it stays dead
gone : {s : List ℕ} {p : ℕ} (q : ℕ) → Stops s p → p < q → q ≤ length s → seen s q ≡ dead
gone {s} {p} q h l g =
    seen_from s (p + 1) q (omega arith) ∙ ap (λ (st : State). run st (drop (p + 1) (take q s))) (seen_suc s p (omega arith) ∙ h.dies (omega arith))
    ∙ run_dead (drop (p + 1) (take q s))

pub stops_longest : {s : List ℕ} {p : ℕ} → Bytes s → Stops s p → Longest Viable s p
stops_longest {s} {p} b h = record { within = h.within; begins = alive_viable (take p s) (bytes_take p s b) h.live; last = last }
  where
    last : (q : ℕ) → q ≤ length s → Viable (take q s) → q ≤ p
    last q g v = elim (dec_le q p) [ yes e ↦ e | no n ↦ absurd (true≢false (sym (viable_alive (take q s) v) ∙ ap alive (gone q h (omega arith) g))) ]

pub stops_refused : {s : List ℕ} {p : ℕ} {e : Re} {d : ℕ} → Stops s p → Pattern s e d → ⊥
stops_refused {s} {p} h r = none_read (sym (elim (dec_le (length s) p) [ yes l ↦ at_end (omega (arith, h.within)) | no l ↦ before (omega arith) ]) ∙ accepts r)
  where
    at_end : p ≡ length s → result (run start s) ≡ none
    at_end e = ap result (sym (seen_all s) ∙ ap (seen s) (sym e)) ∙ h.unfinished e

    before : p < length s → result (run start s) ≡ none
    before l = ap result (sym (seen_all s) ∙ gone (length s) h l (omega arith))

pub longest_unique : {Begins : List ℕ → Type 0} {s : List ℕ} {p q : ℕ} → Longest Begins s p → Longest Begins s q → p ≡ q
longest_unique {p = p} {q} a b = omega (arith, a.last q b.within b.begins, b.last p a.within a.begins)

-- where the machine stops on a row that is no pattern
abbrev pub halt : State → List ℕ → ℕ
halt st [] = 0
halt st (b ∷ s) = cond (alive (step st b)) (suc (halt (step st b) s)) 0

abbrev pub place : List ℕ → ℕ
place = halt start

not_alive : (st : State) → alive st ≡ false → st ≡ dead
not_alive (ready F K) e = absurd (true≢false e)
not_alive (atom x d F K) e = absurd (true≢false e)
not_alive (quote F K) e = absurd (true≢false e)
not_alive (inside m F K) e = absurd (true≢false e)
not_alive dead e = refl

halts : (st : State) (s : List ℕ) → alive st ≡ true → result (run st s) ≡ none → Halts st s (halt st s)
halts st [] a n = record { within = omega arith; live = a; dies = λ l. absurd (omega arith); unfinished = λ l. n }
halts st (b ∷ s) a n = go (alive (step st b)) refl (λ e. halts (step st b) s e n)
  where
    go : (t : Bool) → alive (step st b) ≡ t → (alive (step st b) ≡ true → Halts (step st b) s (halt (step st b) s)) → Halts st (b ∷ s) (cond t (suc (halt (step st b) s)) 0)
    go false e r = record { within = omega arith; live = a; dies = λ l. not_alive (step st b) e; unfinished = λ l. absurd (omega arith) }
    go true e r =
        let h = r e in
        record { within = omega (arith, h.within); live = h.live; dies = λ l. h.dies (omega arith); unfinished = λ l. h.unfinished (omega arith) }

-- what the machine says of a row: a pattern, or none and the place
pub record Reading (s : List ℕ) : Type 0 where
  pub denotes : Re
  pub depth : ℕ
  pub whole : Pattern s denotes depth

pub record Mistake (s : List ℕ) (p : ℕ) : Type 0 where
  pub no_pattern : (e : Re) (d : ℕ) → Pattern s e d → ⊥
  pub longest : Longest Viable s p

pub stops_mistake : {s : List ℕ} {p : ℕ} → Bytes s → Stops s p → Mistake s p
stops_mistake b h = record { no_pattern = λ e d q. stops_refused h q; longest = stops_longest b h }

pub refused : (s : List ℕ) → Bytes s → result (run start s) ≡ none → Mistake s (place s)
refused s b n = stops_mistake b (halts start s refl n)

pub decide : (s : List ℕ) → Bytes s → Reading s ⊎ Mistake s (place s)
decide s b = go (result (run start s)) refl
  where
    go : (a : Answer) → result (run start s) ≡ a → Reading s ⊎ Mistake s (place s)
    go (read e d) q = inl (record { denotes = e; depth = d; whole = accepted s q })
    go none q = inr (refused s b q)
