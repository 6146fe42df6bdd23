-- A row begins a pattern exactly if the machine is alive after it; what the machine accepts is a pattern.
use Rattle.std.specs.Prelude.{◌≡◌, refl, true, List, [], ◌∷◌, ◌++◌, ◌↔◌, ℕ, suc, max}
use Rattle.std.proofs.Common.{sym, subst, true≢false, arith, le-leb, lit<}
use Rattle.meaning.specs.Expression.{Re}
use Rattle.meaning.specs.Grammar.{Is, a_list, once, Pattern, range, Bytes, no_byte, byte, Viable}
use Rattle.grammar.specs.Machine.{kind, inner}
use Rattle.grammar.specs.Machine.{Acc, empty, ranges, Frame, frame, Mode, m_next, m_quote, m_low, m_dash, m_dash_quote, State, ready, atom, quote, inside, dead}
use Rattle.grammar.specs.Machine.{start, chain, shut, add, high, step, run, none, read, whole, result, alive, run_append, run_dead}
use Rattle.grammar.specs.ByteRow.{bytes_left, bytes_right, bytes_tail, char_byte}
use Rattle.grammar.specs.Reads.{accepts}
use Rattle.grammar.specs.Sound.{no_items, more_items, items_branch, FrameOf, frame_of, Before, base, start_sound, shut_list, before_join}
use Rattle.grammar.specs.Sound.{Inv, v_ready, v_atom, v_quote, v_inside, v_dead, no_acc, some_acc, ModeOf, o_next, o_quote, o_low, o_dash, o_dash_quote}

pub none_read : {A : Type 0} {e : Re} {d : ℕ} → none ≡ read e d → A
none_read e = let z : ◌≡◌ {A = ℕ} 0 1 = cc in absurd (omega arith)

-- what the machine accepts is a pattern
same_list : {s : List ℕ} {e e' : Re} {d d' : ℕ} → Is a_list s e d → read e d ≡ read e' d' → Is a_list s e' d'
same_list {e = e} {e'} {d} {d'} p q = let x : e ≡ e' = cc in let y : d ≡ d' = cc in rw (x, y) at p

frame_list : {F : Frame} {s : List ℕ} {e : Re} {d : ℕ} → FrameOf F s → whole F ≡ read e d → Is a_list s e d
frame_list (frame_of f no_items) q = none_read q
frame_list (frame_of f (more_items l i)) q = same_list (shut_list f (items_branch (more_items l i))) q

before_list : {F : Frame} {s : List ℕ} {e : Re} {d : ℕ} → Before F [] s → whole F ≡ read e d → Is a_list s e d
before_list (base f) q = frame_list f q

inv_list : {st : State} {s : List ℕ} {e : Re} {d : ℕ} → Inv st s → result st ≡ read e d → Is a_list s e d
inv_list (v_ready {K = []} B) q = before_list B q
inv_list (v_ready {K = G ∷ K} B) q = none_read q
inv_list (v_atom {K = []} B a) q = before_list (before_join B (once a)) q
inv_list (v_atom {K = G ∷ K} B a) q = none_read q
inv_list (v_quote B) q = none_read q
inv_list (v_inside B m) q = none_read q
inv_list v_dead q = none_read q

pub accepted : {e : Re} {d : ℕ} (s : List ℕ) → result (run start s) ≡ read e d → Pattern s e d
accepted s q = inv_list (start_sound s) q

-- what is alive can be completed: by an item where one is due, the rest of a class, and a ) for each open group
pub data Accepting (st : State) : Type 0 where
  accepting : {e : Re} {d : ℕ} → result st ≡ read e d → Accepting st

abbrev closes : List Frame → List ℕ
closes [] = []
closes (G ∷ K) = 41 ∷ closes K

abbrev close_mode : Mode → List ℕ → List ℕ
close_mode (m_next empty) t = 97 ∷ 93 ∷ t
close_mode (m_next (ranges f)) t = 93 ∷ t
close_mode (m_quote c) t = 97 ∷ 93 ∷ t
close_mode (m_low c x) t = 93 ∷ t
close_mode (m_dash c x) t = 92 ∷ x ∷ 93 ∷ t
close_mode (m_dash_quote c x) t = x ∷ 93 ∷ t

abbrev fill : State → List ℕ
fill (ready F K) = 97 ∷ closes K
fill (atom e d F K) = closes K
fill (quote F K) = 97 ∷ closes K
fill (inside m F K) = close_mode m (closes K)
fill dead = []

closes_accept : (K : List Frame) (e : Re) (d : ℕ) (F : Frame) → Accepting (run (atom e d F K) (closes K))
unfolding kind
closes_accept [] e d (frame f l d₀) = accepting refl
closes_accept (G ∷ K) e d (frame f l d₀) = closes_accept K (shut f (chain l e)) (suc (max d₀ d)) G

high_accept : (c : Acc) (x : ℕ) (F : Frame) (K : List Frame) → Accepting (run (step (high c x F K x) 93) (closes K))
unfolding inner
high_accept c x F K =
    let e : high c x F K x ≡ inside (m_next (ranges (add c (range x x)))) F K = rw (le-leb x x (omega arith)) refl in
    subst (λ (st : State). Accepting (run (step st 93) (closes K))) (sym e) (closes_accept K _ _ F)

mode_accept : (m : Mode) (F : Frame) (K : List Frame) → Accepting (run (inside m F K) (close_mode m (closes K)))
unfolding inner
mode_accept (m_next empty) F K = closes_accept K _ _ F
mode_accept (m_next (ranges f)) F K = closes_accept K _ _ F
mode_accept (m_quote c) F K = closes_accept K _ _ F
mode_accept (m_low c x) F K = closes_accept K _ _ F
mode_accept (m_dash c x) F K = high_accept c x F K
mode_accept (m_dash_quote c x) F K = high_accept c x F K

fill_accepts : (st : State) → alive st ≡ true → Accepting (run st (fill st))
unfolding kind
fill_accepts (ready F K) h = closes_accept K _ _ F
fill_accepts (atom e d F K) h = closes_accept K e d F
fill_accepts (quote F K) h = closes_accept K _ _ F
fill_accepts (inside m F K) h = mode_accept m F K
fill_accepts dead h = absurd (true≢false (sym h))

-- and where the bytes read are bytes, so are these
bytes_closes : (K : List Frame) → Bytes (closes K)
bytes_closes [] = no_byte
bytes_closes (G ∷ K) = byte (lit< tt) (bytes_closes K)

bytes_mode : {m : Mode} {s t : List ℕ} → ModeOf m s → Bytes s → Bytes t → Bytes (close_mode m t)
bytes_mode (o_next no_acc) h r = byte (lit< tt) (byte (lit< tt) r)
bytes_mode (o_next (some_acc c)) h r = byte (lit< tt) r
bytes_mode (o_quote a) h r = byte (lit< tt) (byte (lit< tt) r)
bytes_mode (o_low a c) h r = byte (lit< tt) r
bytes_mode (o_dash {s = s} {t = t} a c) h r = byte (lit< tt) (byte (char_byte c (bytes_left t _ (bytes_right s h))) (byte (lit< tt) r))
bytes_mode (o_dash_quote {s = s} {t = t} a c) h r = byte (char_byte c (bytes_left t _ (bytes_right s h))) (byte (lit< tt) r)

bytes_fill : {st : State} {s : List ℕ} → Inv st s → Bytes s → Bytes (fill st)
bytes_fill (v_ready {K = K} B) h = byte (lit< tt) (bytes_closes K)
bytes_fill (v_atom {K = K} B a) h = bytes_closes K
bytes_fill (v_quote {K = K} B) h = byte (lit< tt) (bytes_closes K)
bytes_fill (v_inside {K = K} {s = s} B m) h = bytes_mode m (bytes_tail (bytes_right s h)) (bytes_closes K)
bytes_fill v_dead h = no_byte

viable_fill : (s t : List ℕ) → Bytes t → Accepting (run start (s ++ t)) → Viable s
viable_fill s t h (accepting {e = e} {d = d} q) = record { rest = t; bytes = h; denotes = e; depth = d; whole = accepted (s ++ t) q }

pub alive_viable : (s : List ℕ) → Bytes s → alive (run start s) ≡ true → Viable s
alive_viable s g h = viable_fill s (fill (run start s)) (bytes_fill (start_sound s) g) (rw (run_append start s (fill (run start s))) (fill_accepts (run start s) h))

alive_result : {e : Re} {d : ℕ} (st : State) (t : List ℕ) → result (run st t) ≡ read e d → alive st ≡ true
alive_result (ready F K) t q = refl
alive_result (atom e d F K) t q = refl
alive_result (quote F K) t q = refl
alive_result (inside m F K) t q = refl
alive_result dead t q = none_read (rw (run_dead t) at q)

pub viable_alive : (s : List ℕ) → Viable s → alive (run start s) ≡ true
viable_alive s v = alive_result (run start s) v.rest (rw (run_append start s v.rest) at (accepts v.whole))

pub alive_exactly : (s : List ℕ) → Bytes s → (alive (run start s) ≡ true) ↔ Viable s
alive_exactly s b = (alive_viable s b, viable_alive s)
