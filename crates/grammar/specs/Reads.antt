-- The machine accepts every pattern, with what it denotes: so a pattern has one reading.
use Rattle.std.specs.Prelude.{◌≡◌, refl, Bool, true, false, ◌||◌, List, [], ◌∷◌, ◌++◌, ℕ, suc, ◌≤◌, max, eqb}
use Rattle.std.proofs.Common.{◌∙◌, ap, true≢false, arith, le-leb}
use Rattle.meaning.specs.Expression.{Re, pos}
use Rattle.meaning.specs.Grammar.{one_of, range, only, signs, class_signs}
use Rattle.meaning.specs.Grammar.{Char, bare, quoted, Range, single, span, Class, range_one, range_more}
use Rattle.meaning.specs.Grammar.{Part, an_atom, an_item, a_branch, fronts, a_list, Pattern}
use Rattle.meaning.specs.Grammar.{Is, literal, escaped, dot, class, unit, group, once, starred, plussed, optional, item_one, item_more, front_one, front_more, lone, several}
use Rattle.grammar.specs.Machine.{Sym, s_open, s_close, s_bar, s_dot, s_class, s_back, s_plain, symbol, kind, n_char, inner}
use Rattle.grammar.specs.Machine.{Front, first, after, Acc, empty, ranges, Frame, frame, m_next, m_low, m_dash, State, ready, atom, inside}
use Rattle.grammar.specs.Machine.{fresh, start, join, chain, bar, shut, add, act, step, run, Answer, read, whole, result, run_append}

-- b differs from each byte of a row
data Apart : List ℕ → ℕ → Type 0 where
  end : {b : ℕ} → Apart [] b
  with : {x b : ℕ} {l : List ℕ} → eqb b x ≡ false → Apart l b → Apart (x ∷ l) b

apart_cons : (t y : Bool) {x b : ℕ} {l : List ℕ} → eqb b x ≡ t → (t || y) ≡ false → (y ≡ false → Apart l b) → Apart (x ∷ l) b
apart_cons true y e h r = absurd (true≢false h)
apart_cons false y e h r = with e (r h)

apart : (l : List ℕ) (b : ℕ) → one_of l b ≡ false → Apart l b
apart [] b e = end
apart (x ∷ l) b e = apart_cons (eqb b x) (one_of l b) refl e (apart l b)

kind_apart : {b : ℕ} → Apart signs b → kind b ≡ symbol s_plain
unfolding kind
kind_apart (with a (with b (with c (with d (with e (with f (with g (with h (with i (with j end)))))))))) = rw (a, b, c, d, e, f, g, h, i, j)

pub plain_kind : (b : ℕ) → one_of signs b ≡ false → kind b ≡ symbol s_plain
plain_kind b e = kind_apart (apart signs b e)

inner_apart : {b : ℕ} → Apart class_signs b → inner b ≡ n_char
unfolding inner
inner_apart (with a (with b (with c (with d end)))) = rw (a, b, c, d)

pub plain_inner : (b : ℕ) → one_of class_signs b ≡ false → inner b ≡ n_char
plain_inner b e = inner_apart (apart class_signs b e)

-- an atom that no sign follows is as good as joined
pub data Settles : State → Frame → List Frame → Type 0 where
  by_sign : {F : Frame} {K : List Frame} → Settles (ready F K) F K
  by_atom : {e : Re} {d : ℕ} {F : Frame} {K : List Frame} → Settles (atom e d F K) (join F e d) K

pub settled : {st : State} {F : Frame} {K : List Frame} (b : ℕ) (y : Sym) → Settles st F K → kind b ≡ symbol y → step st b ≡ act F K b y
settled b y by_sign e = rw e refl
settled b y by_atom e = rw e refl

-- so is the low end of a range that no dash follows
pub data Ranged : State → Acc → Frame → List Frame → Type 0 where
  by_range : {c : Acc} {F : Frame} {K : List Frame} → Ranged (inside (m_next c) F K) c F K
  by_char : {c : Acc} {x : ℕ} {F : Frame} {K : List Frame} → Ranged (inside (m_low c x) F K) (ranges (add c (only x))) F K

reads_char : {st : State} {c : Acc} {F : Frame} {K : List Frame} {s : List ℕ} {x : ℕ} → Char s x → Ranged st c F K → run st s ≡ inside (m_low c x) F K
unfolding inner
reads_char {x = x} (bare p) by_range = rw (plain_inner x p) refl
reads_char {x = x} (bare p) by_char = rw (plain_inner x p) refl
reads_char quoted by_range = refl
reads_char quoted by_char = refl

reads_high : {F : Frame} {K : List Frame} {s : List ℕ} {y : ℕ} (c : Acc) (x : ℕ) → Char s y → x ≤ y → run (inside (m_dash c x) F K) s ≡ inside (m_next (ranges (add c (range x y)))) F K
unfolding inner
reads_high {y = y} c x (bare p) h = rw (plain_inner y p, le-leb x y h) refl
reads_high {y = y} c x quoted h = rw (le-leb x y h) refl

reads_range : {st : State} {c : Acc} {F : Frame} {K : List Frame} {s : List ℕ} {f : ℕ → Bool} → Range s f → Ranged st c F K → Ranged (run st s) (ranges (add c f)) F K
unfolding inner
reads_range (single r) σ = rw (reads_char r σ) by_char
reads_range {st} {c = c} (span {s = s} {t = t} {c = x} r r' h) σ = rw (run_append st s _, reads_char r σ, reads_high c x r' h) by_range

reads_class : {F : Frame} {K : List Frame} {s : List ℕ} {f : ℕ → Bool} → Class s f → Ranged (run (inside (m_next empty) F K) s) (ranges f) F K
reads_class (range_one r) = reads_range r by_range
reads_class (range_more {s = s} {t = t} c r) = rw (run_append _ s t) (reads_range r (reads_class c))

pub close_class : {st : State} {f : ℕ → Bool} {F : Frame} {K : List Frame} → Ranged st (ranges f) F K → step st 93 ≡ atom (pos f) 0 F K
unfolding inner
close_class by_range = refl
close_class by_char = refl

-- a branch read to its end, behind the branches of f, and a list so read
pub data Branches : State → Front → Re → ℕ → List Frame → Type 0 where
  branches : {st : State} {f : Front} {l : List Re} {x : Re} {d : ℕ} {K : List Frame} → Settles st (frame f (x ∷ l) d) K → Branches st f (chain l x) d K

pub data Ends : State → Re → ℕ → List Frame → Type 0 where
  ends : {st : State} {f : Front} {x : Re} {d : ℕ} {K : List Frame} → Branches st f x d K → Ends st (shut f x) d K

pub bar_branch : {st : State} {f : Front} {x : Re} {d : ℕ} {K : List Frame} → Branches st f x d K → step st 124 ≡ ready (frame (after (bar f x)) [] d) K
unfolding kind
bar_branch (branches σ) = settled 124 s_bar σ refl

pub close_list : {st : State} {e : Re} {d : ℕ} {G : Frame} {K : List Frame} → Ends st e d (G ∷ K) → step st 41 ≡ atom e (suc d) G K
unfolding kind
close_list (ends (branches σ)) = settled 41 s_close σ refl

-- what the machine makes of each part of a pattern
abbrev Claim : Part → List ℕ → Re → ℕ → Type 0
Claim an_atom s e d = (st : State) (F : Frame) (K : List Frame) → Settles st F K → run st s ≡ atom e d F K
Claim an_item s e d = (st : State) (F : Frame) (K : List Frame) → Settles st F K → Settles (run st s) (join F e d) K
Claim a_branch s e d = (st : State) (f : Front) (l : List Re) (d₀ : ℕ) (K : List Frame) → Settles st (frame f l d₀) K → Branches (run st s) f (chain l e) (max d₀ d) K
Claim fronts s e d = (K : List Frame) → run (ready fresh K) s ≡ ready (frame (after e) [] d) K
Claim a_list s e d = (K : List Frame) → Ends (run (ready fresh K) s) e d K

reads : {p : Part} {s : List ℕ} {e : Re} {d : ℕ} → Is p s e d → Claim p s e d
unfolding kind
reads (literal {b = b} p) = λ st F K σ. settled b s_plain σ (plain_kind b p)
reads (escaped {b = b}) = λ st F K σ. rw (settled 92 s_back σ refl) refl
reads dot = λ st F K σ. settled 46 s_dot σ refl
reads (class {s = s} c) = λ st F K σ. ap (λ (x : State). run x (s ++ 93 ∷ [])) (settled 91 s_class σ refl) ∙ run_append (inside (m_next empty) F K) s (93 ∷ []) ∙ close_class (reads_class c)
reads unit = λ st F K σ. rw (settled 40 s_open σ refl) refl
reads (group {s = s} p) = λ st F K σ. ap (λ (x : State). run x (s ++ 41 ∷ [])) (settled 40 s_open σ refl) ∙ run_append (ready fresh (F ∷ K)) s (41 ∷ []) ∙ close_list (reads p (F ∷ K))
reads (once a) = λ st F K σ. rw (reads a st F K σ) by_atom
reads (starred {s = s} a) = λ st F K σ. rw (run_append st s (42 ∷ []), reads a st F K σ) by_sign
reads (plussed {s = s} a) = λ st F K σ. rw (run_append st s (43 ∷ []), reads a st F K σ) by_sign
reads (optional {s = s} a) = λ st F K σ. rw (run_append st s (63 ∷ []), reads a st F K σ) by_sign
reads (item_one i) = λ st f l d₀ K σ. branches (reads i st (frame f l d₀) K σ)
reads (item_more {s = s} {t = t} {x = x} {d = d} {d' = d'} i b) = λ st f l d₀ K σ.
    let e : max d₀ (max d d') ≡ max (max d₀ d) d' = omega arith in
    rw (run_append st s t, e) (reads b (run st s) f (x ∷ l) (max d₀ d) K (reads i st (frame f l d₀) K σ))
reads (front_one {s = s} {d = d} b) = λ K.
    let e : max 0 d ≡ d = omega arith in
    rw run_append (bar_branch (rw e at (reads b (ready fresh K) first [] 0 K by_sign)))
reads (front_more {s = s} {t = t} {a = a} {d = d} f b) = λ K.
    rw (run_append (ready fresh K) s (t ++ 124 ∷ []), reads f K, run_append _ t (124 ∷ [])) (bar_branch (reads b (ready (frame (after a) [] d) K) (after a) [] d K by_sign))
reads (lone {d = d} b) = λ K.
    let e : max 0 d ≡ d = omega arith in
    ends (rw e at (reads b (ready fresh K) first [] 0 K by_sign))
reads (several {s = s} {t = t} {a = a} {d = d} f b) = λ K.
    rw (run_append (ready fresh K) s t, reads f K) (ends (reads b (ready (frame (after a) [] d) K) (after a) [] d K by_sign))

settled_result : {st : State} {F : Frame} → Settles st F [] → result st ≡ whole F
settled_result by_sign = refl
settled_result by_atom = refl

pub ends_result : {st : State} {e : Re} {d : ℕ} → Ends st e d [] → result st ≡ read e d
ends_result (ends (branches σ)) = settled_result σ

pub accepts : {s : List ℕ} {e : Re} {d : ℕ} → Pattern s e d → result (run start s) ≡ read e d
accepts p = ends_result (reads p [])

same : {a : Answer} {e e' : Re} {d d' : ℕ} → a ≡ read e d → a ≡ read e' d' → (e ≡ e') × (d ≡ d')
same p q = (cc, cc)

-- a pattern denotes one expression, and nests one depth
pub one_reading : {s : List ℕ} {e e' : Re} {d d' : ℕ} → Pattern s e d → Pattern s e' d' → (e ≡ e') × (d ≡ d')
one_reading p q = same (accepts p) (accepts q)
