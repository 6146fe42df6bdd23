-- What each state of the machine has read, as parts of a pattern.
use Rattle.std.specs.Prelude.{◌≡◌, refl, Bool, true, false, cond, List, [], ◌∷◌, ◌++◌, ℕ, max, leb, eqb}
use Rattle.std.proofs.Common.{append_assoc, append-nil, arith, leb-true, eqb-true}
use Rattle.meaning.specs.Expression.{Re}
use Rattle.meaning.specs.Grammar.{one_of, range, signs, class_signs}
use Rattle.meaning.specs.Grammar.{Char, bare, quoted, Range, single, span, Class, range_one, range_more}
use Rattle.meaning.specs.Grammar.{an_atom, an_item, a_branch, fronts, a_list}
use Rattle.meaning.specs.Grammar.{Is, literal, escaped, dot, class, unit, group, once, starred, plussed, optional, item_one, item_more, front_one, front_more, lone, several}
use Rattle.grammar.specs.Machine.{Sym, s_open, s_close, s_bar, s_dot, s_class, s_back, s_bad, s_plain, Sign, is_star, is_plus, is_opt, Kind, sign, symbol, kind}
use Rattle.grammar.specs.Machine.{Inner, n_open, n_close, n_dash, n_back, n_char, inner}
use Rattle.grammar.specs.Machine.{Front, first, after, Acc, empty, ranges, Frame, frame}
use Rattle.grammar.specs.Machine.{Mode, m_next, m_quote, m_low, m_dash, m_dash_quote, State, ready, atom, quote, inside, dead}
use Rattle.grammar.specs.Machine.{start, join, chain, bar, shut, add, act, act_bar, act_close, on_ready, on_atom, next, low, dash, high, on_inside, step, run}

-- a byte and what it is
data Known : ℕ → Kind → Type 0 where
  k_open : Known 40 (symbol s_open)
  k_close : Known 41 (symbol s_close)
  k_bar : Known 124 (symbol s_bar)
  k_sign : {b : ℕ} {f : Re → Re} → Sign b f → Known b (sign f)
  k_dot : Known 46 (symbol s_dot)
  k_class : Known 91 (symbol s_class)
  k_bad : Known 93 (symbol s_bad)
  k_back : Known 92 (symbol s_back)
  k_plain : {b : ℕ} → one_of signs b ≡ false → Known b (symbol s_plain)

-- P holds of a number that is tested against x
test : {A : Type 0} (P : ℕ → A → Type 0) (b x : ℕ) (a z : A) → P x a → (eqb b x ≡ false → P b z) → P b (cond (eqb b x) a z)
test P b x a z yes-case no-case = go (eqb b x) refl
  where
    go : (t : Bool) → eqb b x ≡ t → P b (cond t a z)
    go true e = rw (eqb-true b x e) yes-case
    go false e = no-case e

known : (b : ℕ) → Known b (kind b)
unfolding kind
known b = test Known b 40 _ _ k_open λ a. test Known b 41 _ _ k_close λ c. test Known b 124 _ _ k_bar λ d. test Known b 42 _ _ (k_sign is_star) λ e.
    test Known b 43 _ _ (k_sign is_plus) λ f. test Known b 63 _ _ (k_sign is_opt) λ g. test Known b 46 _ _ k_dot λ h. test Known b 91 _ _ k_class λ i.
    test Known b 93 _ _ k_bad λ j. test Known b 92 _ _ k_back λ k. k_plain (rw (a, c, d, e, f, g, h, i, j, k))

data InnerKnown : ℕ → Inner → Type 0 where
  i_open : InnerKnown 91 n_open
  i_close : InnerKnown 93 n_close
  i_dash : InnerKnown 45 n_dash
  i_back : InnerKnown 92 n_back
  i_char : {b : ℕ} → one_of class_signs b ≡ false → InnerKnown b n_char

inner_known : (b : ℕ) → InnerKnown b (inner b)
unfolding inner
inner_known b = test InnerKnown b 91 _ _ i_open λ a. test InnerKnown b 93 _ _ i_close λ c. test InnerKnown b 45 _ _ i_dash λ d.
    test InnerKnown b 92 _ _ i_back λ e. i_char (rw (a, c, d, e))

-- The bytes of what is read: of the branches before this one, of this branch, of a list, of the lists around it and this one, of a class,
-- and of all that a state has read.
pub data FrontOf : Front → List ℕ → ℕ → Type 0 where
  no_front : FrontOf first [] 0
  some_front : {s : List ℕ} {a : Re} {d : ℕ} → Is fronts s a d → FrontOf (after a) s d

pub data ItemsOf : List Re → List ℕ → ℕ → Type 0 where
  no_items : ItemsOf [] [] 0
  more_items : {l : List Re} {s t : List ℕ} {x : Re} {d d' : ℕ} → ItemsOf l s d → Is an_item t x d' → ItemsOf (x ∷ l) (s ++ t) (max d d')

pub data FrameOf : Frame → List ℕ → Type 0 where
  frame_of : {f : Front} {l : List Re} {s t : List ℕ} {d d' : ℕ} → FrontOf f s d → ItemsOf l t d' → FrameOf (frame f l (max d d')) (s ++ t)

pub data Before : Frame → List Frame → List ℕ → Type 0 where
  base : {F : Frame} {s : List ℕ} → FrameOf F s → Before F [] s
  deep : {F G : Frame} {K : List Frame} {s t : List ℕ} → Before G K s → FrameOf F t → Before F (G ∷ K) (s ++ 40 ∷ t)

pub data AccOf : Acc → List ℕ → Type 0 where
  no_acc : AccOf empty []
  some_acc : {s : List ℕ} {f : ℕ → Bool} → Class s f → AccOf (ranges f) s

pub data ModeOf : Mode → List ℕ → Type 0 where
  o_next : {c : Acc} {s : List ℕ} → AccOf c s → ModeOf (m_next c) s
  o_quote : {c : Acc} {s : List ℕ} → AccOf c s → ModeOf (m_quote c) (s ++ 92 ∷ [])
  o_low : {c : Acc} {s t : List ℕ} {x : ℕ} → AccOf c s → Char t x → ModeOf (m_low c x) (s ++ t)
  o_dash : {c : Acc} {s t : List ℕ} {x : ℕ} → AccOf c s → Char t x → ModeOf (m_dash c x) (s ++ (t ++ 45 ∷ []))
  o_dash_quote : {c : Acc} {s t : List ℕ} {x : ℕ} → AccOf c s → Char t x → ModeOf (m_dash_quote c x) (s ++ (t ++ 45 ∷ 92 ∷ []))

pub data Inv : State → List ℕ → Type 0 where
  v_ready : {F : Frame} {K : List Frame} {s : List ℕ} → Before F K s → Inv (ready F K) s
  v_atom : {F : Frame} {K : List Frame} {s t : List ℕ} {e : Re} {d : ℕ} → Before F K s → Is an_atom t e d → Inv (atom e d F K) (s ++ t)
  v_quote : {F : Frame} {K : List Frame} {s : List ℕ} → Before F K s → Inv (quote F K) (s ++ 92 ∷ [])
  v_inside : {F : Frame} {K : List Frame} {m : Mode} {s t : List ℕ} → Before F K s → ModeOf m t → Inv (inside m F K) (s ++ 91 ∷ t)
  v_dead : {s : List ℕ} → Inv dead s

pub shut_list : {f : Front} {s t : List ℕ} {d d' : ℕ} {x : Re} → FrontOf f s d → Is a_branch t x d' → Is a_list (s ++ t) (shut f x) (max d d')
shut_list {d' = d'} no_front b = let e : max 0 d' ≡ d' = omega arith in rw e (lone b)
shut_list (some_front f) b = several f b

bar_front : {f : Front} {s t : List ℕ} {d d' : ℕ} {x : Re} → FrontOf f s d → Is a_branch t x d' → FrontOf (after (bar f x)) (s ++ (t ++ 124 ∷ [])) (max d d')
bar_front {d' = d'} no_front b = let e : max 0 d' ≡ d' = omega arith in rw e (some_front (front_one b))
bar_front (some_front f) b = some_front (front_more f b)

-- items, and a branch behind them, are a branch; so are items and one more
chain_branch : {l : List Re} {s t : List ℕ} {d d' : ℕ} {x : Re} → ItemsOf l s d → Is a_branch t x d' → Is a_branch (s ++ t) (chain l x) (max d d')
chain_branch {d' = d'} no_items b = let e : max 0 d' ≡ d' = omega arith in rw e b
chain_branch {t = u} {d' = d''} (more_items {s = s} {t = t} {d = d} {d' = d'} r i) b =
    let e : max (max d d') d'' ≡ max d (max d' d'') = omega arith in
    rw (append_assoc s t u, e) (chain_branch r (item_more i b))

pub items_branch : {l : List Re} {s : List ℕ} {d : ℕ} {x : Re} → ItemsOf (x ∷ l) s d → Is a_branch s (chain l x) d
items_branch (more_items r i) = chain_branch r (item_one i)

frame_join : {F : Frame} {s t : List ℕ} {d : ℕ} {e : Re} → FrameOf F s → Is an_item t e d → FrameOf (join F e d) (s ++ t)
frame_join {t = u} {d = d} (frame_of {s = s} {t = t} {d = d₁} {d' = d₂} f l) i =
    let e : max (max d₁ d₂) d ≡ max d₁ (max d₂ d) = omega arith in
    rw (append_assoc s t u, e) (frame_of f (more_items l i))

pub before_join : {F : Frame} {K : List Frame} {s t : List ℕ} {d : ℕ} {e : Re} → Before F K s → Is an_item t e d → Before (join F e d) K (s ++ t)
before_join (base f) i = base (frame_join f i)
before_join {t = u} (deep {s = s} {t = t} B f) i = rw (append_assoc s (40 ∷ t) u) (deep B (frame_join f i))

close_sound : {F : Frame} {K : List Frame} {s : List ℕ} → Before F K s → Inv (act_close F K) (s ++ 41 ∷ [])
close_sound (base f) = v_dead
close_sound (deep {s = s} B (frame_of no_front no_items)) = rw (append_assoc s (40 ∷ []) (41 ∷ [])) (v_atom B unit)
close_sound (deep B (frame_of (some_front f) no_items)) = v_dead
close_sound (deep {s = s} {t = t} B (frame_of f (more_items l i))) = rw (append_assoc s (40 ∷ t) (41 ∷ [])) (v_atom B (group (shut_list f (items_branch (more_items l i)))))

bar_frame : {f : Front} {s t : List ℕ} {d d' : ℕ} {x : Re} → FrontOf f s d → Is a_branch t x d' → FrameOf (frame (after (bar f x)) [] (max d d')) ((s ++ t) ++ 124 ∷ [])
bar_frame {s = s} {t = t} {d = d} {d' = d'} f b =
    let e : max (max d d') 0 ≡ max d d' = omega arith in
    rw (append_assoc s t (124 ∷ []), ← append-nil (s ++ (t ++ 124 ∷ [])), ← e) (frame_of (bar_front f b) no_items)

bar_sound : {F : Frame} {K : List Frame} {s : List ℕ} → Before F K s → Inv (act_bar F K) (s ++ 124 ∷ [])
bar_sound (base (frame_of f no_items)) = v_dead
bar_sound (base (frame_of f (more_items l i))) = v_ready (base (bar_frame f (items_branch (more_items l i))))
bar_sound (deep B (frame_of f no_items)) = v_dead
bar_sound (deep {s = s} {t = t} B (frame_of f (more_items l i))) = rw (append_assoc s (40 ∷ t) (124 ∷ [])) (v_ready (deep B (bar_frame f (items_branch (more_items l i)))))

act_sound : {F : Frame} {K : List Frame} {s : List ℕ} {b : ℕ} {y : Sym} → Before F K s → Known b (symbol y) → Inv (act F K b y) (s ++ b ∷ [])
act_sound B k_open = v_ready (deep B (frame_of no_front no_items))
act_sound B k_close = close_sound B
act_sound B k_bar = bar_sound B
act_sound B k_dot = v_atom B dot
act_sound B k_class = v_inside B (o_next no_acc)
act_sound B k_bad = v_dead
act_sound B k_back = v_quote B
act_sound B (k_plain p) = v_atom B (literal p)

ready_sound : {F : Frame} {K : List Frame} {s : List ℕ} {b : ℕ} {k : Kind} → Before F K s → Known b k → Inv (on_ready F K b k) (s ++ b ∷ [])
ready_sound {k = sign f} B h = v_dead
ready_sound {k = symbol y} B h = act_sound B h

sign_item : {t : List ℕ} {e : Re} {d b : ℕ} {f : Re → Re} → Is an_atom t e d → Sign b f → Is an_item (t ++ b ∷ []) (f e) d
sign_item a is_star = starred a
sign_item a is_plus = plussed a
sign_item a is_opt = optional a

atom_sound : {F : Frame} {K : List Frame} {s t : List ℕ} {e : Re} {d b : ℕ} {k : Kind} → Before F K s → Is an_atom t e d → Known b k → Inv (on_atom e d F K b k) ((s ++ t) ++ b ∷ [])
atom_sound {s = s} {t = t} {b = b} {k = sign f} B a (k_sign g) = rw (append_assoc s t (b ∷ [])) (v_ready (before_join B (sign_item a g)))
atom_sound {k = symbol y} B a h = act_sound (before_join B (once a)) h

acc_add : {c : Acc} {s t : List ℕ} {g : ℕ → Bool} → AccOf c s → Range t g → AccOf (ranges (add c g)) (s ++ t)
acc_add no_acc r = some_acc (range_one r)
acc_add (some_acc c) r = some_acc (range_more c r)

-- inside a class: the bracket and what the class read, then a byte
next_sound : {F : Frame} {K : List Frame} {s t : List ℕ} {c : Acc} {b : ℕ} {n : Inner} → Before F K s → AccOf c t → InnerKnown b n → Inv (next c F K b n) (s ++ 91 ∷ (t ++ b ∷ []))
next_sound B a i_open = v_dead
next_sound B no_acc i_close = v_dead
next_sound B (some_acc c) i_close = v_atom B (class c)
next_sound B a i_dash = v_dead
next_sound B a i_back = v_inside B (o_quote a)
next_sound B a (i_char p) = v_inside B (o_low a (bare p))

low_sound : {F : Frame} {K : List Frame} {s t u : List ℕ} {c : Acc} {x b : ℕ} {n : Inner}
    → Before F K s → AccOf c t → Char u x → InnerKnown b n → Inv (low c x F K b n) (s ++ 91 ∷ ((t ++ u) ++ b ∷ []))
low_sound B a r i_open = v_dead
low_sound B a r i_close = next_sound B (acc_add a (single r)) i_close
low_sound {t = t} {u = u} B a r i_dash = rw (append_assoc t u (45 ∷ [])) (v_inside B (o_dash a r))
low_sound B a r i_back = next_sound B (acc_add a (single r)) i_back
low_sound B a r (i_char p) = next_sound B (acc_add a (single r)) (i_char p)

high_sound : {F : Frame} {K : List Frame} {s t u v : List ℕ} {c : Acc} {x b : ℕ} → Before F K s → AccOf c t → Char u x → Char v b → Inv (high c x F K b) (s ++ 91 ∷ (t ++ (u ++ 45 ∷ v)))
high_sound {F} {K} {s} {t} {u} {v} {c} {x} {b} B a r r' = go (leb x b) refl
  where
    go : (q : Bool) → leb x b ≡ q → Inv (cond q (inside (m_next (ranges (add c (range x b)))) F K) dead) (s ++ 91 ∷ (t ++ (u ++ 45 ∷ v)))
    go true e = v_inside B (o_next (acc_add a (span r r' (leb-true x b e))))
    go false e = v_dead

dash_sound : {F : Frame} {K : List Frame} {s t u : List ℕ} {c : Acc} {x b : ℕ} {n : Inner}
    → Before F K s → AccOf c t → Char u x → InnerKnown b n → Inv (dash c x F K b n) (s ++ 91 ∷ ((t ++ (u ++ 45 ∷ [])) ++ b ∷ []))
dash_sound B a r i_open = v_dead
dash_sound B a r i_close = v_dead
dash_sound B a r i_dash = v_dead
dash_sound {t = t} {u = u} B a r i_back = rw (append_assoc t (u ++ 45 ∷ []) (92 ∷ []), append_assoc u (45 ∷ []) (92 ∷ [])) (v_inside B (o_dash_quote a r))
dash_sound {t = t} {u = u} {b = b} B a r (i_char p) = rw (append_assoc t (u ++ 45 ∷ []) (b ∷ []), append_assoc u (45 ∷ []) (b ∷ [])) (high_sound B a r (bare p))

inside_sound : {F : Frame} {K : List Frame} {s t : List ℕ} {m : Mode} (b : ℕ) → Before F K s → ModeOf m t → Inv (on_inside m F K b) (s ++ 91 ∷ (t ++ b ∷ []))
inside_sound b B (o_next a) = next_sound B a (inner_known b)
inside_sound b B (o_quote {s = t} a) = rw (append_assoc t (92 ∷ []) (b ∷ [])) (v_inside B (o_low a quoted))
inside_sound b B (o_low a r) = low_sound B a r (inner_known b)
inside_sound b B (o_dash a r) = dash_sound B a r (inner_known b)
inside_sound b B (o_dash_quote {s = t} {t = u} a r) = rw (append_assoc t (u ++ 45 ∷ 92 ∷ []) (b ∷ []), append_assoc u (45 ∷ 92 ∷ []) (b ∷ [])) (high_sound B a r quoted)

step_sound : {st : State} {s : List ℕ} (b : ℕ) → Inv st s → Inv (step st b) (s ++ b ∷ [])
step_sound b (v_ready B) = ready_sound B (known b)
step_sound b (v_atom B a) = atom_sound B a (known b)
step_sound b (v_quote {s = s} B) = rw (append_assoc s (92 ∷ []) (b ∷ [])) (v_atom B escaped)
step_sound b (v_inside {s = s} {t = t} B m) = rw (append_assoc s (91 ∷ t) (b ∷ [])) (inside_sound b B m)
step_sound b v_dead = v_dead

run_sound : {st : State} {s : List ℕ} (t : List ℕ) → Inv st s → Inv (run st t) (s ++ t)
run_sound {s = s} [] v = rw append-nil v
run_sound {st = st} {s = s} (b ∷ t) v = rw (append_assoc s (b ∷ []) t) at (run_sound {st = step st b} t (step_sound b v))

pub start_sound : (s : List ℕ) → Inv (run start s) s
start_sound s = run_sound s (v_ready (base (frame_of no_front no_items)))
