-- What a reader by recursive descent says of itself, and why: one law for each way through its code for atoms, items, branches and lists.
use Rattle.std.specs.Prelude.{◌≡◌, true, false, List, [], ◌∷◌, ℕ, suc, ◌+◌, ◌≤◌, ◌<◌, max, length, get_or}
use Rattle.std.proofs.Math.Path.{refl}
use Rattle.std.proofs.Common.{sym, ◌∙◌, ap}
use native.Mathlib.Omega.{arith}
use Rattle.meaning.specs.Expression.{Re, eps, pos, cat, alt, branch}
use Rattle.meaning.specs.Grammar.{one_of, any, only, signs, Pattern}
use Rattle.grammar.specs.Machine.{Sym, s_open, s_close, s_dot, s_back, s_bad, s_plain, Sign, symbol, kind, sign_kind}
use Rattle.grammar.specs.Machine.{Front, first, after, Frame, frame, State, ready, atom, quote, dead}
use Rattle.grammar.specs.Machine.{fresh, join, chain, act, act_close, step, none, read, result, alive}
use Rattle.grammar.specs.Reads.{Settles, by_sign, by_atom, settled, Branches, branches, bar_branch, Ends, ends, ends_result, close_list, plain_kind}
use Rattle.grammar.specs.Viable.{accepted}
use Rattle.grammar.specs.Place.{seen, seen_suc, seen_all, Stops, stops_refused}
use Rattle.grammar.specs.Depth.{Opens, opens_deep}

-- a byte that begins no atom
pub data Stray : ℕ → Type 0 where
  at_close : Stray 41
  at_bar : Stray 124
  at_bad : Stray 93
  at_sign : {b : ℕ} {f : Re → Re} → Sign b f → Stray b

-- where no atom begins at i, the machine stops at i
abbrev pub Wants : List ℕ → ℕ → Type 0
Wants s i = (i < length s → Stray (get_or s i 0)) → Stops s i

-- What the functions of such a reader say. i is where one starts and j where it ends, p the place of a mistake.
pub record AtomDone (s : List ℕ) (i j : ℕ) (e : Re) (d : ℕ) : Type 0 where
  pub reads : (F : Frame) (K : List Frame) → Settles (seen s i) F K → seen s j ≡ atom e d F K

-- an item ends at j, and a sign behind it kills
pub record PastItem (s : List ℕ) (j : ℕ) (F : Frame) (K : List Frame) : Type 0 where
  pub settles : Settles (seen s j) F K
  pub no_sign : j < length s → (f : Re → Re) → Sign (get_or s j 0) f → step (seen s j) (get_or s j 0) ≡ dead

pub record ItemDone (s : List ℕ) (i j : ℕ) (e : Re) (d : ℕ) : Type 0 where
  pub reads : (F : Frame) (K : List Frame) → Settles (seen s i) F K → PastItem s j (join F e d) K

-- of an atom
pub record AtomBad (s : List ℕ) (i p : ℕ) : Type 0 where
  pub stops : (F : Frame) (K : List Frame) → Settles (seen s i) F K → Wants s i → Stops s p

-- the machine stops somewhere, or n groups are open somewhere
pub data Fails (s : List ℕ) (n : ℕ) : Type 0 where
  mistake : {p : ℕ} → Stops s p → Fails s n
  too_deep : Opens s n → Fails s n

-- of an atom, an item or a branch, where so many groups may still be opened
pub record ItemFails (s : List ℕ) (i left : ℕ) : Type 0 where
  pub fails : (F : Frame) (K : List Frame) → Settles (seen s i) F K → Wants s i → Fails s (length K + left + 1)

-- a branch, or the rest of one behind the items l
pub record BranchDone (s : List ℕ) (i j : ℕ) (e : Re) (d : ℕ) : Type 0 where
  pub reads : (f : Front) (l : List Re) (d₀ : ℕ) (K : List Frame) → Settles (seen s i) (frame f l d₀) K → Branches (seen s j) f (chain l e) (max d₀ d) K

-- branches, up to the place past a |
pub record FrontsDone (s : List ℕ) (i j : ℕ) (a : Re) (d : ℕ) : Type 0 where
  pub reads : (K : List Frame) → seen s i ≡ ready fresh K → seen s j ≡ ready (frame (after a) [] d) K

pub record ListDone (s : List ℕ) (i j : ℕ) (e : Re) (d : ℕ) : Type 0 where
  pub reads : (K : List Frame) → seen s i ≡ ready fresh K → Ends (seen s j) e d K

-- unless it is the empty group
pub record ListFails (s : List ℕ) (i left : ℕ) : Type 0 where
  pub fails : (K : List Frame) → seen s i ≡ ready fresh K → (i < length s → get_or s i 0 ≡ 41 → K ≡ []) → Fails s (length K + left + 1)

pub settles_alive : {st : State} {F : Frame} {K : List Frame} → Settles st F K → alive st ≡ true
settles_alive by_sign = refl
settles_alive by_atom = refl

pub settles_open : {st : State} {F G : Frame} {K : List Frame} → Settles st F (G ∷ K) → result st ≡ none
settles_open by_sign = refl
settles_open by_atom = refl

ends_alive : {st : State} {e : Re} {d : ℕ} {K : List Frame} → Ends st e d K → alive st ≡ true
ends_alive (ends (branches σ)) = settles_alive σ

ends_open : {st : State} {e : Re} {d : ℕ} {G : Frame} {K : List Frame} → Ends st e d (G ∷ K) → result st ≡ none
ends_open (ends (branches σ)) = settles_open σ

ends_close : {st : State} {e : Re} {d : ℕ} → Ends st e d [] → step st 41 ≡ dead
unfolding kind
ends_close (ends (branches σ)) = settled 41 s_close σ refl

after_close : (a : Re) (d : ℕ) (K : List Frame) → act_close (frame (after a) [] d) K ≡ dead
after_close a d [] = refl
after_close a d (G ∷ K) = refl

pub sign_ready : {b : ℕ} {f : Re → Re} (F : Frame) (K : List Frame) → Sign b f → step (ready F K) b ≡ dead
sign_ready F K g = rw (sign_kind g) refl

start_open : (f : Front) (d : ℕ) (K : List Frame) → result (ready (frame f [] d) K) ≡ none
start_open f d [] = refl
start_open f d (G ∷ K) = refl

start_stray : (f : Front) (d : ℕ) (K : List Frame) (b : ℕ) → (b ≡ 41 → act_close (frame f [] d) K ≡ dead) → Stray b → step (ready (frame f [] d) K) b ≡ dead
unfolding kind
start_stray f d K b c at_close = c refl
start_stray f d K b c at_bar = refl
start_stray f d K b c at_bad = refl
start_stray f d K b c (at_sign g) = sign_ready (frame f [] d) K g

more_stray : {st : State} {F : Frame} {K : List Frame} (b : ℕ) → Settles st F K → ((f : Re → Re) → Sign b f → step st b ≡ dead) → (b ≡ 124 → ⊥) → (b ≡ 41 → ⊥) → Stray b → step st b ≡ dead
unfolding kind
more_stray b σ n x y at_close = absurd (y refl)
more_stray b σ n x y at_bar = absurd (x refl)
more_stray b σ n x y at_bad = settled 93 s_bad σ refl
more_stray b σ n x y (at_sign {f = f} g) = n f g

-- one byte on
pub on : (s : List ℕ) (i : ℕ) (st : State) (b : ℕ) → i < length s → seen s i ≡ st → get_or s i 0 ≡ b → seen s (i + 1) ≡ step st b
on s i st b h e g = seen_suc s i h ∙ cc

pub one : (s : List ℕ) (i : ℕ) (F : Frame) (K : List Frame) (y : Sym) (b : ℕ) → i < length s → Settles (seen s i) F K → get_or s i 0 ≡ b → kind b ≡ symbol y → seen s (i + 1) ≡ act F K b y
one s i F K y b h σ g e = on s i (seen s i) b h refl g ∙ settled b y σ e

-- the machine is alive and unfinished at the end of the row
pub cut_off : {s : List ℕ} (i : ℕ) (st : State) → i ≡ length s → seen s i ≡ st → alive st ≡ true → result st ≡ none → Stops s i
cut_off i st h q a n = record { within = omega arith; live = ap alive q ∙ a; dies = λ l. absurd (omega arith); unfinished = λ l. ap result q ∙ n }

fails_many : {s : List ℕ} {n m : ℕ} → Fails s n → n ≡ m → Fails s m
fails_many x e = rw e at x

-- what fails is no pattern, or nests as deep
pub fails_deep : {s : List ℕ} {n : ℕ} {e : Re} {d : ℕ} → Fails s n → Pattern s e d → n ≤ d
fails_deep (mistake h) p = absurd (stops_refused h p)
fails_deep (too_deep o) p = opens_deep o p

-- the machine dies of the byte at i
pub killed : {s : List ℕ} (i : ℕ) → i < length s → alive (seen s i) ≡ true → step (seen s i) (get_or s i 0) ≡ dead → Stops s i
killed i h a e = record { within = omega arith; live = a; dies = λ l. e; unfinished = λ l. absurd (omega arith) }

-- what the machine accepts to the end of the row
pub whole_row : {s : List ℕ} {j : ℕ} {e : Re} {d : ℕ} → j ≡ length s → result (seen s j) ≡ read e d → Pattern s e d
whole_row {s} h q = accepted s (ap result (sym (seen_all s) ∙ ap (seen s) (sym h)) ∙ q)

-- atoms
module _ (s : List ℕ) (i : ℕ) (h : i < length s) where
  pub atom_plain : one_of signs (get_or s i 0) ≡ false → AtomDone s i (i + 1) (pos (only (get_or s i 0))) 0
  atom_plain p = record { reads = λ F K σ. one s i F K s_plain _ h σ refl (plain_kind (get_or s i 0) p) }

  pub atom_dot : get_or s i 0 ≡ 46 → AtomDone s i (i + 1) (pos any) 0
  unfolding kind
  atom_dot e = record { reads = λ F K σ. one s i F K s_dot 46 h σ e refl }

  pub atom_escaped : get_or s i 0 ≡ 92 → i + 1 < length s → AtomDone s i (i + 1 + 1) (pos (only (get_or s (i + 1) 0))) 0
  unfolding kind
  atom_escaped e g = record { reads = λ F K σ. on s (i + 1) (quote F K) _ g (one s i F K s_back 92 h σ e refl) refl }

  pub atom_cut : get_or s i 0 ≡ 92 → i + 1 ≡ length s → AtomBad s i (i + 1)
  unfolding kind
  atom_cut e g = record { stops = λ F K σ w. cut_off (i + 1) (quote F K) g (one s i F K s_back 92 h σ e refl) refl refl }

  pub atom_stray : Stray (get_or s i 0) → AtomBad s i i
  atom_stray r = record { stops = λ F K σ w. w (λ l. r) }

  pub atom_unit : get_or s i 0 ≡ 40 → i + 1 < length s → get_or s (i + 1) 0 ≡ 41 → AtomDone s i (i + 1 + 1) eps 1
  unfolding kind
  atom_unit e g k = record { reads = λ F K σ. on s (i + 1) (ready fresh (F ∷ K)) 41 g (one s i F K s_open 40 h σ e refl) k }

  pub atom_group : {j : ℕ} {e : Re} {d : ℕ} → get_or s i 0 ≡ 40 → ListDone s (i + 1) j e d → j < length s → get_or s j 0 ≡ 41 → AtomDone s i (j + 1) e (suc d)
  unfolding kind
  atom_group {j} e l g k = record { reads = λ F K σ. on s j (seen s j) 41 g refl k ∙ close_list (l.reads (F ∷ K) (one s i F K s_open 40 h σ e refl)) }

  pub atom_group_fails : {left : ℕ} → get_or s i 0 ≡ 40 → (i + 1 < length s → get_or s (i + 1) 0 ≡ 41 → ⊥) → ListFails s (i + 1) left → ItemFails s i (left + 1)
  unfolding kind
  atom_group_fails {left} e n l = record {
    fails = λ F K σ w. fails_many (l.fails (F ∷ K) (one s i F K s_open 40 h σ e refl) (λ a b. absurd (n a b))) (omega arith);
  }

  pub atom_group_open : {j left : ℕ} {e : Re} {d : ℕ} → get_or s i 0 ≡ 40 → ListDone s (i + 1) j e d → j ≡ length s → ItemFails s i left
  unfolding kind
  atom_group_open {j} e l g = record {
    fails = λ F K σ w.
        let q = l.reads (F ∷ K) (one s i F K s_open 40 h σ e refl) in mistake (cut_off j (seen s j) g refl (ends_alive q) (ends_open q));
  }

  -- no group may be opened
  pub atom_deep : get_or s i 0 ≡ 40 → ItemFails s i 0
  unfolding kind
  atom_deep e = record {
    fails = λ F K σ w. too_deep (record
        { place = i + 1; list = fresh; around = F ∷ K; inside = omega arith; there = one s i F K s_open 40 h σ e refl; many = omega arith });
  }

  -- items
  pub item_signed : {from : ℕ} {e : Re} {d : ℕ} {f : Re → Re} → AtomDone s from i e d → Sign (get_or s i 0) f → ItemDone s from (i + 1) (f e) d
  item_signed {from} {e} {d} {f} a g = record {
    reads = λ F K σ.
        let q : seen s (i + 1) ≡ ready (join F (f e) d) K = on s i (atom e d F K) _ h (a.reads F K σ) refl ∙ rw (sign_kind g) refl in
        record { settles = rw q by_sign; no_sign = λ l f' r. rw q (sign_ready (join F (f e) d) K r) };
  }

pub atom_end : (s : List ℕ) (i : ℕ) → i ≡ length s → AtomBad s i i
atom_end s i h = record { stops = λ F K σ w. w (λ l. absurd (omega arith)) }

module _ {s : List ℕ} where
  pub atom_fails : {i p left : ℕ} → AtomBad s i p → ItemFails s i left
  atom_fails a = record { fails = λ F K σ w. mistake (a.stops F K σ w) }

  pub item_bare : {i j : ℕ} {e : Re} {d : ℕ} → AtomDone s i j e d → (j < length s → (f : Re → Re) → Sign (get_or s j 0) f → ⊥) → ItemDone s i j e d
  item_bare a n = record { reads = λ F K σ. record { settles = rw (a.reads F K σ) by_atom; no_sign = λ l f r. absurd (n l f r) } }

  -- branches
  pub wants_more : {F : Frame} {K : List Frame} (j : ℕ) → j < length s → (get_or s j 0 ≡ 124 → ⊥) → (get_or s j 0 ≡ 41 → ⊥) → PastItem s j F K → Wants s j
  wants_more j h x y g r = killed j h (settles_alive g.settles) (more_stray (get_or s j 0) g.settles (g.no_sign h) x y (r h))

  pub branch_one : {i j : ℕ} {e : Re} {d : ℕ} → ItemDone s i j e d → BranchDone s i j e d
  branch_one a = record { reads = λ f l d₀ K σ. branches (a.reads (frame f l d₀) K σ).settles }

  pub branch_more : {i j k : ℕ} {x y : Re} {d d' : ℕ} → ItemDone s i j x d → BranchDone s j k y d' → BranchDone s i k (cat x y) (max d d')
  branch_more {x = x} {d = d} {d' = d'} a b = record {
    reads = λ f l d₀ K σ.
        let e : max d₀ (max d d') ≡ max (max d₀ d) d' = omega arith in
        rw e (b.reads f (x ∷ l) (max d₀ d) K (a.reads (frame f l d₀) K σ).settles);
  }

  pub branch_rest_fails : {i j left : ℕ} {e : Re} {d : ℕ} → ItemDone s i j e d → j < length s → (get_or s j 0 ≡ 124 → ⊥) → (get_or s j 0 ≡ 41 → ⊥)
      → ItemFails s j left → ItemFails s i left
  branch_rest_fails {j = j} {e = e} {d = d} a h x y b = record {
    fails = λ F K σ w. let g = a.reads F K σ in b.fails (join F e d) K g.settles (wants_more j h x y g);
  }

  -- lists
  wants_start : (i : ℕ) (f : Front) (d : ℕ) (K : List Frame) → i ≤ length s → seen s i ≡ ready (frame f [] d) K
      → (i < length s → get_or s i 0 ≡ 41 → act_close (frame f [] d) K ≡ dead) → Wants s i
  wants_start i f d K h q c r = record {
    within = h;
    live = ap alive q;
    unfinished = λ l. ap result q ∙ start_open f d K;
    dies = λ l. ap (λ (st : State). step st (get_or s i 0)) q ∙ start_stray f d K (get_or s i 0) (c l) (r l);
  }

  pub fronts_first : {i j : ℕ} {e : Re} {d : ℕ} → BranchDone s i j e d → j < length s → get_or s j 0 ≡ 124 → FrontsDone s i (j + 1) (branch e) d
  fronts_first {j = j} {d = d} b h g = record {
    reads = λ K q.
        let z : max 0 d ≡ d = omega arith in
        on s j (seen s j) 124 h refl g ∙ bar_branch (rw z at (b.reads first [] 0 K (rw q by_sign)));
  }

  pub fronts_more : {i j k : ℕ} {a y : Re} {d d' : ℕ} → FrontsDone s i j a d → BranchDone s j k y d' → k < length s → get_or s k 0 ≡ 124 → FrontsDone s i (k + 1) (alt a (branch y)) (max d d')
  fronts_more {k = k} {a = a} {d = d} f b h g = record {
    reads = λ K q. on s k (seen s k) 124 h refl g ∙ bar_branch (b.reads (after a) [] d K (rw (f.reads K q) by_sign));
  }

  pub list_lone : {i j : ℕ} {e : Re} {d : ℕ} → BranchDone s i j e d → ListDone s i j e d
  list_lone {d = d} b = record { reads = λ K q. let z : max 0 d ≡ d = omega arith in ends (rw z at (b.reads first [] 0 K (rw q by_sign))) }

  pub list_several : {i j k : ℕ} {a y : Re} {d d' : ℕ} → FrontsDone s i j a d → BranchDone s j k y d' → ListDone s i k (alt a (branch y)) (max d d')
  list_several {a = a} {d = d} f b = record { reads = λ K q. ends (b.reads (after a) [] d K (rw (f.reads K q) by_sign)) }

  pub list_first_fails : {i left : ℕ} → i ≤ length s → ItemFails s i left → ListFails s i left
  list_first_fails {i} h b = record { fails = λ K q c. b.fails fresh K (rw q by_sign) (wants_start i first 0 K h q (λ l g. rw (c l g) refl)) }

  pub list_next_fails : {i j left : ℕ} {a : Re} {d : ℕ} → FrontsDone s i j a d → j ≤ length s → ItemFails s j left → ListFails s i left
  list_next_fails {j = j} {a = a} {d = d} f h b = record {
    fails = λ K q c.
        b.fails (frame (after a) [] d) K (rw (f.reads K q) by_sign) (wants_start j (after a) d K h (f.reads K q) (λ l g. after_close a d K));
  }

  -- the whole row
  pub read_done : {j : ℕ} {e : Re} {d : ℕ} → ListDone s 0 j e d → j ≡ length s → Pattern s e d
  read_done l h = whole_row h (ends_result (l.reads [] refl))

  pub read_fails : {left : ℕ} → ListFails s 0 left → Fails s (left + 1)
  read_fails l = fails_many (l.fails [] refl (λ h g. refl)) (omega arith)

  pub read_short : {j : ℕ} {e : Re} {d : ℕ} → ListDone s 0 j e d → j < length s → get_or s j 0 ≡ 41 → Stops s j
  read_short {j} l h g = let q = l.reads [] refl in killed j h (ends_alive q) (ap (step (seen s j)) g ∙ ends_close q)
