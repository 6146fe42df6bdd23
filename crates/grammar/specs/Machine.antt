-- A machine that reads a pattern byte by byte and builds the expression. It is how the laws are proved; no definition of the product names it.
use Rattle.std.specs.Prelude.{◌≡◌, refl, Bool, true, false, cond, List, [], ◌∷◌, ◌++◌, ℕ, suc, max, leb, eqb}
use Rattle.meaning.specs.Expression.{Re, eps, pos, cat, alt, branch, star, plus, opt}
use Rattle.meaning.specs.Grammar.{any, range, only, either}

-- a byte that repeats the atom before it, and how
pub data Sign : ℕ → (Re → Re) → Type 0 where
  is_star : Sign 42 star
  is_plus : Sign 43 plus
  is_opt : Sign 63 opt

-- what a byte is outside a class: such a sign, or one of ( ) | . [ \ ] and all others
pub data Sym : Type 0 where
  s_open s_close s_bar s_dot s_class s_back s_bad s_plain : Sym

pub data Kind : Type 0 where
  sign : (Re → Re) → Kind
  symbol : Sym → Kind

unfoldable pub kind : ℕ → Kind
kind b =
    cond (eqb b 40) (symbol s_open) (cond (eqb b 41) (symbol s_close) (cond (eqb b 124) (symbol s_bar)
    (cond (eqb b 42) (sign star) (cond (eqb b 43) (sign plus) (cond (eqb b 63) (sign opt)
    (cond (eqb b 46) (symbol s_dot) (cond (eqb b 91) (symbol s_class) (cond (eqb b 93) (symbol s_bad)
    (cond (eqb b 92) (symbol s_back) (symbol s_plain))))))))))

pub sign_kind : {b : ℕ} {f : Re → Re} → Sign b f → kind b ≡ sign f
unfolding kind
sign_kind is_star = refl
sign_kind is_plus = refl
sign_kind is_opt = refl

-- what a byte is inside a class: [ ] - \ and all others
pub data Inner : Type 0 where
  n_open n_close n_dash n_back n_char : Inner

unfoldable pub inner : ℕ → Inner
inner b = cond (eqb b 91) n_open (cond (eqb b 93) n_close (cond (eqb b 45) n_dash (cond (eqb b 92) n_back n_char)))

-- the branches read of this list, each with the | behind it
pub data Front : Type 0 where
  first : Front
  after : Re → Front

-- the ranges read of this class
pub data Acc : Type 0 where
  empty : Acc
  ranges : (ℕ → Bool) → Acc

-- what is read of a list but for its last atom: the branches before, the items of this branch, the last one first; and how deep that nests
pub data Frame : Type 0 where
  frame : Front → List Re → ℕ → Frame

-- where in a class the machine is: before an item, behind a \, behind the end x of an item, behind its dash, behind a \ after that
pub data Mode : Type 0 where
  m_next : Acc → Mode
  m_quote : Acc → Mode
  m_low : Acc → ℕ → Mode
  m_dash : Acc → ℕ → Mode
  m_dash_quote : Acc → ℕ → Mode

-- Where the machine is: before an item or behind a sign, behind an atom, behind a \, in a class, or past a mistake. The frames are those of
-- the list being read and of the lists around it.
pub data State : Type 0 where
  ready : Frame → List Frame → State
  atom : Re → ℕ → Frame → List Frame → State
  quote : Frame → List Frame → State
  inside : Mode → Frame → List Frame → State
  dead : State

abbrev pub fresh : Frame
fresh = frame first [] 0

abbrev pub start : State
start = ready fresh []

-- one more item; the branch of the items l and, behind them, the branch x; one more branch, with a | behind it or as the last; one more class item
abbrev pub join : Frame → Re → ℕ → Frame
join (frame f l d) e d' = frame f (e ∷ l) (max d d')

abbrev pub chain : List Re → Re → Re
chain [] x = x
chain (e ∷ l) x = chain l (cat e x)

abbrev pub bar : Front → Re → Re
bar first x = branch x
bar (after a) x = alt a (branch x)

abbrev pub shut : Front → Re → Re
shut first x = x
shut (after a) x = alt a (branch x)

abbrev pub add : Acc → (ℕ → Bool) → ℕ → Bool
add empty g = g
add (ranges f) g = either f g

-- a byte that is no sign, behind whole items
abbrev pub act_bar : Frame → List Frame → State
act_bar (frame f [] d) K = dead
act_bar (frame f (x ∷ l) d) K = ready (frame (after (bar f (chain l x))) [] d) K

abbrev pub act_close : Frame → List Frame → State
act_close F [] = dead
act_close (frame first [] d) (G ∷ K) = atom eps (suc d) G K
act_close (frame (after a) [] d) (G ∷ K) = dead
act_close (frame f (x ∷ l) d) (G ∷ K) = atom (shut f (chain l x)) (suc d) G K

abbrev pub act : Frame → List Frame → ℕ → Sym → State
act F K b s_open = ready fresh (F ∷ K)
act F K b s_close = act_close F K
act F K b s_bar = act_bar F K
act F K b s_dot = atom (pos any) 0 F K
act F K b s_class = inside (m_next empty) F K
act F K b s_back = quote F K
act F K b s_bad = dead
act F K b s_plain = atom (pos (only b)) 0 F K

abbrev pub on_ready : Frame → List Frame → ℕ → Kind → State
on_ready F K b (sign f) = dead
on_ready F K b (symbol y) = act F K b y

abbrev pub on_atom : Re → ℕ → Frame → List Frame → ℕ → Kind → State
on_atom e d F K b (sign f) = ready (join F (f e) d) K
on_atom e d F K b (symbol y) = act (join F e d) K b y

-- a byte in a class: before an item, behind the end x of one, the higher end, behind a dash
abbrev pub next : Acc → Frame → List Frame → ℕ → Inner → State
next c F K b n_open = dead
next empty F K b n_close = dead
next (ranges f) F K b n_close = atom (pos f) 0 F K
next c F K b n_dash = dead
next c F K b n_back = inside (m_quote c) F K
next c F K b n_char = inside (m_low c b) F K

abbrev pub low : Acc → ℕ → Frame → List Frame → ℕ → Inner → State
low c x F K b n_dash = inside (m_dash c x) F K
low c x F K b n_open = dead
low c x F K b n_close = atom (pos (add c (only x))) 0 F K
low c x F K b n_back = inside (m_quote (ranges (add c (only x)))) F K
low c x F K b n_char = inside (m_low (ranges (add c (only x))) b) F K

abbrev pub high : Acc → ℕ → Frame → List Frame → ℕ → State
high c x F K b = cond (leb x b) (inside (m_next (ranges (add c (range x b)))) F K) dead

abbrev pub dash : Acc → ℕ → Frame → List Frame → ℕ → Inner → State
dash c x F K b n_open = dead
dash c x F K b n_close = dead
dash c x F K b n_dash = dead
dash c x F K b n_back = inside (m_dash_quote c x) F K
dash c x F K b n_char = high c x F K b

abbrev pub on_inside : Mode → Frame → List Frame → ℕ → State
on_inside (m_next c) F K b = next c F K b (inner b)
on_inside (m_quote c) F K b = inside (m_low c b) F K
on_inside (m_low c x) F K b = low c x F K b (inner b)
on_inside (m_dash c x) F K b = dash c x F K b (inner b)
on_inside (m_dash_quote c x) F K b = high c x F K b

-- one byte; a row of bytes
abbrev pub step : State → ℕ → State
step (ready F K) b = on_ready F K b (kind b)
step (atom e d F K) b = on_atom e d F K b (kind b)
step (quote F K) b = atom (pos (only b)) 0 F K
step (inside m F K) b = on_inside m F K b
step dead b = dead

abbrev pub run : State → List ℕ → State
run st [] = st
run st (b ∷ s) = run (step st b) s

-- what the bytes read so far denote, and how deep they nest, if they are a pattern
pub data Answer : Type 0 where
  none : Answer
  read : Re → ℕ → Answer

abbrev pub whole : Frame → Answer
whole (frame f [] d) = none
whole (frame f (x ∷ l) d) = read (shut f (chain l x)) d

abbrev pub result : State → Answer
result (ready F []) = whole F
result (ready F (G ∷ K)) = none
result (atom e d F []) = whole (join F e d)
result (atom e d F (G ∷ K)) = none
result (quote F K) = none
result (inside m F K) = none
result dead = none

abbrev pub alive : State → Bool
alive (ready F K) = true
alive (atom e d F K) = true
alive (quote F K) = true
alive (inside m F K) = true
alive dead = false

pub run_append : (st : State) (s t : List ℕ) → run st (s ++ t) ≡ run (run st s) t
run_append st [] t = refl
run_append st (b ∷ s) t = run_append (step st b) s t

pub run_dead : (s : List ℕ) → run dead s ≡ dead
run_dead [] = refl
run_dead (b ∷ s) = run_dead s
