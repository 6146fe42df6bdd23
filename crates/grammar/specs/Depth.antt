-- A pattern nests at least as deep as groups are open anywhere in it.
use Rattle.std.specs.Prelude.{◌≡◌, Bool, true, false, cond, List, [], ◌∷◌, ℕ, suc, ◌+◌, ◌≤◌, max, leb, length, take, drop}
use Rattle.std.proofs.Common.{sym, ◌∙◌, ap, arith}
use Rattle.meaning.specs.Expression.{Re}
use Rattle.meaning.specs.Grammar.{range, Pattern}
use Rattle.grammar.specs.Machine.{Sym, s_open, s_close, s_bar, s_dot, s_class, s_back, s_bad, s_plain, Kind, sign, symbol, kind}
use Rattle.grammar.specs.Machine.{Inner, n_open, n_close, n_dash, n_back, n_char, inner, Front, first, after, Acc, empty, ranges, Frame, frame}
use Rattle.grammar.specs.Machine.{Mode, m_next, m_quote, m_low, m_dash, m_dash_quote, State, ready, atom, quote, inside, dead, add}
use Rattle.grammar.specs.Machine.{act, act_bar, act_close, on_ready, on_atom, next, low, dash, high, on_inside, step, run, start, whole, read, result}
use Rattle.grammar.specs.Reads.{accepts}
use Rattle.grammar.specs.Viable.{none_read}
use Rattle.grammar.specs.Place.{seen, seen_all, seen_from}

-- how deep the whole nests at least, where the innermost list nests d deep and K are the lists around it
abbrev least : ℕ → List Frame → ℕ
least d [] = d
least d (frame f l d₀ ∷ K) = least (max d₀ (suc d)) K

least_deeper : {d d' : ℕ} (K : List Frame) → d ≤ d' → least d K ≤ least d' K
least_deeper [] h = h
least_deeper {d = d} {d' = d'} (frame f l d₀ ∷ K) h = least_deeper {d = max d₀ (suc d)} {d' = max d₀ (suc d')} K (omega arith)

least_open : (d : ℕ) (K : List Frame) → d + length K ≤ least d K
least_open d [] = omega arith
least_open d (frame f l d₀ ∷ K) = omega (arith, least_open (max d₀ (suc d)) K)

-- what is read nests at least n deep, or there is a mistake
data Over (n : ℕ) : State → Type 0 where
  in_ready : {f : Front} {l : List Re} {d : ℕ} {K : List Frame} → n ≤ least d K → Over n (ready (frame f l d) K)
  in_atom : {e : Re} {f : Front} {l : List Re} {d d₀ : ℕ} {K : List Frame} → n ≤ least (max d₀ d) K → Over n (atom e d (frame f l d₀) K)
  in_quote : {f : Front} {l : List Re} {d : ℕ} {K : List Frame} → n ≤ least d K → Over n (quote (frame f l d) K)
  in_class : {m : Mode} {f : Front} {l : List Re} {d : ℕ} {K : List Frame} → n ≤ least d K → Over n (inside m (frame f l d) K)
  in_none : Over n dead

module _ {n : ℕ} where
  deeper : (d d' : ℕ) (K : List Frame) → d ≤ d' → n ≤ least d K → n ≤ least d' K
  deeper d d' K g h = omega (arith, h, least_deeper K g)

  letter_over : {e : Re} {f : Front} {l : List Re} {d : ℕ} (K : List Frame) → n ≤ least d K → Over n (atom e 0 (frame f l d) K)
  letter_over {d = d} K h = in_atom (deeper d (max d 0) K (omega arith) h)

  close_over : (f : Front) (l : List Re) (d : ℕ) (K : List Frame) → n ≤ least d K → Over n (act_close (frame f l d) K)
  close_over f l d [] h = in_none
  close_over first [] d (frame g k d₀ ∷ K) h = in_atom h
  close_over (after a) [] d (G ∷ K) h = in_none
  close_over f (x ∷ l) d (frame g k d₀ ∷ K) h = in_atom h

  bar_over : (f : Front) (l : List Re) (d : ℕ) (K : List Frame) → n ≤ least d K → Over n (act_bar (frame f l d) K)
  bar_over f [] d K h = in_none
  bar_over f (x ∷ l) d K h = in_ready h

  act_over : (f : Front) (l : List Re) (d : ℕ) (K : List Frame) (b : ℕ) (y : Sym) → n ≤ least d K → Over n (act (frame f l d) K b y)
  act_over f l d K b s_open h = in_ready (deeper d (max d (suc 0)) K (omega arith) h)
  act_over f l d K b s_close h = close_over f l d K h
  act_over f l d K b s_bar h = bar_over f l d K h
  act_over f l d K b s_dot h = letter_over K h
  act_over f l d K b s_class h = in_class h
  act_over f l d K b s_back h = in_quote h
  act_over f l d K b s_bad h = in_none
  act_over f l d K b s_plain h = letter_over K h

  ready_over : (f : Front) (l : List Re) (d : ℕ) (K : List Frame) (b : ℕ) (k : Kind) → n ≤ least d K → Over n (on_ready (frame f l d) K b k)
  ready_over f l d K b (sign g) h = in_none
  ready_over f l d K b (symbol y) h = act_over f l d K b y h

  atom_over : (e : Re) (d : ℕ) (f : Front) (l : List Re) (d₀ : ℕ) (K : List Frame) (b : ℕ) (k : Kind) → n ≤ least (max d₀ d) K → Over n (on_atom e d (frame f l d₀) K b k)
  atom_over e d f l d₀ K b (sign g) h = in_ready h
  atom_over e d f l d₀ K b (symbol y) h = act_over f (e ∷ l) (max d₀ d) K b y h

  next_over : (c : Acc) (f : Front) (l : List Re) (d : ℕ) (K : List Frame) (b : ℕ) (i : Inner) → n ≤ least d K → Over n (next c (frame f l d) K b i)
  next_over c f l d K b n_open h = in_none
  next_over empty f l d K b n_close h = in_none
  next_over (ranges g) f l d K b n_close h = letter_over K h
  next_over c f l d K b n_dash h = in_none
  next_over c f l d K b n_back h = in_class h
  next_over c f l d K b n_char h = in_class h

  low_over : (c : Acc) (x : ℕ) (f : Front) (l : List Re) (d : ℕ) (K : List Frame) (b : ℕ) (i : Inner) → n ≤ least d K → Over n (low c x (frame f l d) K b i)
  low_over c x f l d K b n_open h = in_none
  low_over c x f l d K b n_close h = letter_over K h
  low_over c x f l d K b n_dash h = in_class h
  low_over c x f l d K b n_back h = in_class h
  low_over c x f l d K b n_char h = in_class h

  high_over : (c : Acc) (x : ℕ) (f : Front) (l : List Re) (d : ℕ) (K : List Frame) (b : ℕ) → n ≤ least d K → Over n (high c x (frame f l d) K b)
  high_over c x f l d K b h = go (leb x b)
    where
      go : (t : Bool) → Over n (cond t (inside (m_next (ranges (add c (range x b)))) (frame f l d) K) dead)
      go true = in_class h
      go false = in_none

  dash_over : (c : Acc) (x : ℕ) (f : Front) (l : List Re) (d : ℕ) (K : List Frame) (b : ℕ) (i : Inner) → n ≤ least d K → Over n (dash c x (frame f l d) K b i)
  dash_over c x f l d K b n_open h = in_none
  dash_over c x f l d K b n_close h = in_none
  dash_over c x f l d K b n_dash h = in_none
  dash_over c x f l d K b n_back h = in_class h
  dash_over c x f l d K b n_char h = high_over c x f l d K b h

  class_over : (m : Mode) (f : Front) (l : List Re) (d : ℕ) (K : List Frame) (b : ℕ) → n ≤ least d K → Over n (on_inside m (frame f l d) K b)
  class_over (m_next c) f l d K b h = next_over c f l d K b (inner b) h
  class_over (m_quote c) f l d K b h = in_class h
  class_over (m_low c x) f l d K b h = low_over c x f l d K b (inner b) h
  class_over (m_dash c x) f l d K b h = dash_over c x f l d K b (inner b) h
  class_over (m_dash_quote c x) f l d K b h = high_over c x f l d K b h

  step_over : {st : State} (b : ℕ) → Over n st → Over n (step st b)
  step_over b (in_ready {f = f} {l = l} {d = d} {K = K} h) = ready_over f l d K b (kind b) h
  step_over b (in_atom {e = e} {f = f} {l = l} {d = d} {d₀ = d₀} {K = K} h) = atom_over e d f l d₀ K b (kind b) h
  step_over b (in_quote {K = K} h) = letter_over K h
  step_over b (in_class {m = m} {f = f} {l = l} {d = d} {K = K} h) = class_over m f l d K b h
  step_over b in_none = in_none

  run_over : {st : State} (s : List ℕ) → Over n st → Over n (run st s)
  run_over [] h = h
  run_over {st = st} (b ∷ s) h = run_over {st = step st b} s (step_over b h)

  whole_over : {e : Re} {d d' : ℕ} (f : Front) (l : List Re) → n ≤ d → whole (frame f l d) ≡ read e d' → n ≤ d'
  whole_over f [] h q = none_read q
  whole_over {d = d} {d' = d'} f (x ∷ l) h q = let z : d ≡ d' = cc in omega arith

  over_result : {st : State} {e : Re} {d : ℕ} → Over n st → result st ≡ read e d → n ≤ d
  over_result (in_ready {f = f} {l = l} {K = []} h) q = whole_over f l h q
  over_result (in_ready {K = G ∷ K} h) q = none_read q
  over_result (in_atom {e = e} {f = f} {l = l} {K = []} h) q = whole_over f (e ∷ l) h q
  over_result (in_atom {K = G ∷ K} h) q = none_read q
  over_result (in_quote h) q = none_read q
  over_result (in_class h) q = none_read q
  over_result in_none q = none_read q

-- at some place of s, n groups are open
pub record Opens (s : List ℕ) (n : ℕ) : Type 0 where
  pub place : ℕ
  pub list : Frame
  pub around : List Frame
  pub inside : place ≤ length s
  pub there : seen s place ≡ ready list around
  pub many : length around ≡ n

pub opens_deep : {s : List ℕ} {n : ℕ} {e : Re} {d : ℕ} → Opens s n → Pattern s e d → n ≤ d
opens_deep {s} {n} o p = over_result (run_over (drop o.place (take (length s) s)) at_place) (ap result end ∙ accepts p)
  where
    from_list : (F : Frame) (K : List Frame) → length K ≡ n → Over n (ready F K)
    from_list (frame f l d) K h = in_ready {d = d} {K = K} (omega (arith, h, least_open d K))

    at_place : Over n (seen s o.place)
    at_place = rw o.there (from_list o.list o.around o.many)

    end : run (seen s o.place) (drop o.place (take (length s) s)) ≡ run start s
    end = sym (seen_from s o.place (length s) o.inside) ∙ seen_all s
