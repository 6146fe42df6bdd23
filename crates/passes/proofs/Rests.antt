-- From the end of the text backwards, a byte at a time. Assumes nothing.
use mathlib.Core.Path.{◌≡◌, refl, sym, ap, ◌∙◌}
use mathlib.Core.Bool.{Bool, true, false, ◌&&◌, ◌||◌, and-false}
use mathlib.Core.List.{List, ◌∷◌}
use Prim.Native.Nat.{ℕ, suc, ◌+◌, ◌-◌, ◌≤◌, ◌<◌}
use native.Mathlib.Omega.{arith}
use lib.Dec.{eqb}
use lib.ListN.{length, get_or, drop, length-drop}
use lib.Seq.{drop-cons, drop-length, get_or-drop, ext_get_or}
use borrow.Author.Tests.{eqb-true, eqb-false}
use Rattle.bits.proofs.Tallies.{any_ext}
use Rattle.sets.specs.declared.set.Set.{Set}
use Rattle.sets.proofs.SetLaws.{held_long, held_at}
use Rattle.sets.specs.Members.{held, has, limit, row, rows, Stored}
use Rattle.positions.specs.Alive.{ended}
use Rattle.passes.specs.Ways.{Reversed, leading, onward, living, Backed}
use Rattle.passes.proofs.Preceding.{leading_onward}
use Rattle.passes.proofs.Visits.{none_any}

pub onward_ext : (follow : List Set) (ends : Set) (q : ℕ) (g h : ℕ → Bool) (b : Bool) → ((p : ℕ) → g p ≡ h p) → onward follow ends q g b ≡ onward follow ends q h b
unfolding onward
onward_ext follow ends q g h b e =
    ap (λ (t : Bool). t || (b && has ends q)) (any_ext (λ p. has (row follow q) p && g p) (λ p. has (row follow q) p && h p) limit (λ p _. ap (λ (t : Bool). has (row follow q) p && t) (e p)))

module _ (mask follow : List Set) (ends : Set) (text : List ℕ) where
  -- the cells from i on are done; `next` is the set of the last one that was
  pub record Going (l m : List Set) (next : Set) (i : ℕ) : Type 0 where
    pub within : i ≤ length text
    pub same_rows : rows m ≡ rows l
    pub here : (j q : ℕ) → i ≤ j → j ≤ length text → has (row m j) q ≡ living mask follow ends (drop j text) q
    pub past : (j : ℕ) → length text < j → row m j ≡ row l j
    pub front : (q : ℕ) → has next q ≡ living mask follow ends (drop i text) q

  -- r has the positions that read another byte, b, and may come before one of `next`
  pub made_more : (l pre : List Set) (next r : Set) (b i : ℕ) → ((p q : ℕ) → has (row l p) q ≡ false) → Reversed follow limit l pre → i < length text
      → ((q : ℕ) → has r q ≡ leading mask pre b (has next) q)
      → (q : ℕ) → has r q ≡ (has (row mask b) q && onward follow ends q (has next) (ended (drop i text)))
  made_more l pre next r b i none R h e q = rw (drop-cons text i 0 h) (e q ∙ leading_onward mask follow l pre ends next none R b q)

  -- one byte more
  module _ (l m m' : List Set) (next r : Set) (i : ℕ) (G : Going l m next i) (some : 0 < i)
      (made : (q : ℕ) → has r q ≡ (has (row mask (get_or text (i - 1) 0)) q && onward follow ends q (has next) (ended (drop i text)))) (S : Stored r (i - 1) m m') where
    rest : drop (i - 1) text ≡ get_or text (i - 1) 0 ∷ drop i text
    rest = let z : suc (i - 1) ≡ i = omega arith in drop-cons text (i - 1) 0 (omega (arith, G.within)) ∙ ap (λ (k : ℕ). get_or text (i - 1) 0 ∷ drop k text) z

    lives : (q : ℕ) → has r q ≡ living mask follow ends (drop (i - 1) text) q
    unfolding living
    lives q =
        rw rest
        (made q
        ∙ ap (λ (t : Bool). has (row mask (get_or text (i - 1) 0)) q && t)
        (onward_ext follow ends q (has next) (living mask follow ends (drop i text)) (ended (drop i text)) G.front))

    pub going_more : Going l m' r (i - 1)
    going_more = record {
      within = omega (arith, G.within);
      same_rows = S.same_rows ∙ G.same_rows;
      here = λ j q a b. go (eqb j (i - 1)) j refl q a b;
      past = λ j h. S.other j (λ z. omega (arith, G.within)) ∙ G.past j h;
      front = lives;
    }
      where
        go : (t : Bool) (j : ℕ) → eqb j (i - 1) ≡ t → (q : ℕ) → i - 1 ≤ j → j ≤ length text → has (row m' j) q ≡ living mask follow ends (drop j text) q
        go true j e q a b = rw (eqb-true j (i - 1) e) (ap (λ (u : Set). has u q) S.here ∙ lives q)
        go false j e q a b = let n = eqb-false j (i - 1) e in ap (λ (u : Set). has u q) (S.other j n) ∙ G.here j q (omega (arith, n)) b

  -- r has the positions that read the last byte, b, and may be the last
  made_last : (next reading r : Set) (b : ℕ) → ((q : ℕ) → has next q ≡ false) → reading ≡ row mask b → ((q : ℕ) → has r q ≡ (has reading q && has ends q))
      → (q : ℕ) → has r q ≡ (has (row mask b) q && onward follow ends q (has next) (ended (drop (length text) text)))
  unfolding onward
  made_last next reading r b none i e q =
      rw (drop-length text)
      (e q ∙ ap (λ (s : Set). has s q && has ends q) i
      ∙ ap (λ (t : Bool). has (row mask b) q && (t || has ends q))
      (sym (none_any (λ p. has (row follow q) p && has next p) limit (λ p. ap (λ (t : Bool). has (row follow q) p && t) (none p) ∙ and-false (has (row follow q) p)))))

  -- nothing lives after the text
  end_empty : (s : Set) → ((q : ℕ) → has s q ≡ false) → (q : ℕ) → has s q ≡ living mask follow ends (drop (length text) text) q
  unfolding living
  end_empty s e q = rw (drop-length text) (e q)

  module _ (l m₀ : List Set) (s : Set) (e : (q : ℕ) → has s q ≡ false) (S : Stored s (length text) l m₀) where
    pub going_none : Going m₀ m₀ s (length text)
    going_none = record {
      within = omega arith;
      same_rows = refl;
      here = λ j q a b. let z : j ≡ length text = omega arith in rw z (ap (λ (u : Set). has u q) S.here ∙ end_empty s e q);
      past = λ j h. refl;
      front = end_empty s e;
    }

    -- the last byte
    pub going_last : (m : List Set) (reading r : Set) → 0 < length text → reading ≡ row mask (get_or text (length text - 1) 0)
        → ((q : ℕ) → has r q ≡ (has reading q && has ends q)) → Stored r (length text - 1) m₀ m → Going m₀ m r (length text - 1)
    going_last m reading r some i f T = going_more m₀ m₀ m s r (length text) going_none some (made_last s reading r (get_or text (length text - 1) 0) e i f) T

    -- when no byte is left, every cell is done
    pub going_all : (m : List Set) (next : Set) (i : ℕ) → Going m₀ m next i → i ≤ 0 → Backed mask follow ends text l m
    going_all m next i G z = record {
      same_rows = G.same_rows ∙ S.same_rows;
      here = λ j q h. G.here j q (omega arith) h;
      past = λ j h. G.past j h ∙ S.other j (λ z. omega arith);
    }

-- the cells past the text are as they were
pub backed_past : {mask follow : List Set} {text : List ℕ} {ends : Set} (l m : List ℕ) → Backed mask follow ends text (held l) (held m)
    → drop (length text + 1) m ≡ drop (length text + 1) l
backed_past {text = text} l m B =
    let same : length m ≡ length l = sym (held_long m) ∙ B.same_rows ∙ held_long l in
    ext_get_or 0 (drop (length text + 1) m) (drop (length text + 1) l) (simp length-drop (omega (arith, same)))
    (λ i _.
    let j : ℕ = length text + 1 + i in
    let past : get_or m j 0 ≡ get_or l j 0 = ap (λ (s : Set). s.bits) (sym (held_at m j) ∙ B.past j (omega arith) ∙ held_at l j) in
    get_or-drop (length text + 1) m i 0 ∙ past ∙ sym (get_or-drop (length text + 1) l i 0))
