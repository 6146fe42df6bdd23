-- The extent of each mark holds the bytes of the part that has it.
use Rattle.std.specs.Prelude.{◌≡◌, ℕ, ◌+◌}
use Rattle.std.proofs.Math.Path.{refl}
use Rattle.std.proofs.Common.{sym, ◌∙◌, ap, arith, length-append}
use mathlib.Core.List.{List, [], ◌∷◌, ◌++◌, append_assoc, append-nil, Forall₂}
use Rattle.std.proofs.Math.ListN.{length}
use Rattle.meaning.specs.Expression.{Re, eps, pos, cat, alt, branch, star, plus, opt}
use Rattle.meaning.specs.Grammar.{Part, an_atom, a_branch, Pattern}
use Rattle.meaning.specs.Grammar.{Is, literal, escaped, dot, class, unit, group, once, starred, plussed, optional, item_one, item_more, front_one, front_more, lone, several}
use Rattle.grammar.specs.Machine.{Sign, is_star, is_plus, is_opt}
use Rattle.grammar.specs.Numbering.{Extent, extents}

-- the parts of e that have a mark, in the order of their numbers
unfoldable pub marked_parts : Re → List Re
marked_parts eps = []
marked_parts (pos c) = []
marked_parts (cat x y) = marked_parts x ++ marked_parts y
marked_parts (alt x y) = marked_parts x ++ marked_parts y
marked_parts (branch x) = branch x ∷ marked_parts x
marked_parts (star x) = star x ∷ marked_parts x
marked_parts (plus x) = plus x ∷ marked_parts x
marked_parts (opt x) = opt x ∷ marked_parts x

-- the bytes are a branch of a list, or an atom and its sign
pub data Spells : List ℕ → Re → Type 0 where
  as_branch : {s : List ℕ} {x : Re} {d : ℕ} → Is a_branch s x d → Spells s (branch x)
  as_item : {s : List ℕ} {e : Re} {d b : ℕ} {f : Re → Re} → Is an_atom s e d → Sign b f → Spells (s ++ b ∷ []) (f e)

-- the bytes of the row in this extent spell the part
pub record Stands (row : List ℕ) (x : Extent) (e : Re) : Type 0 where
  pub before : List ℕ
  pub bytes : List ℕ
  pub behind : List ℕ
  pub cut : row ≡ before ++ (bytes ++ behind)
  pub starts : x.from ≡ length before
  pub ends : x.to ≡ length before + length bytes
  pub spells : Spells bytes e

pairs_append : {A B : Type 0} {R : A → B → Type 0} {k l : List A} {m n : List B} → Forall₂ R k m → Forall₂ R l n → Forall₂ R (k ++ l) (m ++ n)
pairs_append Forall₂.nil r = r
pairs_append (Forall₂.cons h t) r = Forall₂.cons h (pairs_append t r)

-- the bytes s of the row start at i
record At (row : List ℕ) (i : ℕ) (s : List ℕ) : Type 0 where
  ahead : List ℕ
  later : List ℕ
  split : row ≡ ahead ++ (s ++ later)
  start : i ≡ length ahead

module _ {row : List ℕ} {i : ℕ} where
  at_left : (s t : List ℕ) → At row i (s ++ t) → At row i s
  at_left s t a = record { ahead = a.ahead; later = t ++ a.later; split = a.split ∙ ap (λ (l : List ℕ). a.ahead ++ l) (append_assoc s t a.later); start = a.start }

  at_right : (s t : List ℕ) → At row i (s ++ t) → At row (i + length s) t
  at_right s t a = record {
    ahead = a.ahead ++ s;
    later = a.later;
    split = a.split ∙ ap (λ (l : List ℕ). a.ahead ++ l) (append_assoc s t a.later) ∙ sym (append_assoc a.ahead s (t ++ a.later));
    start = simp length-append (omega (arith, a.start));
  }

  stands : {s : List ℕ} {e : Re} {x : Extent} → At row i s → x.from ≡ i → x.to ≡ i + length s → Spells s e → Stands row x e
  stands {s} a f t h = record
      { before = a.ahead; bytes = s; behind = a.later; cut = a.split; starts = f ∙ a.start; ends = omega (arith, a.start); spells = h }

module _ {row : List ℕ} where
  standing : {p : Part} {s : List ℕ} {e : Re} {d : ℕ} (i : ℕ) (q : Is p s e d) → At row i s → Forall₂ (Stands row) (extents i q) (marked_parts e)
  unfolding extents marked_parts
  standing i (literal h) a = Forall₂.nil
  standing i escaped a = Forall₂.nil
  standing i dot a = Forall₂.nil
  standing i (class c) a = Forall₂.nil
  standing i unit a = Forall₂.nil
  standing i (group {s = s} p) a = standing (i + 1) p (at_left s (41 ∷ []) (at_right (40 ∷ []) (s ++ 41 ∷ []) a))
  standing i (once q) a = standing i q a
  standing i (starred {s = s} q) a = Forall₂.cons (stands a refl refl (as_item q is_star)) (standing i q (at_left s (42 ∷ []) a))
  standing i (plussed {s = s} q) a = Forall₂.cons (stands a refl refl (as_item q is_plus)) (standing i q (at_left s (43 ∷ []) a))
  standing i (optional {s = s} q) a = Forall₂.cons (stands a refl refl (as_item q is_opt)) (standing i q (at_left s (63 ∷ []) a))
  standing i (item_one q) a = standing i q a
  standing i (item_more {s = s} {t = t} q b) a = pairs_append (standing i q (at_left s t a)) (standing (i + length s) b (at_right s t a))
  standing i (front_one {s = s} b) a = let h = at_left s (124 ∷ []) a in Forall₂.cons (stands h refl refl (as_branch b)) (standing i b h)
  standing i (front_more {s = s} {t = t} f b) a =
      let h = at_left t (124 ∷ []) (at_right s (t ++ 124 ∷ []) a) in
      pairs_append (standing i f (at_left s (t ++ 124 ∷ []) a)) (Forall₂.cons (stands h refl refl (as_branch b)) (standing (i + length s) b h))
  standing i (lone b) a = standing i b a
  standing i (several {s = s} {t = t} f b) a =
      let h = at_right s t a in
      pairs_append (standing i f (at_left s t a)) (Forall₂.cons (stands h refl refl (as_branch b)) (standing (i + length s) b h))

pub extents_stand : {s : List ℕ} {e : Re} {d : ℕ} (q : Pattern s e d) → Forall₂ (Stands s) (extents 0 q) (marked_parts e)
extents_stand {s} q = standing 0 q (record { ahead = []; later = []; split = sym (append-nil s); start = refl })
