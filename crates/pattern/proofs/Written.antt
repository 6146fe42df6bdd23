-- What is written for an expression, from what is written for its parts. Assumes nothing.
use mathlib.Core.Path.{◌≡◌, refl, sym, ◌∙◌, ap, ap₂}
use mathlib.Core.Bool.{Bool}
use mathlib.Core.List.{List, [], ◌∷◌, ◌++◌}
use Prim.Native.Nat.{ℕ, suc, ◌+◌, ◌-◌, ◌*◌}
use native.Mathlib.Omega.{arith}
use lib.ListN.{set}
use lib.Seq.{sets}
use Rattle.sets.specs.declared.class.Class.{Class}
use Rattle.kinds.specs.Words.{words_of, Fours}
use Rattle.meaning.specs.Expression.{Re, eps, pos, cat, alt, branch, star, plus, opt, size, marks}
use Rattle.meaning.specs.ReadPattern.{nodes, kinds, node_of, args, words}
use Rattle.grammar.specs.Holds.{kinds_length, length_words}
use Rattle.pattern.specs.Stores.{bare_args, Stores, with_classes, Put, Became, Wrote}
use Rattle.pattern.specs.declared.nodes.Cursor.{Cursor}
use Rattle.pattern.proofs.Rows.{writes, length_bare_args}

-- ---- nodes over one part and over two

-- e is a node of kind k with a mark, over x
pub record Over (k : ℕ) (x e : Re) : Type 0 where
  pub node : nodes e ≡ suc (nodes x)
  pub place : size e ≡ size x
  pub mark : marks e ≡ suc (marks x)
  pub kind : kinds e ≡ kinds x ++ (k ∷ [])
  pub bare : (u p : ℕ) → bare_args u p e ≡ bare_args u p x ++ (0 ∷ [])
  pub arg : (u m p : ℕ) → args u m p e ≡ args u (suc m) p x ++ (suc m ∷ [])
  pub word : words e ≡ words x

pub over_branch : (x : Re) → Over 4 x (branch x)
unfolding nodes size marks kinds bare_args args words
over_branch x = record { node = refl; place = refl; mark = refl; kind = refl; bare = λ u p. refl; arg = λ u m p. refl; word = refl }

pub over_star : (x : Re) → Over 5 x (star x)
unfolding nodes size marks kinds bare_args args words
over_star x = record { node = refl; place = refl; mark = refl; kind = refl; bare = λ u p. refl; arg = λ u m p. refl; word = refl }

pub over_plus : (x : Re) → Over 6 x (plus x)
unfolding nodes size marks kinds bare_args args words
over_plus x = record { node = refl; place = refl; mark = refl; kind = refl; bare = λ u p. refl; arg = λ u m p. refl; word = refl }

pub over_opt : (x : Re) → Over 7 x (opt x)
unfolding nodes size marks kinds bare_args args words
over_opt x = record { node = refl; place = refl; mark = refl; kind = refl; bare = λ u p. refl; arg = λ u m p. refl; word = refl }

-- e is a node of kind k over x and y
pub record Both (k : ℕ) (x y e : Re) : Type 0 where
  pub node : nodes e ≡ suc (nodes x + nodes y)
  pub place : size e ≡ size x + size y
  pub mark : marks e ≡ marks x + marks y
  pub kind : kinds e ≡ kinds x ++ (kinds y ++ (k ∷ []))
  pub bare : (u p : ℕ) → bare_args u p e ≡ bare_args u p x ++ (bare_args (u + nodes x) (p + size x) y ++ (node_of u x ∷ []))
  pub arg : (u m p : ℕ) → args u m p e ≡ args u m p x ++ (args (u + nodes x) (m + marks x) (p + size x) y ++ (node_of u x ∷ []))
  pub word : words e ≡ words x ++ words y

pub both_cat : (x y : Re) → Both 2 x y (cat x y)
unfolding nodes size marks kinds bare_args args words
both_cat x y = record { node = refl; place = refl; mark = refl; kind = refl; bare = λ u p. refl; arg = λ u m p. refl; word = refl }

pub both_alt : (x y : Re) → Both 3 x y (alt x y)
unfolding nodes size marks kinds bare_args args words
both_alt x y = record { node = refl; place = refl; mark = refl; kind = refl; bare = λ u p. refl; arg = λ u m p. refl; word = refl }

-- ---- what is written

module _ {c f : Cursor} {S S' : Stores} {i : ℕ} where
  pub wrote_eps : Became f i (c.used + 1) c.positions c.marks → Put c.used 0 0 S S' → Wrote c f S S' eps
  unfolding nodes size marks kinds bare_args words
  wrote_eps b p = record { used = b.used; places = omega (arith, b.places); marked = omega (arith, b.marked); kind = p.kind; arg = p.arg; word = ap words_of p.class; fours = λ h. rw p.class h }

  pub wrote_pos : {l : List Class} (g : ℕ → Bool) → Became f i (c.used + 1) (c.positions + 1) c.marks
      → Put c.used 1 c.positions (with_classes S l) S' → words_of l ≡ sets (words_of S.class) (4 * c.positions) (words (pos g))
      → (Fours S.class → Fours l) → Wrote c f S S' (pos g)
  unfolding nodes size marks kinds bare_args
  wrote_pos g b p w y = record {
    used = b.used;
    places = b.places;
    marked = omega (arith, b.marked);
    kind = p.kind;
    arg = p.arg;
    word = ap words_of p.class ∙ w;
    fours = λ h. rw p.class (y h);
  }

pub wrote_over : {k : ℕ} {x e : Re} {c d f : Cursor} {S S₁ S' : Stores} {i : ℕ} → Over k x e → Wrote c d S S₁ x
    → Became f i (d.used + 1) d.positions (d.marks + 1) → Put d.used k 0 S₁ S' → Wrote c f S S' e
wrote_over {k} {x} {e} {c} {d} {f} {S} {S₁} o w b p = record {
  used = omega (arith, o.node, w.used, b.used);
  places = omega (arith, o.place, w.places, b.places);
  marked = omega (arith, o.mark, w.marked, b.marked);
  kind = rw o.kind (writes S.kind c.used (kinds x) (k ∷ []) w.kind p.kind (omega (arith, w.used, kinds_length x)));
  arg =
      let row = bare_args c.used c.positions x in
      rw (o.bare c.used c.positions)
      (writes S.arg c.used row (0 ∷ []) w.arg p.arg (omega (arith, w.used, length_bare_args c.used c.positions x)));
  word = rw o.word (ap words_of p.class ∙ w.word);
  fours = λ h. rw p.class (w.fours h);
}

pub wrote_both : {k : ℕ} {x y e : Re} {c d m f : Cursor} {S S₁ S₂ S' : Stores} {i : ℕ} → Both k x y e → Wrote c d S S₁ x → Wrote d m S₁ S₂ y
    → Became f i (m.used + 1) m.positions m.marks → Put m.used k (d.used - 1) S₂ S' → Wrote c f S S' e
wrote_both {k} {x} {y} {e} {c} {d} {m} {f} {S} {S₁} {S₂} {S'} o w v b p = record {
  used = omega (arith, o.node, w.used, v.used, b.used);
  places = omega (arith, o.place, w.places, v.places, b.places);
  marked = omega (arith, o.mark, w.marked, v.marked, b.marked);
  kind =
      rw o.kind
      (writes S.kind c.used (kinds x) (kinds y ++ (k ∷ [])) w.kind
      (writes S₁.kind d.used (kinds y) (k ∷ []) v.kind p.kind (v.used ∙ ap (λ (n : ℕ). d.used + n) (sym (kinds_length y))))
      (w.used ∙ ap (λ (n : ℕ). c.used + n) (sym (kinds_length x))));
  arg =
      rw (o.bare c.used c.positions)
      (writes S.arg c.used (bare_args c.used c.positions x) (right ++ (node_of c.used x ∷ [])) w.arg
      (writes S₁.arg d.used right (node_of c.used x ∷ []) (v.arg ∙ ap₂ (λ (u q : ℕ). sets S₁.arg d.used (bare_args u q y)) w.used w.places)
      (p.arg ∙ ap (λ (u : ℕ). set S₂.arg m.used (u - 1)) w.used)
      (v.used ∙ ap (λ (n : ℕ). d.used + n) (sym (length_bare_args (c.used + nodes x) (c.positions + size x) y))))
      (w.used ∙ ap (λ (n : ℕ). c.used + n) (sym (length_bare_args c.used c.positions x))));
  word =
      rw o.word
      (writes (words_of S.class) (4 * c.positions) (words x) (words y) w.word (ap words_of p.class ∙ v.word) (omega (arith, w.places, length_words x)));
  fours = λ h. rw p.class (v.fours (w.fours h));
}
  where
    right : List ℕ
    right = bare_args (c.used + nodes x) (c.positions + size x) y

-- ---- cursors that count the same

pub wrote_from : {c c' d : Cursor} {S S' : Stores} {e : Re} {i : ℕ} → Became c' i c.used c.positions c.marks → Wrote c' d S S' e → Wrote c d S S' e
wrote_from b w = record {
  used = omega (arith, b.used, w.used);
  places = omega (arith, b.places, w.places);
  marked = omega (arith, b.marked, w.marked);
  kind = rw b.used at w.kind;
  arg = rw (b.used, b.places) at w.arg;
  word = rw b.places at w.word;
  fours = w.fours;
}

pub wrote_to : {c d f : Cursor} {S S' : Stores} {e : Re} {i : ℕ} → Became f i d.used d.positions d.marks → Wrote c d S S' e → Wrote c f S S' e
wrote_to b w = record {
  used = b.used ∙ w.used;
  places = b.places ∙ w.places;
  marked = b.marked ∙ w.marked;
  kind = w.kind;
  arg = w.arg;
  word = w.word;
  fours = w.fours;
}
