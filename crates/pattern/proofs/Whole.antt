-- The whole pattern: which answer the readings allow. Assumes nothing.
use mathlib.Core.Path.{◌≡◌, sym, ◌∙◌, ap, ap₂}
use mathlib.Core.List.{List, ◌++◌}
use Prim.Native.Nat.{ℕ, zero, suc, ◌-◌, ◌*◌, ◌≤◌, ◌<◌}
use native.Mathlib.Omega.{arith}
use lib.ListN.{length, get_or, drop, replicate, length-replicate}
use lib.Seq.{sets, length-sets, drop-append_seam}
use Rattle.meaning.specs.Expression.{Re, size, marks}
use Rattle.meaning.specs.Grammar.{Pattern}
use Rattle.meaning.specs.ReadPattern.{nodes, kinds, args, words, padded, read_pattern, no_parts}
use Rattle.meaning.specs.Promise.{Read, refused, accepted, not_a_pattern, nested, positions, over_marks, Accepted}
use Rattle.bits.proofs.Writing.{sets_front}
use Rattle.grammar.specs.Place.{Stops, Reading, stops_mistake}
use Rattle.grammar.specs.ByteRow.{bytes_of}
use Rattle.grammar.specs.Contract.{ListDone, Fails, fails_deep, read_done, read_short}
use Rattle.grammar.specs.Holds.{nodes_some, kinds_length, args_length, length_words}
use Rattle.pattern.specs.Answers.{pattern_parts, Blank}
use Rattle.pattern.specs.Stores.{bare_args, Stores, stores, Became, Lies, Numberable, Numbers}
use Rattle.pattern.specs.Parts.{ReadTo}
use Rattle.pattern.specs.declared.nodes.Cursor.{Cursor}
use Rattle.kinds.specs.declared.ReadPattern.{ReadPattern}
use Rattle.kinds.specs.Nodes.{kinds_of, args_of}
use Rattle.kinds.specs.Words.{words_of, Fours}
use Rattle.kinds.proofs.WordLaws.{blank_words, blank_fours}
use Rattle.pattern.proofs.Rows.{sets_stands, length_bare_args}

-- ---- rows of zeros, written from the front on

abbrev pub zeros : ℕ → List ℕ
zeros n = replicate n 0

length_zeros : (n : ℕ) → length (zeros n) ≡ n
length_zeros n = length-replicate n 0

drop_zeros : (k n : ℕ) → drop k (zeros n) ≡ zeros (n - k)
drop_zeros zero n = let e : n - 0 ≡ n = omega arith in rw e
drop_zeros (suc k) zero = let e : 0 - suc k ≡ 0 = omega arith in rw e
drop_zeros (suc k) (suc n) = let e : suc n - suc k ≡ n - k = omega arith in rw e (drop_zeros k n)

pub written_once : (n : ℕ) (l : List ℕ) → length l ≤ n → sets (zeros n) 0 l ≡ padded n l
written_once n l h = sets_front (zeros n) l (omega (arith, length_zeros n)) ∙ ap (λ (r : List ℕ). l ++ r) (drop_zeros (length l) n)

pub written_twice : {t : List ℕ} (n : ℕ) (l r : List ℕ) → t ≡ sets (zeros n) 0 l → length l ≡ length r → length l ≤ n → sets t 0 r ≡ padded n r
written_twice {t} n l r q e h =
    let q' : t ≡ padded n l = q ∙ written_once n l h in
    let long : length t ≡ n = ap length q ∙ length-sets (zeros n) 0 l ∙ length_zeros n in
    let rest : drop (length r) t ≡ zeros (n - length r) =
    ap₂ (λ (k : ℕ) (v : List ℕ). drop k v) (sym e) q'
    ∙ drop-append_seam l (zeros (n - length l))
    ∙ ap (λ (k : ℕ). zeros (n - k)) e in
    sets_front t r (omega arith) ∙ ap (λ (v : List ℕ). r ++ v) rest

-- ---- what is read of the whole

pub record Whole (s : List ℕ) (d : Cursor) (S : Stores) : Type 0 where
  pub reading : Re
  pub deep : ℕ
  pub shallow : deep ≤ 64
  pub done : ListDone s 0 d.at reading deep
  pub inside : d.at ≤ length s
  pub few : d.used < 2 * d.at
  pub used : d.used ≡ nodes reading
  pub places : d.positions ≡ size reading
  pub marked : d.marks ≡ marks reading
  pub kind : S.kind ≡ sets (zeros 1024) 0 (kinds reading)
  pub arg : S.arg ≡ sets (zeros 1024) 0 (bare_args 0 0 reading)
  pub word : words_of S.class ≡ sets (zeros 256) 0 (words reading)
  pub fours : Fours S.class

pub whole : {s : List ℕ} {P : ReadPattern} {c d : Cursor} {S : Stores} → Blank P → Became c 0 0 0 0
    → ReadTo 1 ListDone s 64 c d (stores P) S → Whole s d S
whole z b h = record {
  reading = h.reading;
  deep = h.deep;
  shallow = h.shallow;
  done = rw b.at at h.done;
  inside = h.moved.inside;
  few = omega (arith, b, h.moved);
  used = omega (arith, b, h.wrote.used);
  places = omega (arith, b, h.wrote.places);
  marked = omega (arith, b, h.wrote.marked);
  kind = rw (z.kinds, b.used) at h.wrote.kind;
  arg = rw (z.args, b.used, b.places) at h.wrote.arg;
  word = rw (z.classes, b.places, blank_words 64) at h.wrote.word;
  fours = h.wrote.fours (rw z.classes (blank_fours 64));
}

-- ---- refusals

module _ {s : List ℕ} (short : length s ≤ 512) where
  pub no_pattern : {p : ℕ} → ((i : ℕ) → i < length s → get_or s i 0 < 256) → Stops s p → Read s 4 p no_parts
  no_pattern b h = let m = stops_mistake (bytes_of s b) h in refused short (not_a_pattern m.no_pattern m.longest)

  -- a pattern that was not read nests too deep
  pub too_deep : Reading s → Fails s 65 → Read s 5 0 no_parts
  too_deep r f = refused short (nested r.whole (omega (arith, fails_deep f r.whole)))

  module _ {d : Cursor} {S : Stores} (w : Whole s d S) where
    pub cut_short : ((i : ℕ) → i < length s → get_or s i 0 < 256) → d.at < length s → get_or s d.at 0 ≡ 41 → Read s 4 d.at no_parts
    cut_short b l e = no_pattern b (read_short w.done l e)

    module _ (end : length s ≤ d.at) where
      denotes : Pattern s w.reading w.deep
      denotes = read_done w.done (omega (arith, end, w.inside))

      pub many_positions : 64 < d.positions → Read s 6 0 no_parts
      many_positions l = refused short (positions denotes w.shallow (omega (arith, l, w.places)))

      module _ (few_positions : d.positions ≤ 64) where
        pub many_marks : 64 < d.marks → Read s 7 0 no_parts
        many_marks l = refused short (over_marks denotes w.shallow (omega (arith, few_positions, w.places)) (omega (arith, l, w.marked)))

        -- ---- the pattern is read

        few_nodes : nodes w.reading ≤ 1024
        few_nodes = omega (arith, w.used, w.few, w.inside, short)

        lies : Lies S.kind S.arg 0 0 (d.used - 1) w.reading
        lies = record {
          kinds = rw w.kind (sets_stands (zeros 1024) 0 (kinds w.reading) (omega (arith, few_nodes, kinds_length w.reading, length_zeros 1024)));
          args = rw w.arg (sets_stands (zeros 1024) 0 (bare_args 0 0 w.reading) (omega (arith, few_nodes, length_bare_args 0 0 w.reading, length_zeros 1024)));
          last = omega (arith, w.used, nodes_some w.reading);
          inside = omega (arith, w.few, w.inside, short, nodes_some w.reading, w.used);
        }

        pub numberable : d.marks ≤ 64 → Numberable S.kind S.arg (d.used - 1) 0
        numberable l = record { e = w.reading; u = 0; p = 0; lies = lies; few = omega (arith, l, w.marked) }

        pub read_whole : (r : ReadPattern) {n : ℕ} → (l : d.marks ≤ 64) → kinds_of r.node ≡ S.kind → Numbers S.kind S.arg (args_of r.node) (d.used - 1) 0 n → r.class ≡ S.class
            → r.nodes ≡ d.used → r.positions ≡ d.positions → r.marks ≡ d.marks → Read s 0 0 (pattern_parts r)
        unfolding read_pattern
        read_whole r l k a c x y z = rw same (accepted all)
          where
            all : Accepted s w.reading
            all = record {
              short = short;
              depth = w.deep;
              denotes = denotes;
              nesting = w.shallow;
              few_positions = omega (arith, few_positions, w.places);
              few_marks = omega (arith, l, w.marked);
            }

            numbered : args_of r.node ≡ padded 1024 (args 0 0 0 w.reading)
            numbered =
                let bare = bare_args 0 0 w.reading in
                let full = args 0 0 0 w.reading in
                let long : length bare ≡ nodes w.reading = length_bare_args 0 0 w.reading in
                (a w.reading 0 0 lies).arg
                ∙ written_twice 1024 bare full w.arg (long ∙ sym (args_length 0 0 0 w.reading)) (omega (arith, few_nodes, long))

            same : pattern_parts r ≡ read_pattern w.reading
            same =
                rw (
                  k ∙ w.kind ∙ written_once 1024 (kinds w.reading) (omega (arith, few_nodes, kinds_length w.reading)),
                  numbered,
                  ap words_of c ∙ w.word ∙ written_once 256 (words w.reading) (omega (arith, few_positions, w.places, length_words w.reading)),
                  x ∙ w.used,
                  y ∙ w.places,
                  z ∙ w.marked,
                )
