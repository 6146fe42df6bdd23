-- The numbering of marks: in the order in which the marks of an expression are numbered, their parts start later and later, and of two parts
-- with the same start the outer one comes first.
use Rattle.std.specs.Prelude.{◌≡◌, refl, List, [], ◌∷◌, ◌++◌, ℕ, suc, ◌+◌, ◌≤◌, ◌<◌, length}
use Rattle.std.proofs.Common.{ap, ap₂, arith, length-append}
use Rattle.meaning.specs.Expression.{Re, marks}
use Rattle.meaning.specs.Grammar.{Part, Is, literal, escaped, dot, class, unit, group, once, starred, plussed, optional, item_one, item_more, front_one, front_more, lone, several, Pattern}
use Rattle.grammar.specs.Bounds.{small}
use Rattle.grammar.specs.Each.{Each, each_none, each_more, each_map, each_append}

-- the bytes from `from` up to but not with `to`
pub record Extent : Type 0 where
  pub from : ℕ
  pub to : ℕ

abbrev pub extent : ℕ → ℕ → Extent
extent i j = record { from = i; to = j }

-- The extents of the marked parts, in the order of their numbers, where the part read starts at byte i: a branch of a list, and an item with
-- its sign, stand before the marked parts that they hold.
unfoldable pub extents : {p : Part} {s : List ℕ} {e : Re} {d : ℕ} → ℕ → Is p s e d → List Extent
extents i (literal h) = []
extents i escaped = []
extents i dot = []
extents i (class c) = []
extents i unit = []
extents i (group p) = extents (i + 1) p
extents i (once a) = extents i a
extents i (starred {s = s} a) = extent i (i + length (s ++ 42 ∷ [])) ∷ extents i a
extents i (plussed {s = s} a) = extent i (i + length (s ++ 43 ∷ [])) ∷ extents i a
extents i (optional {s = s} a) = extent i (i + length (s ++ 63 ∷ [])) ∷ extents i a
extents i (item_one a) = extents i a
extents i (item_more {s = s} a b) = extents i a ++ extents (i + length s) b
extents i (front_one {s = s} b) = extent i (i + length s) ∷ extents i b
extents i (front_more {s = s} {t = t} f b) = extents i f ++ (extent (i + length s) (i + length s + length t) ∷ extents (i + length s) b)
extents i (lone b) = extents i b
extents i (several {s = s} {t = t} f b) = extents i f ++ (extent (i + length s) (i + length s + length t) ∷ extents (i + length s) b)

-- each mark has one
pub extents_marks : {p : Part} {s : List ℕ} {e : Re} {d : ℕ} (i : ℕ) (q : Is p s e d) → length (extents i q) ≡ marks e
unfolding extents marks
extents_marks i (literal h) = refl
extents_marks i escaped = refl
extents_marks i dot = refl
extents_marks i (class c) = refl
extents_marks i unit = refl
extents_marks i (group p) = extents_marks (i + 1) p
extents_marks i (once a) = extents_marks i a
extents_marks i (starred a) = ap suc (extents_marks i a)
extents_marks i (plussed a) = ap suc (extents_marks i a)
extents_marks i (optional a) = ap suc (extents_marks i a)
extents_marks i (item_one a) = extents_marks i a
extents_marks i (item_more {s = s} a b) = simp length-append (ap₂ ◌+◌ (extents_marks i a) (extents_marks (i + length s) b))
extents_marks i (front_one b) = ap suc (extents_marks i b)
extents_marks i (front_more {s = s} f b) = simp length-append (ap₂ ◌+◌ (extents_marks i f) (ap suc (extents_marks (i + length s) b)))
extents_marks i (lone b) = extents_marks i b
extents_marks i (several {s = s} f b) = simp length-append (ap₂ ◌+◌ (extents_marks i f) (ap suc (extents_marks (i + length s) b)))

-- x starts no later than y, and if they start together x holds y
pub record Leads (x y : Extent) : Type 0 where
  pub starts : x.from ≤ y.from
  pub holds : x.from ≡ y.from → y.to ≤ x.to

-- each leads all that come after it
pub data Ordered : List Extent → Type 0 where
  ordered_none : Ordered []
  ordered_more : {x : Extent} {l : List Extent} → Each (Leads x) l → Ordered l → Ordered (x ∷ l)

-- x holds a byte, and lies in the bytes from i up to j
pub record Lies (i j : ℕ) (x : Extent) : Type 0 where
  pub from_in : i ≤ x.from
  pub some : x.from < x.to
  pub to_in : x.to ≤ j

-- rows of extents in one stretch of bytes, then in the next
ordered_append : {i j k : ℕ} {l m : List Extent} → Each (Lies i j) l → Ordered l → Each (Lies j k) m → Ordered m → Ordered (l ++ m)
ordered_append each_none ordered_none h o = o
ordered_append (each_more p r) (ordered_more g o) h o' =
    ordered_more (each_append g (each_map (λ y q. record { starts = omega arith; holds = λ e. absurd (omega arith) }) h)) (ordered_append r o h o')

record Good (i j : ℕ) (l : List Extent) : Type 0 where
  inside : Each (Lies i j) l
  ordered : Ordered l

wider : {i j k n : ℕ} {l : List Extent} → i ≤ j → k ≤ n → Good j k l → Good i n l
wider h g r = record { inside = each_map (λ x q. record { from_in = omega arith; some = omega arith; to_in = omega arith }) r.inside; ordered = r.ordered }

join : {i j k : ℕ} {l m : List Extent} → i ≤ j → j ≤ k → Good i j l → Good j k m → Good i k (l ++ m)
join h g a b = record { inside = each_append (wider (omega arith) g a).inside (wider h (omega arith) b).inside; ordered = ordered_append a.inside a.ordered b.inside b.ordered }

-- a marked part and what it holds
under : {i j k : ℕ} {l : List Extent} → i < k → j ≤ k → Good i j l → Good i k (extent i k ∷ l)
under {i} {j} {k} h g r = record {
  inside = each_more {x = extent i k} (record { from_in = omega arith; some = h; to_in = omega arith }) (wider {i = i} {n = k} (omega arith) g r).inside;
  ordered = ordered_more {x = extent i k} (each_map (λ x q. record { starts = q.from_in; holds = λ e. omega arith }) r.inside) r.ordered;
}

-- a part has a byte
full : {p : Part} {s : List ℕ} {e : Re} {d : ℕ} → Is p s e d → 1 ≤ length s
full q = omega (arith, (small q).few_marks)

good_none : {i j : ℕ} → Good i j []
good_none = record { inside = each_none; ordered = ordered_none }

-- with its sign
signed : {i : ℕ} {l : List Extent} (b : ℕ) (s : List ℕ) → Good i (i + length s) l → Good i (i + length (s ++ b ∷ [])) (extent i (i + length (s ++ b ∷ [])) ∷ l)
signed {i} b s r = under (simp length-append (omega arith)) (simp length-append (omega arith)) r

-- a branch behind others
beside : {i j k : ℕ} {l m : List Extent} → i ≤ j → j < k → Good i j l → Good j k m → Good i k (l ++ (extent j k ∷ m))
beside h g a b = join h (omega arith) a (under g (omega arith) b)

good : {p : Part} {s : List ℕ} {e : Re} {d : ℕ} (i : ℕ) (q : Is p s e d) → Good i (i + length s) (extents i q)
unfolding extents
good i (literal h) = good_none
good i escaped = good_none
good i dot = good_none
good i (class c) = good_none
good i unit = good_none
good i (group {s = s} p) = wider (omega arith) (simp length-append (omega arith)) (good (i + 1) p)
good i (once a) = good i a
good i (starred {s = s} a) = signed 42 s (good i a)
good i (plussed {s = s} a) = signed 43 s (good i a)
good i (optional {s = s} a) = signed 63 s (good i a)
good i (item_one a) = good i a
good i (item_more {s = s} {t = t} a b) = wider (omega arith) (simp length-append (omega arith)) (join (omega arith) (omega arith) (good i a) (good (i + length s) b))
good i (front_one {s = s} b) = wider (omega arith) (simp length-append (omega arith)) (under (omega (arith, full b)) (omega arith) (good i b))
good i (front_more {s = s} {t = t} f b) = wider (omega arith) (simp length-append (omega arith)) (beside (omega arith) (omega (arith, full b)) (good i f) (good (i + length s) b))
good i (lone b) = good i b
good i (several {s = s} {t = t} f b) = wider (omega arith) (simp length-append (omega arith)) (beside (omega arith) (omega (arith, full b)) (good i f) (good (i + length s) b))

pub extents_inside : {s : List ℕ} {e : Re} {d : ℕ} (q : Pattern s e d) → Each (Lies 0 (length s)) (extents 0 q)
extents_inside {s} q = let h : 0 + length s ≡ length s = omega arith in rw h at (good 0 q).inside

pub extents_ordered : {s : List ℕ} {e : Re} {d : ℕ} (q : Pattern s e d) → Ordered (extents 0 q)
extents_ordered q = (good 0 q).ordered
