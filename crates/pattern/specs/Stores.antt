-- The stores of the nodes and the cursor: what is written for an expression. Assumes nothing: these are definitions.
use Rattle.std.specs.Prelude.{◌≡◌, Bool, List, [], ◌∷◌, ◌++◌, ℕ, ◌+◌, ◌*◌, ◌≤◌, ◌<◌, set}
use Rattle.std.proofs.lemmas.List.Edits.{sets}
use Rattle.meaning.specs.Expression.{Re, eps, pos, cat, alt, branch, star, plus, opt, marks, size}
use Rattle.meaning.specs.ReadPattern.{nodes, kinds, node_of, words, args}
use Rattle.grammar.specs.Holds.{Stands}
use Rattle.sets.specs.declared.class.Class.{Class}
use Rattle.sets.specs.Classes.{among}
use Rattle.kinds.specs.declared.ReadPattern.{ReadPattern}
use Rattle.kinds.specs.Nodes.{kinds_of, args_of}
use Rattle.kinds.specs.Words.{words_of, Fours}
use Rattle.pattern.specs.declared.nodes.Cursor.{Cursor}

-- The number beside each kind, with 0 in the place of each mark: a mark is numbered when the whole is read. k nodes and p positions stand
-- before the expression.
unfoldable pub bare_args : ℕ → ℕ → Re → List ℕ
bare_args k p eps = 0 ∷ []
bare_args k p (pos c) = p ∷ []
bare_args k p (cat x y) = bare_args k p x ++ (bare_args (k + nodes x) (p + size x) y ++ (node_of k x ∷ []))
bare_args k p (alt x y) = bare_args k p x ++ (bare_args (k + nodes x) (p + size x) y ++ (node_of k x ∷ []))
bare_args k p (branch x) = bare_args k p x ++ (0 ∷ [])
bare_args k p (star x) = bare_args k p x ++ (0 ∷ [])
bare_args k p (plus x) = bare_args k p x ++ (0 ∷ [])
bare_args k p (opt x) = bare_args k p x ++ (0 ∷ [])

-- kinds, numbers beside them, and classes
pub record Stores : Type 0 where
  pub kind : List ℕ
  pub arg : List ℕ
  pub class : List Class

abbrev pub stores : ReadPattern → Stores
stores P = record { kind = kinds_of P.node; arg = args_of P.node; class = P.class }

-- the same with other classes
abbrev pub with_classes : Stores → List Class → Stores
with_classes S l = record { kind = S.kind; arg = S.arg; class = l }

-- entry i of the first two stores is now k and v
pub record Put (i k v : ℕ) (S S' : Stores) : Type 0 where
  pub kind : S'.kind ≡ set S.kind i k
  pub arg : S'.arg ≡ set S.arg i v
  pub class : S'.class ≡ S.class

-- the class holds the bytes that the test holds of
abbrev pub Tests : Class → (ℕ → Bool) → Type 0
Tests k f = (q : ℕ) → q < 256 → among k q ≡ f q

-- the class is in its place, where there is one for position n
pub record Keeps (n : ℕ) (k : Class) (l l' : List Class) : Type 0 where
  pub word : (f : ℕ → Bool) → Tests k f → words_of l' ≡ sets (words_of l) (4 * n) (words (pos f))
  pub fours : Fours l → Fours l'

-- the fields of a cursor
pub record Became (c : Cursor) (i u p m : ℕ) : Type 0 where
  pub at : c.at ≡ i
  pub used : c.used ≡ u
  pub places : c.positions ≡ p
  pub marked : c.marks ≡ m

-- between c and d the expression e was written
pub record Wrote (c d : Cursor) (S S' : Stores) (e : Re) : Type 0 where
  pub used : d.used ≡ c.used + nodes e
  pub places : d.positions ≡ c.positions + size e
  pub marked : d.marks ≡ c.marks + marks e
  pub kind : S'.kind ≡ sets S.kind c.used (kinds e)
  pub arg : S'.arg ≡ sets S.arg c.used (bare_args c.used c.positions e)
  pub word : words_of S'.class ≡ sets (words_of S.class) (4 * c.positions) (words e)
  pub fours : Fours S.class → Fours S'.class

-- the cursor stands in a pattern of n bytes, at most 512
pub record Within (n : ℕ) (c : Cursor) : Type 0 where
  pub short : n ≤ 512
  pub inside : c.at ≤ n
  pub nodes : c.used ≤ 2 * c.at
  pub places : c.positions ≤ c.used
  pub marked : c.marks ≤ c.used

-- d is further on than c in a pattern of n bytes: the nodes between them, and k more, are at most two for each byte
pub record Moved (k n : ℕ) (c d : Cursor) : Type 0 where
  pub on : c.at < d.at
  pub inside : d.at ≤ n
  pub more : c.used < d.used
  pub nodes : d.used + k + 2 * c.at ≤ c.used + 2 * d.at
  pub places : d.positions + c.used ≤ c.positions + d.used
  pub marked : d.marks + c.used ≤ c.marks + d.used

-- node i is the last of e, whose nodes start at u, with the marks not numbered
pub record Lies (ks gs : List ℕ) (u p i : ℕ) (e : Re) : Type 0 where
  pub kinds : Stands (kinds e) ks u
  pub args : Stands (bare_args u p e) gs u
  pub last : i + 1 ≡ u + nodes e
  pub inside : i < 1024

-- node i is the last of some expression, and there are numbers for its marks where m are given out
pub record Numberable (ks gs : List ℕ) (i m : ℕ) : Type 0 where
  pub e : Re
  pub u : ℕ
  pub p : ℕ
  pub lies : Lies ks gs u p i e
  pub few : m + marks e < 65536

-- the marks of e are numbered from m + 1 to r
pub record Numbered (u p m : ℕ) (e : Re) (gs gs' : List ℕ) (r : ℕ) : Type 0 where
  pub arg : gs' ≡ sets gs u (args u m p e)
  pub marks : r ≡ m + marks e

-- the same of whichever expression node i is the last of
abbrev pub Numbers : List ℕ → List ℕ → List ℕ → ℕ → ℕ → ℕ → Type 0
Numbers ks gs gs' i m r = (e : Re) (u p : ℕ) → Lies ks gs u p i e → Numbered u p m e gs gs' r
