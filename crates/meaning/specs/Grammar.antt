-- Patterns: which rows of bytes are patterns, what each denotes and how deep its groups nest. Assumes nothing: these are definitions.
use Rattle.std.specs.Prelude.{◌≡◌, Bool, true, false, ◌&&◌, ◌||◌, List, [], ◌∷◌, ◌++◌, ℕ, suc, ◌≤◌, ◌<◌, max, leb, eqb, length, take}
use Rattle.meaning.specs.Expression.{Re, eps, pos, cat, alt, branch, star, plus, opt}

-- tests of a byte: any, from c to d, c alone, either of two, one of a row
abbrev pub any : ℕ → Bool
any b = true

abbrev pub range : ℕ → ℕ → ℕ → Bool
range c d b = leb c b && leb b d

abbrev pub only : ℕ → ℕ → Bool
only c = range c c

abbrev pub either : (ℕ → Bool) → (ℕ → Bool) → ℕ → Bool
either f g b = f b || g b

abbrev pub one_of : List ℕ → ℕ → Bool
one_of [] b = false
one_of (x ∷ l) b = eqb b x || one_of l b

-- the bytes that do not stand for themselves: ( ) | * + ? . [ ] \ and, in a class, [ ] - \
abbrev pub signs : List ℕ
signs = 40 ∷ 41 ∷ 124 ∷ 42 ∷ 43 ∷ 63 ∷ 46 ∷ 91 ∷ 93 ∷ 92 ∷ []

abbrev pub class_signs : List ℕ
class_signs = 91 ∷ 93 ∷ 45 ∷ 92 ∷ []

-- an end of a class item: any byte but a class sign, or \ and any byte
pub data Char : List ℕ → ℕ → Type 0 where
  bare : {b : ℕ} → one_of class_signs b ≡ false → Char (b ∷ []) b
  quoted : {b : ℕ} → Char (92 ∷ b ∷ []) b

-- a class item: c, or c-d with d not below c
pub data Range : List ℕ → (ℕ → Bool) → Type 0 where
  single : {s : List ℕ} {c : ℕ} → Char s c → Range s (only c)
  span : {s t : List ℕ} {c d : ℕ} → Char s c → Char t d → c ≤ d → Range (s ++ 45 ∷ t) (range c d)

-- one or more class items
pub data Class : List ℕ → (ℕ → Bool) → Type 0 where
  range_one : {s : List ℕ} {f : ℕ → Bool} → Range s f → Class s f
  range_more : {s t : List ℕ} {f g : ℕ → Bool} → Class s f → Range t g → Class (s ++ t) (either f g)

pub data Part : Type 0 where
  an_atom an_item a_branch fronts a_list : Part

-- the bytes s are such a part of a pattern, denote e, and nest d deep
pub data Is : Part → List ℕ → Re → ℕ → Type 0 where
  -- an atom: b, \b, ., [..], (), (..)
  literal : {b : ℕ} → one_of signs b ≡ false → Is an_atom (b ∷ []) (pos (only b)) 0
  escaped : {b : ℕ} → Is an_atom (92 ∷ b ∷ []) (pos (only b)) 0
  dot : Is an_atom (46 ∷ []) (pos any) 0
  class : {s : List ℕ} {f : ℕ → Bool} → Class s f → Is an_atom (91 ∷ (s ++ 93 ∷ [])) (pos f) 0
  unit : Is an_atom (40 ∷ 41 ∷ []) eps 1
  group : {s : List ℕ} {e : Re} {d : ℕ} → Is a_list s e d → Is an_atom (40 ∷ (s ++ 41 ∷ [])) e (suc d)
  -- an item: an atom and at most one of * + ?
  once : {s : List ℕ} {e : Re} {d : ℕ} → Is an_atom s e d → Is an_item s e d
  starred : {s : List ℕ} {e : Re} {d : ℕ} → Is an_atom s e d → Is an_item (s ++ 42 ∷ []) (star e) d
  plussed : {s : List ℕ} {e : Re} {d : ℕ} → Is an_atom s e d → Is an_item (s ++ 43 ∷ []) (plus e) d
  optional : {s : List ℕ} {e : Re} {d : ℕ} → Is an_atom s e d → Is an_item (s ++ 63 ∷ []) (opt e) d
  -- a branch: an item, or an item and then a branch
  item_one : {s : List ℕ} {e : Re} {d : ℕ} → Is an_item s e d → Is a_branch s e d
  item_more : {s t : List ℕ} {x y : Re} {d d' : ℕ} → Is an_item s x d → Is a_branch t y d' → Is a_branch (s ++ t) (cat x y) (max d d')
  -- the branches before the last of a list, each with the | behind it
  front_one : {s : List ℕ} {x : Re} {d : ℕ} → Is a_branch s x d → Is fronts (s ++ 124 ∷ []) (branch x) d
  front_more : {s t : List ℕ} {a y : Re} {d d' : ℕ} → Is fronts s a d → Is a_branch t y d' → Is fronts (s ++ (t ++ 124 ∷ [])) (alt a (branch y)) (max d d')
  -- a branch list: one branch, which has no mark, or more
  lone : {s : List ℕ} {e : Re} {d : ℕ} → Is a_branch s e d → Is a_list s e d
  several : {s t : List ℕ} {a y : Re} {d d' : ℕ} → Is fronts s a d → Is a_branch t y d' → Is a_list (s ++ t) (alt a (branch y)) (max d d')

abbrev pub Pattern : List ℕ → Re → ℕ → Type 0
Pattern = Is a_list

-- a row of bytes
pub data Bytes : List ℕ → Type 0 where
  no_byte : Bytes []
  byte : {b : ℕ} {s : List ℕ} → b < 256 → Bytes s → Bytes (b ∷ s)

-- s begins some pattern, limits set aside
pub record Viable (s : List ℕ) : Type 0 where
  pub rest : List ℕ
  pub bytes : Bytes rest
  pub denotes : Re
  pub depth : ℕ
  pub whole : Pattern (s ++ rest) denotes depth

-- p is the length of the longest beginning of s that has the property
pub record Longest (Begins : List ℕ → Type 0) (s : List ℕ) (p : ℕ) : Type 0 where
  pub within : p ≤ length s
  pub begins : Begins (take p s)
  pub last : (q : ℕ) → q ≤ length s → Begins (take q s) → q ≤ p
