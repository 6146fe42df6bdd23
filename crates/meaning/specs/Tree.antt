-- Trees: which rows of tokens are trees of a text, and which of them is first. Assumes nothing: these are definitions.
use Rattle.std.specs.Prelude.{◌≡◌, Bool, true, cond, List, [], ◌∷◌, ◌++◌, ◌⊎◌, ℕ, suc, ◌+◌, ◌-◌, ◌<◌, ltb}
use Rattle.meaning.specs.Expression.{Re, eps, pos, cat, alt, branch, star, plus, opt, marks}
use Rattle.meaning.specs.Grammar.{Bytes}

-- the tokens: h opens mark h, 128 + h closes it, 256 + b is the byte b. The mark is the one that m marks stand before
abbrev pub opening : ℕ → ℕ
opening m = suc m

abbrev pub closing : ℕ → ℕ
closing m = 128 + suc m

abbrev pub letter : ℕ → ℕ
letter b = 256 + b

-- open, the row, close
abbrev pub turn : ℕ → List ℕ → List ℕ
turn m r = opening m ∷ r ++ (closing m ∷ [])

-- a text of at least one byte
pub data Some : List ℕ → Type 0 where
  some : {b : ℕ} {s : List ℕ} → Some (b ∷ s)

-- where m marks stand before e, the row r is a tree of the text s
pub data Tree : ℕ → Re → List ℕ → List ℕ → Type 0 where
  -- () writes nothing, a position the byte it read, the items of a branch their rows one after another
  t_eps : {m : ℕ} → Tree m eps [] []
  t_pos : {m b : ℕ} {c : ℕ → Bool} → c b ≡ true → Tree m (pos c) (b ∷ []) (letter b ∷ [])
  t_cat : {m : ℕ} {x y : Re} {s₁ s₂ r₁ r₂ : List ℕ} → Tree m x s₁ r₁ → Tree (m + marks x) y s₂ r₂ → Tree m (cat x y) (s₁ ++ s₂) (r₁ ++ r₂)
  -- one of the branches is chosen, and encloses its row
  t_left : {m : ℕ} {x y : Re} {s r : List ℕ} → Tree m x s r → Tree m (alt x y) s r
  t_right : {m : ℕ} {x y : Re} {s r : List ℕ} → Tree (m + marks x) y s r → Tree m (alt x y) s r
  t_branch : {m : ℕ} {x : Re} {s r : List ℕ} → Tree (suc m) x s r → Tree m (branch x) s (turn m r)
  -- * makes zero or more turns, each over some text
  t_none : {m : ℕ} {x : Re} → Tree m (star x) [] []
  t_turn : {m : ℕ} {x : Re} {s₁ s₂ r₁ r₂ : List ℕ} → Some s₁ → Tree (suc m) x s₁ r₁ → Tree m (star x) s₂ r₂ → Tree m (star x) (s₁ ++ s₂) (turn m r₁ ++ r₂)
  -- + makes one turn over any text, or two or more, each over some text
  t_once : {m : ℕ} {x : Re} {s r : List ℕ} → Tree (suc m) x s r → Tree m (plus x) s (turn m r)
  t_more : {m : ℕ} {x : Re} {s₁ s₂ r₁ r₂ : List ℕ} → Some s₁ → Tree (suc m) x s₁ r₁ → Some s₂ → Tree m (star x) s₂ r₂ → Tree m (plus x) (s₁ ++ s₂) (turn m r₁ ++ r₂)
  -- ? makes no turn, or one over some text
  t_skip : {m : ℕ} {x : Re} → Tree m (opt x) [] []
  t_take : {m : ℕ} {x : Re} {s r : List ℕ} → Some s → Tree (suc m) x s r → Tree m (opt x) s (turn m r)

-- the text of a row: its marks erased
unfoldable pub erase : List ℕ → List ℕ
erase [] = []
erase (t ∷ r) = cond (ltb t 256) (erase r) ((t - 256) ∷ erase r)

-- r is earlier than r': the smaller token where they first differ, or r' has ended there
pub data Before : List ℕ → List ℕ → Type 0 where
  b_here : {t t' : ℕ} {r r' : List ℕ} → t < t' → Before (t ∷ r) (t' ∷ r')
  b_longer : {t : ℕ} {r : List ℕ} → Before (t ∷ r) []
  b_next : {t t' : ℕ} {r r' : List ℕ} → t ≡ t' → Before r r' → Before (t ∷ r) (t' ∷ r')

-- r is the first tree of the text s: each tree is r or later
pub record First (e : Re) (s r : List ℕ) : Type 0 where
  pub tree : Tree 0 e s r
  pub first : (r' : List ℕ) → Tree 0 e s r' → (r ≡ r') ⊎ Before r r'

-- s has two different trees
pub record Other (e : Re) (s : List ℕ) : Type 0 where
  pub one : List ℕ
  pub two : List ℕ
  pub tree_one : Tree 0 e s one
  pub tree_two : Tree 0 e s two
  pub apart : one ≡ two → ⊥

-- the flag: 1 if another tree exists, else 0
pub data Flag (e : Re) (s : List ℕ) : ℕ → Type 0 where
  another : Other e s → Flag e s 1
  alone : (Other e s → ⊥) → Flag e s 0

-- s has no tree
abbrev pub NoTree : Re → List ℕ → Type 0
NoTree e s = (r : List ℕ) → Tree 0 e s r → ⊥

-- s begins a text with a tree
pub record Begins (e : Re) (s : List ℕ) : Type 0 where
  pub rest : List ℕ
  pub bytes : Bytes rest
  pub row : List ℕ
  pub tree : Tree 0 e (s ++ rest) row
