-- The read pattern: the rows of numbers that the pattern reader hands on for an expression. Assumes nothing: these are definitions.
use Rattle.std.specs.Prelude.{Bool, cond, List, [], ◌∷◌, ◌++◌, ℕ, zero, suc, ◌+◌, ◌-◌, ◌*◌, length, replicate}
use Rattle.meaning.specs.Expression.{Re, eps, pos, cat, alt, branch, star, plus, opt, marks, size}

-- An expression has a node for itself and for each part. A part stands before its whole, a left part before the right one, so that node
-- i - 1 is the only part of node i, or its right part.
unfoldable pub nodes : Re → ℕ
nodes eps = 1
nodes (pos c) = 1
nodes (cat x y) = suc (nodes x + nodes y)
nodes (alt x y) = suc (nodes x + nodes y)
nodes (branch x) = suc (nodes x)
nodes (star x) = suc (nodes x)
nodes (plus x) = suc (nodes x)
nodes (opt x) = suc (nodes x)

-- the kind of each node
unfoldable pub kinds : Re → List ℕ
kinds eps = 0 ∷ []
kinds (pos c) = 1 ∷ []
kinds (cat x y) = kinds x ++ (kinds y ++ (2 ∷ []))
kinds (alt x y) = kinds x ++ (kinds y ++ (3 ∷ []))
kinds (branch x) = kinds x ++ (4 ∷ [])
kinds (star x) = kinds x ++ (5 ∷ [])
kinds (plus x) = kinds x ++ (6 ∷ [])
kinds (opt x) = kinds x ++ (7 ∷ [])

-- the last of the nodes of x, where k nodes stand before x
abbrev pub node_of : ℕ → Re → ℕ
node_of k x = k + nodes x - 1

-- the number beside each kind: the position, the left part's node, or the mark. k nodes, m marks and p positions stand before the expression
unfoldable pub args : ℕ → ℕ → ℕ → Re → List ℕ
args k m p eps = 0 ∷ []
args k m p (pos c) = p ∷ []
args k m p (cat x y) = args k m p x ++ (args (k + nodes x) (m + marks x) (p + size x) y ++ (node_of k x ∷ []))
args k m p (alt x y) = args k m p x ++ (args (k + nodes x) (m + marks x) (p + size x) y ++ (node_of k x ∷ []))
args k m p (branch x) = args k (suc m) p x ++ (suc m ∷ [])
args k m p (star x) = args k (suc m) p x ++ (suc m ∷ [])
args k m p (plus x) = args k (suc m) p x ++ (suc m ∷ [])
args k m p (opt x) = args k (suc m) p x ++ (suc m ∷ [])

-- the number whose n binary digits, from the lowest, say of which of 0, 1, .. n - 1 the test holds
unfoldable pub binary : ℕ → (ℕ → Bool) → ℕ
binary zero f = 0
binary (suc n) f = cond (f 0) 1 0 + 2 * binary n (λ j. f (suc j))

-- word i of a test of bytes: bytes 64 * i to 64 * i + 63
abbrev pub word : (ℕ → Bool) → ℕ → ℕ
word f i = binary 64 (λ j. f (64 * i + j))

-- four words for each position, in order
unfoldable pub words : Re → List ℕ
words eps = []
words (pos c) = word c 0 ∷ word c 1 ∷ word c 2 ∷ word c 3 ∷ []
words (cat x y) = words x ++ words y
words (alt x y) = words x ++ words y
words (branch x) = words x
words (star x) = words x
words (plus x) = words x
words (opt x) = words x

-- a row of n numbers that begins with l and goes on with zeros
abbrev pub padded : ℕ → List ℕ → List ℕ
padded n l = l ++ replicate (n - length l) 0

pub record ReadPattern : Type 0 where
  pub kind : List ℕ
  pub arg : List ℕ
  pub class : List ℕ
  pub nodes : ℕ
  pub positions : ℕ
  pub marks : ℕ

-- of an expression; a pattern of 512 bytes has fewer than 1024 nodes
unfoldable pub read_pattern : Re → ReadPattern
read_pattern e = record { kind = padded 1024 (kinds e); arg = padded 1024 (args 0 0 0 e); class = padded 256 (words e); nodes = nodes e; positions = size e; marks = marks e }

-- the one without parts
unfoldable pub no_parts : ReadPattern
no_parts = record { kind = replicate 1024 0; arg = replicate 1024 0; class = replicate 256 0; nodes = 0; positions = 0; marks = 0 }
