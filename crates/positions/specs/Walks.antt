-- A tree is a walk, and a walk is a tree.
use Rattle.std.specs.Prelude.{List, [], ◌↔◌, ℕ}
use Rattle.std.proofs.Common.{append-nil}
use Rattle.meaning.specs.Expression.{Re}
use Rattle.meaning.specs.Tree.{Tree}
use Rattle.positions.specs.Complete.{complete}
use Rattle.positions.specs.Positions.{pass, at, Enter, done, link, Walk, walk}
use Rattle.positions.specs.Sound.{walked}

pub tree_walk : (m p : ℕ) (e : Re) (s r : List ℕ) → Tree m e s r ↔ Walk m p e s r
tree_walk m p e s r = (λ t. complete p t, λ w. walked w)

-- over no text
null_walk : {m p : ℕ} {e : Re} {r : List ℕ} → Walk m p e [] r → Enter m p e r pass
null_walk (link e done) = rw append-nil e

pub tree_pass : (m p : ℕ) (e : Re) (r : List ℕ) → Tree m e [] r ↔ Enter m p e r pass
tree_pass m p e r = (λ t. null_walk (complete p t), λ e'. rw append-nil at (walked (walk e' done)))
