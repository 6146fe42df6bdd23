-- Rows that are copied from the pool into the room for a tree, token by token or eight at once. Assumes nothing.
use mathlib.Core.Path.{◌≡◌, refl, ◌∙◌}
use mathlib.Core.Bool.{◌||◌}
use mathlib.Core.List.{List, [], ◌∷◌}
use Prim.Native.Nat.{ℕ, ◌+◌, ◌≤◌, ◌<◌}
use native.Mathlib.Omega.{arith}
use lib.Dec.{eqb}
use lib.Lanes.{put_chunk}
use lib.ListN.{length, get_or, set}
use Rattle.std.proofs.lemmas.Simd.{length-put_chunk, get_or-put_chunk_below, get_or-put_chunk_at, get_or-put_chunk_above}
use Rattle.meaning.specs.Tree.{letter}
use Rattle.along.specs.declared.links.Link.{Link}
use Rattle.along.specs.declared.stand.Stand.{Stand}
use Rattle.along.specs.Glide.{Recalled}
use Rattle.along.specs.Rows.{Shows, Below, Laid}
use Rattle.along.proofs.Standing.{written_below, written_shows, written_beyond, below_then, beyond_then, shows_still, shows_then}

-- a few that are stored at once
pub laid_chunk : (pool t xs : List ℕ) (from new n : ℕ) → length xs ≡ n → ((i : ℕ) → i < n → get_or xs i 0 ≡ get_or pool (from + i) 0) → new + n ≤ length t → Laid pool t (put_chunk new t xs) from n new 0
laid_chunk pool t xs from new n l same h = record {
  below = record { same_length = length-put_chunk new t xs; same = λ i k. get_or-put_chunk_below new t xs i 0 k };
  copied = λ i k m. get_or-put_chunk_at new t xs i 0 (omega arith) (omega arith) ∙ same i k;
  beyond = record { same_length = length-put_chunk new t xs; same = λ i k. get_or-put_chunk_above new t xs i 0 (omega arith) };
}

-- a row that stands in the pool stands where it was laid
pub laid_shows : {pool t t' : List ℕ} {from new spare : ℕ} (ρ : List ℕ) → Laid pool t t' from (length ρ) new spare → from + length ρ ≤ length pool → Shows pool from ρ → Shows t' new ρ
laid_shows ρ L h S i k m = let same = L.below.same_length in L.copied i k (omega arith) ∙ S i k (omega arith)

-- a letter, and a row behind it
module _ (l : Link) (pool t : List ℕ) (b : ℕ) (s : Stand) {t₁ t' : List ℕ} {c spare : ℕ} (z : t₁ ≡ set t s.at (letter b)) (y : c ≡ s.at + 1)
    (L : Laid pool t₁ t' l.from l.long c spare) (h : l.from + l.long ≤ length pool) where
  below : Below t t₁ s.at
  below = written_below t (letter b ∷ []) s.at z

  row : (ρ : List ℕ) → length ρ ≡ l.long → Shows pool l.from ρ → Shows t' s.at (letter b ∷ ρ)
  row ρ n S = shows_then t' s.at (letter b ∷ []) ρ (shows_still s.at (letter b ∷ []) (written_shows t (letter b ∷ []) s.at z) L.below (omega arith)) rest
    where
      rest : Shows t' (s.at + 1) ρ
      rest = rw (← y) (laid_shows ρ (rw (← n) at L) (omega arith) S)

  pub recalled : {r : Stand} → r.read ≡ s.read + 1 → r.position ≡ l.position → r.at ≡ c + l.long → r.other ≡ (s.other || eqb l.other 1) → Recalled l pool b t t' spare s r
  recalled i j k o = record {
    read = i;
    step = rw (j, k, y, o) refl;
    below = below_then c below L.below (omega arith);
    row = row;
    beyond = rw (← y) (beyond_then (s.at + 1) (written_beyond t (letter b ∷ []) s.at z) L.beyond (omega arith));
  }
