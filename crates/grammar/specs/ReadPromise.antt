-- The promise of the pattern reader leaves one outcome: a pattern is refused in one way, or accepted as one expression.
use Rattle.std.specs.Prelude.{◌≡◌, refl, List, ℕ, ◌≤◌}
use Rattle.std.proofs.Common.{ap, arith}
use Rattle.meaning.specs.Expression.{Re, marks, size}
use Rattle.meaning.specs.Grammar.{Pattern}
use Rattle.meaning.specs.ReadPattern.{ReadPattern, read_pattern}
use Rattle.meaning.specs.Promise.{Refused, not_a_pattern, nested, positions, over_marks, Accepted, Read}
use Rattle.grammar.specs.Place.{longest_unique}
use Rattle.grammar.specs.Reads.{one_reading}

record Sizes (e e' : Re) (d d' : ℕ) : Type 0 where
  pub deep : d ≡ d'
  pub places : size e ≡ size e'
  pub marked : marks e ≡ marks e'

sizes : {s : List ℕ} {e e' : Re} {d d' : ℕ} → Pattern s e d → Pattern s e' d' → Sizes e e' d d'
sizes p p' = let h = one_reading p p' in record { deep = h.1; places = ap size h.0; marked = ap marks h.0 }

pub refused_one : {pat : List ℕ} {n v n' v' : ℕ} → Refused pat n v → Refused pat n' v' → (n ≡ n') × (v ≡ v')
refused_one (not_a_pattern x l) (not_a_pattern x' l') = (refl, longest_unique l l')
refused_one (not_a_pattern x l) (nested p h) = absurd (x _ _ p)
refused_one (not_a_pattern x l) (positions p h k) = absurd (x _ _ p)
refused_one (not_a_pattern x l) (over_marks p h k j) = absurd (x _ _ p)
refused_one (nested p h) (not_a_pattern x l) = absurd (x _ _ p)
refused_one (nested p h) (nested p' h') = (refl, refl)
refused_one (nested p h) (positions p' h' k') = let z = sizes p p' in absurd (omega arith)
refused_one (nested p h) (over_marks p' h' k' j') = let z = sizes p p' in absurd (omega arith)
refused_one (positions p h k) (not_a_pattern x l) = absurd (x _ _ p)
refused_one (positions p h k) (nested p' h') = let z = sizes p p' in absurd (omega arith)
refused_one (positions p h k) (positions p' h' k') = (refl, refl)
refused_one (positions p h k) (over_marks p' h' k' j') = let z = sizes p p' in absurd (omega arith)
refused_one (over_marks p h k j) (not_a_pattern x l) = absurd (x _ _ p)
refused_one (over_marks p h k j) (nested p' h') = let z = sizes p p' in absurd (omega arith)
refused_one (over_marks p h k j) (positions p' h' k') = let z = sizes p p' in absurd (omega arith)
refused_one (over_marks p h k j) (over_marks p' h' k' j') = (refl, refl)

pub refused_accepted : {pat : List ℕ} {n v : ℕ} {e : Re} → Refused pat n v → Accepted pat e → ⊥
refused_accepted (not_a_pattern x l) a = x _ _ a.denotes
refused_accepted (nested p h) a = let z = sizes p a.denotes in omega arith
refused_accepted (positions p h k) a = let z = sizes p a.denotes in omega arith
refused_accepted (over_marks p h k j) a = let z = sizes p a.denotes in omega arith

-- a refusal's number is from 4 to 7
pub refused_range : {pat : List ℕ} {n v : ℕ} → Refused pat n v → (4 ≤ n) × (n ≤ 7)
refused_range (not_a_pattern x l) = (omega arith, omega arith)
refused_range (nested p h) = (omega arith, omega arith)
refused_range (positions p h k) = (omega arith, omega arith)
refused_range (over_marks p h k j) = (omega arith, omega arith)

pub accepted_one : {pat : List ℕ} {e e' : Re} → Accepted pat e → Accepted pat e' → e ≡ e'
accepted_one a a' = (one_reading a.denotes a'.denotes).0

pub read_one : {pat : List ℕ} {n v n' v' : ℕ} {P P' : ReadPattern} → Read pat n v P → Read pat n' v' P' → (n ≡ n') × (v ≡ v') × (P ≡ P')
read_one (Read.long_pattern h) (Read.long_pattern h') = (refl, refl, refl)
read_one (Read.long_pattern h) (Read.refused h' r) = absurd (omega arith)
read_one (Read.long_pattern h) (Read.accepted a) = absurd (omega arith)
read_one (Read.refused h r) (Read.long_pattern h') = absurd (omega arith)
read_one (Read.refused h r) (Read.refused h' r') = let z = refused_one r r' in (z.0, z.1, refl)
read_one (Read.refused h r) (Read.accepted a) = absurd (refused_accepted r a)
read_one (Read.accepted a) (Read.long_pattern h) = absurd (omega arith)
read_one (Read.accepted a) (Read.refused h r) = absurd (refused_accepted r a)
read_one (Read.accepted a) (Read.accepted a') = (refl, refl, ap read_pattern (accepted_one a a'))
