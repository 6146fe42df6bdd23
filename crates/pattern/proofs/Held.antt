-- What a caller may rely on of rows that were filled. Assumes nothing.
use mathlib.Core.Path.{◌≡◌, refl, ap}
use mathlib.Core.List.{List}
use Prim.Native.Nat.{ℕ, ◌-◌, ◌<◌, ◌≤◌}
use native.Mathlib.Omega.{arith}
use lib.ListN.{length}
use Rattle.std.specs.declared.result.Result.{Result}
use Rattle.std.specs.declared.result.Result.TheVariants.{Ok, Err}
use Rattle.std.specs.Prelude.{⊤}
use Rattle.meaning.specs.Expression.{Re, size, marks}
use Rattle.meaning.specs.ReadPattern as meaning
use Rattle.meaning.specs.ReadPattern.{nodes, words, read_pattern}
use Rattle.meaning.specs.Limits.{pattern_limit}
use Rattle.meaning.specs.Promise.{Read, long_pattern, refused, accepted, Refused, Accepted}
use Rattle.grammar.specs.Accepted.{accepted_nodes, accepted_holds}
use Rattle.grammar.specs.Holds.{Stands, Holds, padded_stands, length_words}
use Rattle.grammar.specs.ReadPromise.{refused_range}
use Rattle.pattern.specs.Answers.{refusal_number, refusal_value, pattern_parts, Fills}
use Rattle.pattern.specs.declared.Refusal.{Refusal}
use Rattle.pattern.specs.declared.Refusal.TheVariants.{TooLong, NoPattern, TooDeep, ManyPositions, ManyMarks}
use Rattle.kinds.specs.declared.ReadPattern.{ReadPattern}
use Rattle.kinds.specs.Nodes.{kinds_of, args_of}
use Rattle.kinds.specs.Words.{words_of}

-- ---- an accepted pattern

-- the rows of P hold e
pub record Holding (P : ReadPattern) (e : Re) : Type 0 where
  pub holds : Holds (kinds_of P.node) (args_of P.node) 0 0 (P.nodes - 1) e
  pub nodes_are : P.nodes ≡ nodes e
  pub positions_are : P.positions ≡ size e
  pub marks_are : P.marks ≡ marks e
  pub few_nodes : P.nodes < 1024
  -- four words for each position: its bytes
  pub classes : Stands (words e) (words_of P.class) 0

pub holding : {pat : List ℕ} {e : Re} (P : ReadPattern) → Accepted pat e → pattern_parts P ≡ read_pattern e → Holding P e
unfolding read_pattern
holding {pat} {e} P a q = record {
  holds = rw (part (λ r. r.kind), part (λ r. r.arg), ns) (accepted_holds a);
  nodes_are = ns;
  positions_are = part (λ r. r.positions);
  marks_are = part (λ r. r.marks);
  few_nodes = omega (arith, ns, accepted_nodes a);
  classes = rw (part (λ r. r.class)) (padded_stands 256 (words e) (omega (arith, a.few_positions, length_words e)));
}
  where
    part : {A : Type 0} (f : meaning.ReadPattern → A) → f (pattern_parts P) ≡ f (read_pattern e)
    part f = ap f q

    ns : P.nodes ≡ nodes e
    ns = part (λ r. r.nodes)

-- ---- a read pattern that was filled

-- the pattern is accepted, and P holds what it denotes
pub record Held (pat : List ℕ) (P : ReadPattern) : Type 0 where
  pub denotes : Re
  pub accepted : Accepted pat denotes
  pub holding : Holding P denotes

accepted_part : {pat : List ℕ} {n v : ℕ} {Q : meaning.ReadPattern} (P : ReadPattern) → Read pat n v Q → n ≡ 0 → pattern_parts P ≡ Q → Held pat P
accepted_part P (long_pattern h) z e = absurd (omega arith)
accepted_part P (refused h r) z e = absurd (omega (arith, refused_range r))
accepted_part P (accepted {e = d} a) z e = record { denotes = d; accepted = a; holding = holding P a e }

-- a refusal is no answer 0
some_number : (r : Refusal) → refusal_number r ≡ 0 → ⊥
some_number TooLong z = omega arith
some_number (NoPattern place) z = omega arith
some_number TooDeep z = omega arith
some_number ManyPositions z = omega arith
some_number ManyMarks z = omega arith

long_part : {pat : List ℕ} {n v : ℕ} {Q : meaning.ReadPattern} → Read pat n v Q → n ≡ 1 → pattern_limit < length pat
long_part (long_pattern h) z = h
long_part (refused h r) z = absurd (omega (arith, refused_range r))
long_part (accepted a) z = absurd (omega arith)

refused_part : {pat : List ℕ} {n v : ℕ} {Q : meaning.ReadPattern} → Read pat n v Q → (n ≡ 0 → ⊥) → (n ≡ 1 → ⊥) → Refused pat n v
refused_part (long_pattern h) y z = absurd (z refl)
refused_part (refused h r) y z = r
refused_part (accepted a) y z = absurd (y refl)

module _ {pat : List ℕ} {P : ReadPattern} where
  pub held : {filled : Result ⊤ Refusal} {done : ⊤} → Fills pat filled P → filled ≡ Ok done → Held pat P
  held h e = accepted_part P (rw e at h.answers).0 refl refl

  pub too_long : {filled : Result ⊤ Refusal} → Fills pat filled P → filled ≡ Err TooLong → pattern_limit < length pat
  too_long h e = long_part (rw e at h.answers).0 refl

  -- a refusal, of a pattern that is not too long
  pub refusal : {filled : Result ⊤ Refusal} (r : Refusal) → Fills pat filled P → filled ≡ Err r → (refusal_number r ≡ 1 → ⊥)
      → Refused pat (refusal_number r) (refusal_value r)
  refusal r h e x = refused_part (rw e at h.answers).0 (some_number r) x

  pub refusal_of_short : {filled : Result ⊤ Refusal} (r : Refusal) → Fills pat filled P → filled ≡ Err r → length pat ≤ pattern_limit
      → Refused pat (refusal_number r) (refusal_value r)
  refusal_of_short r h e l = refusal r h e (λ z. omega (arith, long_part (rw e at h.answers).0 z, l))
