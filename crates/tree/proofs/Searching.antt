-- From the rows that the pattern reader filled to the promise of the search. Assumes nothing.
use mathlib.Core.Path.{sym}
use mathlib.Core.List.{List}
use Prim.Native.Nat.{ℕ, ◌≤◌, ◌<◌}
use native.Mathlib.Omega.{arith}
use lib.ListN.{length, get_or}
use mir.Syntax.{w8}
use mir.Val.{Fits}
use Rattle.meaning.specs.Expression.{Re}
use Rattle.meaning.specs.Limits.{pattern_limit, text_limit}
use Rattle.meaning.specs.Promise.{Ready}
use Rattle.grammar.specs.Accepted.{accepted_fair, accepted_open}
use Rattle.grammar.specs.Holds.{nodes_some}
use Rattle.kinds.specs.declared.ReadPattern.{ReadPattern}
use Rattle.pattern.proofs.Held.{Held}
use Rattle.tree.specs.Judge.{Given, Gives, Finds}
use Rattle.tree.specs.Outcome.{Outcome, number_of, value_of, flag_of}
use Rattle.tree.specs.Search.{Searched, sought}
use Rattle.tree.proofs.ClassWords.{reads_classed}
use Rattle.tree.proofs.Finding.{bytes_fit}

-- no line before 4 applies
pub ready : {pat text cells : List ℕ} → length pat ≤ pattern_limit → length text ≤ text_limit → length text < length cells → Ready pat text cells
ready h k l = record { short_pattern = h; short_text = k; cells_enough = omega arith }

module _ {pat : List ℕ} {P : ReadPattern} (bytes : (i : ℕ) → Fits w8 (get_or pat i 0)) (H : Held pat P) where
  -- the read pattern holds what the pattern denotes
  pub given_of : Given H.denotes P
  given_of =
      let h = H.holding in
      let some = nodes_some H.denotes in
      record {
        rooted = record {
          some = omega (arith, h.nodes_are, some);
          holds = h.holds;
          within = omega (arith, h.few_nodes);
          fair = accepted_fair H.accepted;
          can_read = accepted_open H.accepted (bytes_fit pat bytes);
          few_marks = H.accepted.few_marks;
          few_positions = H.accepted.few_positions;
          marks_are = h.marks_are;
        };
        all = sym h.nodes_are;
        positions_are = h.positions_are;
        classes = reads_classed H.denotes P.class h.classes h.positions_are;
      }

  pub gives : Gives P
  gives = record { e = H.denotes; given = given_of }

  pub searched : {text cells cells' t t' : List ℕ} {r : Outcome} → Ready pat text cells
      → ((e : Re) → Given e P → Finds e text cells cells' t t' r)
      → Searched pat text cells t (number_of r) (value_of r) (flag_of r) cells' t'
  searched g f = let x = f H.denotes given_of in rw x.clear (sought g H.accepted x.sought)
