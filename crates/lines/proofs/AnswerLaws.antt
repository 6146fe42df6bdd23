-- From what is answered to what the desk writes. Assumes nothing.
use mathlib.Core.Path.{◌≡◌, refl, sym, ap, ◌∙◌}
use mathlib.Core.Bool.{Bool, true, false}
use mathlib.Core.List.{List}
use Prim.Native.Nat.{ℕ, ◌+◌, ◌-◌, ◌≤◌, min}
use native.Mathlib.Omega.{arith}
use lib.Dec.{leb}
use lib.ListN.{length, take, drop, replicate, length-append, length-take, length-drop, drop_of_length-le}
use lib.Seq.{take_all, take-length, drop-length}
use borrow.Author.Tests.{leb-true, leb-false}
use Rattle.meaning.specs.Expression.{Re}
use Rattle.meaning.specs.Promise.{Answered, Judged}
use Rattle.meaning.specs.Desk.{Desk, desk_lines, desk_cells, desk_tokens, input_limit, pattern_in, text_in}
use Rattle.std.specs.Prelude.{Ok, Err}
use Rattle.tree.specs.Outcome.{Outcome, number_of, value_of, flag_of}
use Rattle.along.specs.declared.walk.Tree.{Tree}
use Rattle.tree.proofs.Answers.{refusal_some}
use Rattle.grammar.specs.ReadPromise.{refused_range}
use Rattle.laws.specs.Promises.{desk_one}
use Rattle.lines.specs.Wrote.{Wrote, longest}
use Rattle.lines.specs.Parts.{Split}
use Rattle.lines.specs.Desked.{Answer, Desked}
use Rattle.lines.proofs.WroteLaws.{wrote_kept, wrote_whole}

-- ---- an answer of 0 gives a row that stands in the room

judged_room : {e : Re} {text room room' : List ℕ} {n v f : ℕ} → Judged e text room n v f room' → n ≡ 0 → v ≤ length room'
judged_room (Judged.no_tree none place) z = absurd (omega arith)
judged_room (Judged.small_room first long) z = absurd (omega arith)
judged_room {room} (Judged.tree {row} first fits flag) z = rw length-append (omega arith)

answered_room : {pat text cells room cells' room' : List ℕ} {n v f : ℕ} → Answered pat text cells room n v f cells' room' → n ≡ 0 → v ≤ length room'
answered_room (Answered.long_pattern h) z = absurd (omega arith)
answered_room (Answered.long_text h h') z = absurd (omega arith)
answered_room (Answered.few_cells h h' h'') z = absurd (omega arith)
answered_room (Answered.refused ready why) z = absurd (omega (arith, refused_range why))
answered_room (Answered.judged ready ok j) z = judged_room j z

pub tree_fits : (o : Outcome) {tree : Tree} {pat text cells room cells' room' : List ℕ} → Answered pat text cells room (number_of o) (value_of o) (flag_of o) cells' room'
    → o ≡ Ok tree → tree.length ≤ length room'
tree_fits o a e = answered_room (rw e at a) refl

-- an answer of another number has no tree
pub no_tree : (o : Outcome) → ((tree : Tree) → o ≡ Ok tree → ⊥) → number_of o ≡ 0 → ⊥
no_tree (Ok tree) n = absurd (n tree refl)
no_tree (Err why) n = refusal_some why

-- ---- the lines of an answer

pub answer_of : {pat text cells room t t' : List ℕ} {n v f r : ℕ} → Answered pat text (replicate desk_cells 0) (replicate desk_tokens 0) n v f cells room
    → Wrote t 0 (desk_lines n v f (take v room)) t' r → r ≤ longest → Answer pat text t t' r
answer_of {cells} {room} {n} {v} {f} a w b = record { n = n; v = v; f = f; cells = cells; room = room; answered = a; wrote = w; short = b }

-- ---- the parts of an input

-- what no longer changes past n is the same at k and at the least of k and n
up_to : {A : Type 0} (g : ℕ → A) (k n m : ℕ) → m ≡ min k n → ((j : ℕ) → n ≤ j → g j ≡ g n) → g m ≡ g k
up_to g k n m q past = go (leb k n) refl
  where
    go : (b : Bool) → leb k n ≡ b → g m ≡ g k
    go true h = let e : m ≡ k = omega (arith, leb-true) in ap g e
    go false h = let e : m ≡ n = omega (arith, leb-false) in ap g e ∙ sym (past k (omega (arith, leb-false)))

module _ (s : List ℕ) where
  pub answer_parted : (e k : ℕ) {t t' : List ℕ} {r : ℕ} → Split s e → k ≡ min (e + 1) (length s) → Answer (take e s) (take (length s - k) (drop k s)) t t' r
      → Answer (pattern_in s) (text_in s) t t' r
  answer_parted e k p q a =
      let h : length (drop k s) ≤ length s - k = simp length-drop (omega arith) in
      let past : drop k s ≡ drop (e + 1) s = up_to (λ j. drop j s) (e + 1) (length s) k q (λ j g. drop_of_length-le s g ∙ sym (drop-length s)) in
      let d : take (length s - k) (drop k s) ≡ text_in s = take_all (length s - k) (drop k s) h ∙ past ∙ sym p.behind in
      rw p.before (rw d at a)

  pub desked : (k : ℕ) {t t' : List ℕ} {r : ℕ} → k ≡ min input_limit (length s) → Answer (pattern_in (take k s)) (text_in (take k s)) t t' r → longest ≤ length t
      → Desked s t t' r
  desked k {t} {t'} {r} q a h =
      let fits : r ≤ length t' = omega (arith, a.short, wrote_kept a.wrote) in
      let e : take k s ≡ take input_limit s = up_to (λ j. take j s) input_limit (length s) k q (λ j g. take_all j s g ∙ sym (take-length s)) in
      record {
        output = desk_lines a.n a.v a.f (take a.v a.room);
        wrote = Desk.desk (rw e at a.answered);
        at_front = wrote_whole a.wrote (omega (arith, a.wrote.moved, a.short));
        counted = omega (arith, a.wrote.moved);
        within = fits;
        held = omega (arith, length-take r t');
      }

-- an input leaves one output in the room, and one count
pub desked_one : {input t t' t'' : List ℕ} {r r' : ℕ} → Desked input t t' r → Desked input t t'' r' → (t' ≡ t'') × (r ≡ r')
desked_one {input} {t} a b =
    let e : a.output ≡ b.output = desk_one a.wrote b.wrote in
    (a.at_front ∙ (rw e (sym b.at_front)), a.counted ∙ (rw e (sym b.counted)))
