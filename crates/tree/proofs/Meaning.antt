-- What an answer of the first tree means. Assumes nothing.
use mathlib.Core.Path.{◌≡◌, refl}
use mathlib.Core.List.{List}
use mathlib.Core.Logic.{◌↔◌}
use Prim.Native.Nat.{ℕ, ◌≤◌}
use native.Mathlib.Omega.{arith}
use lib.ListN.{length, take, drop}
use lib.Seq.{take-append_seam}
use Rattle.meaning.specs.Expression.{Re, marks}
use Rattle.meaning.specs.Grammar.{Bytes}
use Rattle.meaning.specs.Limits.{mark_limit, room_for}
use Rattle.meaning.specs.Promise.{Accepted, Ready, Judged, small_room, Answered, few_cells}
use Rattle.meaning.specs.Tree.{First, Other, Flag, another, alone, NoTree, erase}
use Rattle.meaning.specs.Turns.{turn_count}
use Rattle.grammar.specs.ReadPromise.{accepted_one, refused_accepted}
use Rattle.positions.specs.Erased.{erases}
use Rattle.positions.specs.Paired.{with_text}
use Rattle.positions.specs.Room.{row_length}
use Rattle.positions.specs.Turns.{texts, tree_count}

-- an answer for a pattern that is accepted, where enough is lent
pub judged_of : {pat text cells room cells' room' : List ℕ} {e : Re} {n v f : ℕ} → Answered pat text cells room n v f cells' room' → Ready pat text cells → Accepted pat e
    → Judged e text room n v f room'
judged_of (Answered.long_pattern h) g a = absurd (omega (arith, g.short_pattern))
judged_of (Answered.long_text h k) g a = absurd (omega (arith, g.short_text))
judged_of (few_cells h k j) g a = absurd (omega (arith, g.cells_enough))
judged_of (Answered.refused g' r) g a = absurd (refused_accepted r a)
judged_of (Answered.judged g' a' j) g a = rw (accepted_one a' a) at j

module _ {pat text cells room cells' room' : List ℕ} {e : Re} {n v f : ℕ} (x : Answered pat text cells room n v f cells' room') (g : Ready pat text cells) (a : Accepted pat e) where
  -- 8 is answered exactly if there is no tree
  pub no_tree_exactly_if_8 : (n ≡ 8) ↔ NoTree e text
  no_tree_exactly_if_8 = ((λ z. there (judged_of x g a) z), (λ z. back (judged_of x g a) z))
    where
      there : {n v f : ℕ} {t : List ℕ} → Judged e text room n v f t → n ≡ 8 → NoTree e text
      there (Judged.no_tree y l) z = y
      there (small_room y l) z = absurd (omega arith)
      there (Judged.tree y l w) z = absurd (omega arith)

      back : {n v f : ℕ} {t : List ℕ} → Judged e text room n v f t → NoTree e text → n ≡ 8
      back (Judged.no_tree y l) z = refl
      back (small_room y l) z = absurd (z _ y.tree)
      back (Judged.tree y l w) z = absurd (z _ y.tree)

  -- with 0 the front of the room is the first tree
  pub row_is_first : n ≡ 0 → First e text (take v room')
  row_is_first z = go (judged_of x g a) z
    where
      go : {n v f : ℕ} {t : List ℕ} → Judged e text room n v f t → n ≡ 0 → First e text (take v t)
      go (Judged.no_tree y l) z = absurd (omega arith)
      go (small_room y l) z = absurd (omega arith)
      go (Judged.tree {row = row} y l w) z = rw (take-append_seam row (drop (length row) room)) y

  -- and its marks erased it is the text
  pub row_erases_to_text : n ≡ 0 → erase (take v room') ≡ text
  row_erases_to_text z = erases (omega (arith, a.few_marks)) (row_is_first z).tree

  -- and the turn count of a mark in it is how many turns of the mark read text
  pub turns_that_read_text : {h : ℕ} (z : n ≡ 0) → Bytes text → h ≤ mark_limit → turn_count h (take v room') ≡ with_text (texts h (row_is_first z).tree)
  turns_that_read_text z b l = tree_count (omega arith) (omega (arith, a.few_marks)) b (row_is_first z).tree

  -- the flag says exactly whether there is another tree
  pub flag_is_exact : n ≡ 0 → (f ≡ 1) ↔ Other e text
  flag_is_exact z = go (judged_of x g a) z
    where
      say : {f : ℕ} → Flag e text f → (f ≡ 1) ↔ Other e text
      say (another o) = ((λ _. o), (λ _. refl))
      say (alone y) = ((λ z. absurd (omega arith)), (λ o. absurd (y o)))

      go : {n v f : ℕ} {t : List ℕ} → Judged e text room n v f t → n ≡ 0 → (f ≡ 1) ↔ Other e text
      go (Judged.no_tree y l) z = absurd (omega arith)
      go (small_room y l) z = absurd (omega arith)
      go (Judged.tree y l w) z = say w

  -- so much room always holds the row
  pub room_is_enough : room_for (marks e) (length text) ≤ length room → n ≡ 9 → ⊥
  room_is_enough h z = go (judged_of x g a) z
    where
      go : {n v f : ℕ} {t : List ℕ} → Judged e text room n v f t → n ≡ 9 → ⊥
      go (Judged.no_tree y l) z = omega arith
      go (small_room y l) z = omega (arith, row_length e 0 _ _ y.tree)
      go (Judged.tree y l w) z = omega arith
