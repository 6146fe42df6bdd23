-- What `to_lend` says is enough: with so much lent no answer is for want of cells or room. Assumes nothing.
use mathlib.Core.Path.{◌≡◌, refl}
use mathlib.Core.List.{List}
use Prim.Native.Nat.{ℕ, ◌≤◌}
use native.Mathlib.Omega.{arith}
use lib.ListN.{length}
use Rattle.meaning.specs.Expression.{Re, marks}
use Rattle.meaning.specs.Limits.{text_limit, mark_limit, cells_for, room_for}
use Rattle.meaning.specs.Promise.{Accepted, Ready, Judged, small_room, Answered, few_cells}
use Rattle.grammar.specs.ReadPromise.{refused_range}
use Rattle.tree.specs.Lending.{Enough, enough}
use Rattle.tree.proofs.Meaning.{room_is_enough}

pub enough_one : {m n c t c' t' : ℕ} → Enough m n c t → Enough m n c' t' → (c ≡ c') × (t ≡ t')
enough_one (Enough.long_text h) (Enough.long_text h') = (refl, refl)
enough_one (Enough.long_text h) (Enough.over_marks h' k) = absurd (omega arith)
enough_one (Enough.long_text h) (enough h' k) = absurd (omega arith)
enough_one (Enough.over_marks h k) (Enough.long_text h') = absurd (omega arith)
enough_one (Enough.over_marks h k) (Enough.over_marks h' k') = (refl, refl)
enough_one (Enough.over_marks h k) (enough h' k') = absurd (omega arith)
enough_one (enough h k) (Enough.long_text h') = absurd (omega arith)
enough_one (enough h k) (Enough.over_marks h' k') = absurd (omega arith)
enough_one (enough h k) (enough h' k') = (refl, refl)

-- for a text within its limit the cells are enough, and for a pattern within its the tokens too
enough_cells : {m n c t : ℕ} → Enough m n c t → n ≤ text_limit → cells_for n ≤ c
enough_cells (Enough.long_text g) h = absurd (omega arith)
enough_cells (Enough.over_marks g g') h = omega arith
enough_cells (enough g g') h = omega arith

enough_tokens : {m n c t : ℕ} → Enough m n c t → n ≤ text_limit → m ≤ mark_limit → room_for m n ≤ t
enough_tokens (Enough.long_text g) h k = absurd (omega arith)
enough_tokens (Enough.over_marks g g') h k = absurd (omega arith)
enough_tokens (enough g g') h k = omega arith

module _ {pat text cells room cells' room' : List ℕ} {n v f m c t : ℕ} (x : Answered pat text cells room n v f cells' room') (E : Enough m (length text) c t) where
  pub never_few_cells : c ≤ length cells → n ≡ 3 → ⊥
  never_few_cells l z = go x z
    where
      judged : {e : Re} {n v f : ℕ} {r : List ℕ} → Judged e text room n v f r → n ≡ 3 → ⊥
      judged (Judged.no_tree y p) z = omega arith
      judged (small_room y p) z = omega arith
      judged (Judged.tree y p w) z = omega arith

      go : {n v f : ℕ} {u r : List ℕ} → Answered pat text cells room n v f u r → n ≡ 3 → ⊥
      go (Answered.long_pattern h) z = omega arith
      go (Answered.long_text h k) z = omega arith
      go (few_cells h k j) z = omega (arith, enough_cells E k)
      go (Answered.refused g r) z = omega (arith, refused_range r)
      go (Answered.judged g a j) z = judged j z

  -- where 9 is answered, no line before 4 applies
  nine_ready : n ≡ 9 → Ready pat text cells
  nine_ready z = go x z
    where
      go : {n v f : ℕ} {u r : List ℕ} → Answered pat text cells room n v f u r → n ≡ 9 → Ready pat text cells
      go (Answered.long_pattern h) z = absurd (omega arith)
      go (Answered.long_text h k) z = absurd (omega arith)
      go (few_cells h k j) z = absurd (omega arith)
      go (Answered.refused g r) z = g
      go (Answered.judged g a j) z = g

  pub never_small_room : {e : Re} → Accepted pat e → m ≡ marks e → t ≤ length room → n ≡ 9 → ⊥
  never_small_room a i l z =
      let g = nine_ready z in
      room_is_enough x g a (omega (arith, rw i at (enough_tokens E g.short_text (rw i a.few_marks)))) z
