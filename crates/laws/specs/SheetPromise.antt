-- The promise of the night sheet leaves one outcome: the number, the value, and the cells, the tree room, the table and the sheet afterwards.
use Rattle.std.specs.Prelude.{◌≡◌, refl, List, ◌⊎◌, ℕ, ◌<◌, length}
use Rattle.std.proofs.Common.{ap, ◌∙◌, inl, inr, arith}
use Rattle.meaning.specs.declared.Record.{Record}
use Rattle.meaning.specs.Expression.{Re, marks}
use Rattle.meaning.specs.Limits.{report_limit, night_cells, sheet_bytes}
use Rattle.meaning.specs.Promise.{Accepted}
use Rattle.meaning.specs.Night.{sum}
use Rattle.meaning.specs.Sheet.{SheetLent, LengthsRight, MarksRight, Sheeted, little_lent, wrong_lengths, wrong_marks, much_last, sheeted}
use Rattle.grammar.specs.ReadPromise.{refused_one, refused_accepted, accepted_one}
use Rattle.laws.specs.Nights.{night_one}

-- 3, 12 and 13 exclude what says that they do not apply
lent_enough : {pat cells sheet : List ℕ} → SheetLent pat cells sheet → (length cells < night_cells) ⊎ (length sheet < sheet_bytes) → ⊥
lent_enough g (inl h) = let z = g.cells_enough in omega arith
lent_enough g (inr h) = let z = g.sheet_enough in omega arith

lengths_right : {bytes lengths : List ℕ} → LengthsRight bytes lengths → (report_limit < length lengths) ⊎ (sum lengths ≡ length bytes → ⊥) → ⊥
lengths_right l (inl h) = let z = l.few_reports in omega arith
lengths_right l (inr x) = x l.adds_up

marks_right : {pat last : List ℕ} {table : List Record} {e e' : Re} → Accepted pat e → Accepted pat e' → MarksRight e' table last
    → (length table ≡ marks e → ⊥) ⊎ (length last ≡ marks e → ⊥) → ⊥
marks_right a a' m (inl x) = x (m.each_record ∙ ap marks (accepted_one a' a))
marks_right a a' m (inr x) = x (m.each_last ∙ ap marks (accepted_one a' a))

-- number, value, cells, room, table and sheet of two outcomes
abbrev pub Alike : ℕ → ℕ → List ℕ → List ℕ → List Record → List ℕ → ℕ → ℕ → List ℕ → List ℕ → List Record → List ℕ → Type 0
Alike n v cells room table sheet n' v' cells' room' table' sheet' = (n ≡ n') × (v ≡ v') × (cells ≡ cells') × (room ≡ room') × (table ≡ table') × (sheet ≡ sheet')

pub sheeted_one : {pat bytes lengths last cells room sheet cells₁ cells₂ room₁ room₂ sheet₁ sheet₂ : List ℕ} {table table₁ table₂ : List Record} {n v n' v' : ℕ}
    → Sheeted pat bytes lengths last cells room table sheet n v cells₁ room₁ table₁ sheet₁
    → Sheeted pat bytes lengths last cells room table sheet n' v' cells₂ room₂ table₂ sheet₂
    → Alike n v cells₁ room₁ table₁ sheet₁ n' v' cells₂ room₂ table₂ sheet₂
sheeted_one (Sheeted.long_pattern h) (Sheeted.long_pattern h') = (refl, refl, refl, refl, refl, refl)
sheeted_one (Sheeted.long_pattern h) (little_lent h' k') = absurd (omega arith)
sheeted_one (Sheeted.long_pattern h) (Sheeted.refused g' r') = absurd (omega arith)
sheeted_one (Sheeted.long_pattern h) (wrong_lengths g' a' x') = absurd (omega arith)
sheeted_one (Sheeted.long_pattern h) (wrong_marks g' a' l' x') = absurd (omega arith)
sheeted_one (Sheeted.long_pattern h) (much_last g' a' l' m' x') = absurd (omega arith)
sheeted_one (Sheeted.long_pattern h) (sheeted g' a' l' m' k' t') = absurd (omega arith)
sheeted_one (little_lent h k) (Sheeted.long_pattern h') = absurd (omega arith)
sheeted_one (little_lent h k) (little_lent h' k') = (refl, refl, refl, refl, refl, refl)
sheeted_one (little_lent h k) (Sheeted.refused g' r') = absurd (lent_enough g' k)
sheeted_one (little_lent h k) (wrong_lengths g' a' x') = absurd (lent_enough g' k)
sheeted_one (little_lent h k) (wrong_marks g' a' l' x') = absurd (lent_enough g' k)
sheeted_one (little_lent h k) (much_last g' a' l' m' x') = absurd (lent_enough g' k)
sheeted_one (little_lent h k) (sheeted g' a' l' m' k' t') = absurd (lent_enough g' k)
sheeted_one (Sheeted.refused g r) (Sheeted.long_pattern h') = absurd (omega arith)
sheeted_one (Sheeted.refused g r) (little_lent h' k') = absurd (lent_enough g k')
sheeted_one (Sheeted.refused g r) (Sheeted.refused g' r') = let z = refused_one r r' in (z.0, z.1, refl, refl, refl, refl)
sheeted_one (Sheeted.refused g r) (wrong_lengths g' a' x') = absurd (refused_accepted r a')
sheeted_one (Sheeted.refused g r) (wrong_marks g' a' l' x') = absurd (refused_accepted r a')
sheeted_one (Sheeted.refused g r) (much_last g' a' l' m' x') = absurd (refused_accepted r a')
sheeted_one (Sheeted.refused g r) (sheeted g' a' l' m' k' t') = absurd (refused_accepted r a')
sheeted_one (wrong_lengths g a x) (Sheeted.long_pattern h') = absurd (omega arith)
sheeted_one (wrong_lengths g a x) (little_lent h' k') = absurd (lent_enough g k')
sheeted_one (wrong_lengths g a x) (Sheeted.refused g' r') = absurd (refused_accepted r' a)
sheeted_one (wrong_lengths g a x) (wrong_lengths g' a' x') = (refl, refl, refl, refl, refl, refl)
sheeted_one (wrong_lengths g a x) (wrong_marks g' a' l' x') = absurd (lengths_right l' x)
sheeted_one (wrong_lengths g a x) (much_last g' a' l' m' x') = absurd (lengths_right l' x)
sheeted_one (wrong_lengths g a x) (sheeted g' a' l' m' k' t') = absurd (lengths_right l' x)
sheeted_one (wrong_marks g a l x) (Sheeted.long_pattern h') = absurd (omega arith)
sheeted_one (wrong_marks g a l x) (little_lent h' k') = absurd (lent_enough g k')
sheeted_one (wrong_marks g a l x) (Sheeted.refused g' r') = absurd (refused_accepted r' a)
sheeted_one (wrong_marks g a l x) (wrong_lengths g' a' x') = absurd (lengths_right l x')
sheeted_one (wrong_marks g a l x) (wrong_marks g' a' l' x') = (refl, refl, refl, refl, refl, refl)
sheeted_one (wrong_marks g a l x) (much_last g' a' l' m' x') = absurd (marks_right a a' m' x)
sheeted_one (wrong_marks g a l x) (sheeted g' a' l' m' k' t') = absurd (marks_right a a' m' x)
sheeted_one (much_last g a l m x) (Sheeted.long_pattern h') = absurd (omega arith)
sheeted_one (much_last g a l m x) (little_lent h' k') = absurd (lent_enough g k')
sheeted_one (much_last g a l m x) (Sheeted.refused g' r') = absurd (refused_accepted r' a)
sheeted_one (much_last g a l m x) (wrong_lengths g' a' x') = absurd (lengths_right l x')
sheeted_one (much_last g a l m x) (wrong_marks g' a' l' x') = absurd (marks_right a' a m x')
sheeted_one (much_last g a l m x) (much_last g' a' l' m' x') = (refl, refl, refl, refl, refl, refl)
sheeted_one (much_last g a l m x) (sheeted g' a' l' m' k' t') = absurd (omega arith)
sheeted_one (sheeted g a l m k t) (Sheeted.long_pattern h') = absurd (omega arith)
sheeted_one (sheeted g a l m k t) (little_lent h' k') = absurd (lent_enough g k')
sheeted_one (sheeted g a l m k t) (Sheeted.refused g' r') = absurd (refused_accepted r' a)
sheeted_one (sheeted g a l m k t) (wrong_lengths g' a' x') = absurd (lengths_right l x')
sheeted_one (sheeted g a l m k t) (wrong_marks g' a' l' x') = absurd (marks_right a' a m x')
sheeted_one (sheeted g a l m k t) (much_last g' a' l' m' x') = absurd (omega arith)
sheeted_one (sheeted g a l m k t) (sheeted g' a' l' m' k' t') =
    let z = accepted_one a a' in
    let y = night_one (rw z at t) t' in
    (refl, rw (z, y.0, y.1), refl, y.2, rw (z, y.1), rw (z, y.0, y.1))
