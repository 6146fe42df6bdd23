-- One answer for each input: two outcomes that the promise allows are the same, the lent rows included. Assumes nothing.
use mathlib.Core.Path.{◌≡◌, refl, sym, ◌∙◌, ap₂}
use mathlib.Core.Bool.{cond}
use mathlib.Core.List.{List}
use Prim.Native.Nat.{ℕ}
use lib.Dec.{eqb}
use Rattle.std.specs.Prelude.{Result, Ok, Err}
use Rattle.meaning.specs.declared.Record.{Record}
use Rattle.meaning.specs.Sheet.{Sheeted}
use Rattle.laws.specs.SheetPromise.{sheeted_one}
use Rattle.pattern.specs.declared.Refusal.TheVariants as pattern
use Rattle.sheet.specs.Answers.{number_of, value_of}
use Rattle.sheet.specs.declared.figures.Refusal.{Refusal}
use Rattle.sheet.specs.declared.figures.Refusal.TheVariants.{Pattern, LittleLent, WrongLengths, WrongMarks, MuchLast}

-- the answer that has this number and value
answer_of : ℕ → ℕ → Result ℕ Refusal
answer_of n v =
    cond (eqb n 0) (Ok v)
    (cond (eqb n 1) (Err (Pattern pattern.TooLong))
    (cond (eqb n 3) (Err LittleLent)
    (cond (eqb n 4) (Err (Pattern (pattern.NoPattern v)))
    (cond (eqb n 5) (Err (Pattern pattern.TooDeep))
    (cond (eqb n 6) (Err (Pattern pattern.ManyPositions))
    (cond (eqb n 7) (Err (Pattern pattern.ManyMarks))
    (cond (eqb n 12) (Err WrongLengths)
    (cond (eqb n 13) (Err WrongMarks) (Err MuchLast)))))))))

answer_back : (r : Result ℕ Refusal) → answer_of (number_of r) (value_of r) ≡ r
unfolding answer_of
answer_back (Ok length) = refl
answer_back (Err (Pattern pattern.TooLong)) = refl
answer_back (Err (Pattern (pattern.NoPattern place))) = refl
answer_back (Err (Pattern pattern.TooDeep)) = refl
answer_back (Err (Pattern pattern.ManyPositions)) = refl
answer_back (Err (Pattern pattern.ManyMarks)) = refl
answer_back (Err LittleLent) = refl
answer_back (Err WrongLengths) = refl
answer_back (Err WrongMarks) = refl
answer_back (Err MuchLast) = refl

pub sheet_one : {pat bytes lengths last cells room sheet cells₁ cells₂ room₁ room₂ sheet₁ sheet₂ : List ℕ} {table table₁ table₂ : List Record} (r r' : Result ℕ Refusal)
    → Sheeted pat bytes lengths last cells room table sheet (number_of r) (value_of r) cells₁ room₁ table₁ sheet₁
    → Sheeted pat bytes lengths last cells room table sheet (number_of r') (value_of r') cells₂ room₂ table₂ sheet₂
    → (r ≡ r') × (cells₁ ≡ cells₂) × (room₁ ≡ room₂) × (table₁ ≡ table₂) × (sheet₁ ≡ sheet₂)
sheet_one r r' a a' =
    let z = sheeted_one a a' in
    (sym (answer_back r) ∙ ap₂ answer_of z.0 z.1 ∙ answer_back r', z.2, z.3, z.4, z.5)
