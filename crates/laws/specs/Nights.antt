-- A night leaves one outcome, and a night that follows another makes one night with it. Each report has a number of one digit, and a row.
use Rattle.std.specs.Prelude.{◌≡◌, refl, List, [], ◌∷◌, ◌++◌, ℕ, suc, ◌<◌, length, drop}
use Rattle.std.proofs.Common.{ap, arith, lit<}
use Rattle.meaning.specs.Expression.{Re}
use Rattle.meaning.specs.Promise.{Judged, small_room}
use Rattle.meaning.specs.Night.{reports_in, Report, Night, no_more, then}
use Rattle.grammar.specs.Each.{Each, each_none, each_more}
use Rattle.laws.specs.Promises.{judged_one}

pub report_one : {e : Re} {text room row row' room₁ room₂ : List ℕ} {n n' : ℕ} → Report e text room n row room₁ → Report e text room n' row' room₂
    → (n ≡ n') × (row ≡ row') × (room₁ ≡ room₂)
report_one {e = e} {text = text} {room = room} r r' = one r r'
  where
    one : {n n' : ℕ} {row row' room₁ room₂ : List ℕ} → Report e text room n row room₁ → Report e text room n' row' room₂ → (n ≡ n') × (row ≡ row') × (room₁ ≡ room₂)
    one (Report.long_text h) (Report.long_text h') = (refl, refl, refl)
    one (Report.long_text h) (Report.judged h' j) = absurd (omega arith)
    one (Report.judged h j) (Report.long_text h') = absurd (omega arith)
    one (Report.judged h j) (Report.judged h' j') = let z = judged_one j j' in (z.0, rw (z.0, z.1, z.3), z.3)

-- the numbers, the rows and the room at the end
pub night_one : {e : Re} {texts rows rows' : List (List ℕ)} {room numbers numbers' room₁ room₂ : List ℕ} → Night e texts room numbers rows room₁ → Night e texts room numbers' rows' room₂
    → (numbers ≡ numbers') × (rows ≡ rows') × (room₁ ≡ room₂)
night_one no_more no_more = (refl, refl, refl)
night_one (then r t) (then r' t') =
    let z = report_one r r' in
    let y = night_one (rw z.2 at t) t' in
    (rw (z.0, y.0), rw (z.1, y.1), y.2)

-- a night, and another from the room that it left
pub night_append : {e : Re} {texts texts' rows rows' : List (List ℕ)} {room room₁ room₂ numbers numbers' : List ℕ} → Night e texts room numbers rows room₁
    → Night e texts' room₁ numbers' rows' room₂ → Night e (texts ++ texts') room (numbers ++ numbers') (rows ++ rows') room₂
night_append no_more t = t
night_append (then r s) t = then r (night_append s t)

-- a night, and one report more
pub night_next : {e : Re} {texts rows : List (List ℕ)} {text row room room₁ room₂ numbers : List ℕ} {n : ℕ} → Night e texts room numbers rows room₁
    → Report e text room₁ n row room₂ → Night e (texts ++ (text ∷ [])) room (numbers ++ (n ∷ [])) (rows ++ (row ∷ [])) room₂
night_next t r = night_append t (then r no_more)

pub report_number : {e : Re} {text room row room' : List ℕ} {n : ℕ} → Report e text room n row room' → n < 10
report_number {e = e} {text = text} {room = room} r = one r
  where
    one : {n : ℕ} {row room' : List ℕ} → Report e text room n row room' → n < 10
    one (Report.long_text h) = lit< tt
    one (Report.judged h (Judged.no_tree x l)) = lit< tt
    one (Report.judged h (small_room a g)) = lit< tt
    one (Report.judged h (Judged.tree a g f)) = lit< tt

pub night_numbers : {e : Re} {texts rows : List (List ℕ)} {room numbers room' : List ℕ} → Night e texts room numbers rows room' → Each (λ n. n < 10) numbers
night_numbers no_more = each_none
night_numbers (then r t) = each_more (report_number r) (night_numbers t)

pub night_lengths : {e : Re} {texts rows : List (List ℕ)} {room numbers room' : List ℕ} → Night e texts room numbers rows room'
    → (length numbers ≡ length texts) × (length rows ≡ length texts)
night_lengths no_more = (refl, refl)
night_lengths (then r t) = let z = night_lengths t in (ap suc z.0, ap suc z.1)

pub length_reports : (lengths bytes : List ℕ) → length (reports_in lengths bytes) ≡ length lengths
unfolding reports_in
length_reports [] bytes = refl
length_reports (n ∷ lengths) bytes = ap suc (length_reports lengths (drop n bytes))
