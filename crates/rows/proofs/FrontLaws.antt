-- With what the rest of a line begins. Assumes nothing.
use mathlib.Core.Path.{◌≡◌, sym, ap, ◌∙◌}
use mathlib.Core.Bool.{Bool, true, false}
use mathlib.Core.List.{List, [], ◌∷◌, ◌++◌, append_assoc}
use Prim.Native.Nat.{ℕ, ◌+◌, ◌-◌, ◌≤◌, ◌<◌}
use native.Mathlib.Omega.{arith}
use lib.ListN.{length, take, drop, get_or, length-append, length-drop, take-append-drop}
use lib.Seq.{take_all, take-append_seam, drop-append_seam}
use Rattle.meaning.specs.Desk.{token, tokens}
use Rattle.std.specs.Prelude.{Result, Ok, Err, Some, None}
use Rattle.std.specs.Result.{OkIff, result_ok}
use Rattle.std.specs.Bool.{then_some}
use Rattle.lines.specs.Parts.{Headed, Said}
use Rattle.lines.specs.Wrote.{Wrote}
use Rattle.lines.proofs.WroteLaws.{wrote_back}
use Rattle.rows.specs.Rows.{Below, more}
use Rattle.rows.specs.declared.Front.TheVariants.{Token}
use Rattle.rows.specs.Front.{NumberIn, base, Rest, Begins, FrontOf}
use Rattle.lines.proofs.PartsLaws.{headed_long}
use Rattle.rows.proofs.NumberLaws.{token_in, token_front, rest_stops, token_read}

-- what stands from i on
pub from_on : (s : List ℕ) (i : ℕ) → take (length s - i) (drop i s) ≡ drop i s
from_on s i = take_all (length s - i) (drop i s) (simp length-drop (omega arith))

-- ---- the rest of a line that has a token more

first_below : {t : ℕ} {row : List ℕ} → Below (t ∷ row) → t < 65536
first_below (more h b) = h

others_below : {t : ℕ} {row : List ℕ} → Below (t ∷ row) → Below row
others_below (more h b) = b

module _ {s : List ℕ} {t : ℕ} {row : List ℕ} (r : Rest s (t ∷ row)) where
  rest_parts : s ≡ token t ++ (tokens row ++ (10 ∷ []))
  unfolding tokens
  rest_parts = r.is ∙ append_assoc (token t) (tokens row) (10 ∷ [])

  pub rest_fits : t < 65536
  rest_fits = first_below r.below

  pub rest_token : token_in s ≡ t
  rest_token = rw rest_parts (token_read t (tokens row ++ (10 ∷ [])) rest_fits (rest_stops row))

  pub rest_headed : Headed s (token t)
  rest_headed = rw rest_parts (take-append_seam (token t) (tokens row ++ (10 ∷ [])))

  pub rest_behind : Rest (drop (length (token t)) s) row
  rest_behind = record { below = others_below r.below; is = rw rest_parts (drop-append_seam (token t) (tokens row ++ (10 ∷ []))) }

  pub rest_long : 2 ≤ length s
  rest_long =
      let long = ap length rest_parts ∙ length-append (token t) (tokens row ++ (10 ∷ [])) in
      omega (arith, long, ap length (token_front t), length-append (tokens row) (10 ∷ []))

pub rest_end : {s : List ℕ} → Rest s [] → s ≡ 10 ∷ []
unfolding tokens
rest_end r = r.is

-- ---- a rest that is no line end

-- n is the token that s seems to begin with, where that has sixteen bits
abbrev pub Guess : List ℕ → ℕ → Type 0
Guess s n = token_in s < 65536 → n ≡ token_in s

pub guess : (s : List ℕ) (a r : ℕ) → a ≡ base (get_or s 1 0) → NumberIn (take (length s - 2) (drop 2 s)) r → Guess s (a + r)
guess s a r e n h =
    let n' : NumberIn (drop 2 s) r = rw (from_on s 2) at n in
    omega (arith, n'.exact (omega arith))

module _ (s : List ℕ) (n : ℕ) (h : 2 ≤ length s) (g : Guess s n) where
  -- a rest of a line that begins so begins with n
  guessed : (t : ℕ) (row : List ℕ) → Rest s (t ∷ row) → n ≡ t
  guessed t row r = omega (arith, rest_token r, rest_fits r, g (omega (arith, rest_token r, rest_fits r)))

  pub none_big : 65535 < n → (row : List ℕ) → Rest s row → ⊥
  none_big l [] r = omega (arith, ap length (rest_end r))
  none_big l (t ∷ row) r = omega (arith, guessed t row r, rest_fits r)

  pub none_other : (Headed s (token n) → ⊥) → (row : List ℕ) → Rest s row → ⊥
  none_other l [] r = omega (arith, ap length (rest_end r))
  none_other l (t ∷ row) r = l (rw (guessed t row r) (rest_headed r))

  pub begins : (k : ℕ) → n < 65536 → k ≡ length (token n) → Headed s (token n) → Begins s n k
  begins k f e w =
      let w' : take k s ≡ token n = rw e w in
      record {
        fits = f;
        is = sym (take-append-drop k s) ∙ ap (λ (l : List ℕ). l ++ drop k s) w';
        some = omega (arith, ap length (token_front n));
        within = omega (arith, headed_long s (token n) w);
        only = only;
      }
    where
      only : ((row : List ℕ) → Rest (drop k s) row → ⊥) → (row : List ℕ) → Rest s row → ⊥
      only o [] r = omega (arith, ap length (rest_end r))
      only o (t ∷ row) r = o row (rw (e, guessed t row r) (rest_behind r))

-- ---- the token that is printed and compared

-- a number that is read as sixteen bits, or has more
pub read_fits : {E P : Type 0} (v : ℕ) (r : Result ℕ E) {t : ℕ} → OkIff r P v → result_ok r ≡ Some t → P × (v ≡ t)
read_fits v (Ok x) o e = let e' = o.1 in (o.0, (cc))
read_fits v (Err d) o e = absurd (cc)

pub read_none : {E P : Type 0} (v : ℕ) (r : Result ℕ E) → OkIff r P v → result_ok r ≡ None → P → ⊥
read_none v (Ok x) o e = absurd (cc)
read_none v (Err d) o e = o

-- what was printed stands in s, or not
module _ (s : List ℕ) {t k : ℕ} (h : 2 ≤ length s) (g : Guess s t) (f : t < 65536) where
  pub front_printed : (b : Bool) {bytes bytes' : List ℕ} {r : ℕ} → Said b (Headed s (take k bytes')) → k ≡ r → Wrote bytes 0 (token t) bytes' r → r ≤ length bytes
      → FrontOf s (then_some b (Token t k))
  front_printed true {bytes' = bytes'} {r = r} p e w room =
      let q : take k bytes' ≡ token t = rw e (wrote_back r w (omega arith) room) in
      begins s t h g k f (omega (arith, w.moved)) (rw q at p)
  front_printed false {bytes' = bytes'} {r = r} p e w room =
      let q : take k bytes' ≡ token t = rw e (wrote_back r w (omega arith) room) in
      none_other s t h g (rw q at p)
