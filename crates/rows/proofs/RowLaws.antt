-- A TREE line read back: token by token, the whole line, and that it is the row that was printed. Assumes nothing.
use mathlib.Core.Path.{◌≡◌, refl, sym, ap, ◌∙◌}
use mathlib.Core.List.{List, [], ◌∷◌, ◌++◌, append_assoc}
use Prim.Native.Nat.{ℕ, ◌+◌, ◌≤◌, ◌<◌}
use native.Mathlib.Omega.{arith}
use lib.ListN.{length, take, drop, set, length-append, length-drop, take-append-drop}
use lib.Seq.{sets, length-sets}
use Rattle.bits.proofs.Writing.{sets_then, sets_front}
use Rattle.meaning.specs.Promise.{written}
use Rattle.meaning.specs.Desk.{token, tokens, tree_line}
use Rattle.std.specs.Prelude.{Option, Some, None, Result, Ok, Err}
use Rattle.std.specs.Option.{ok_or}
use Rattle.rows.specs.declared.RowError.{RowError}
use Rattle.rows.specs.declared.RowError.TheVariants.{SmallRoom}
use Rattle.lines.specs.Parts.{Headed}
use Rattle.lines.specs.Wrote.{Wrote}
use Rattle.rows.specs.Rows.{Below, none, more, Line, RowOf}
use Rattle.rows.specs.Front.{Rest, Begins, Put, Finds}
use Rattle.lines.proofs.DeskLaws.{tokens_last}
use Rattle.lines.proofs.WroteLaws.{wrote_back}
use Rattle.rows.proofs.FrontLaws.{rest_token, rest_behind, rest_long, rest_end}

-- ---- token by token

below_last : {row : List ℕ} {t : ℕ} → Below row → t < 65536 → Below (row ++ (t ∷ []))
below_last none h = more h none
below_last (more g b) h = more g (below_last b h)

-- what stands before the rest is n tokens, put into the room as far as it goes; s is no rest of a line if the rest is none
pub record Past (s room rest : List ℕ) (n : ℕ) (room' : List ℕ) : Type 0 where
  pub done : List ℕ
  pub below : Below done
  pub is : s ≡ tokens done ++ rest
  pub counted : n ≡ length done
  pub put : room' ≡ sets room 0 done
  pub few : n + length rest ≤ length s
  pub only : ((row : List ℕ) → Rest rest row → ⊥) → (row : List ℕ) → Rest s row → ⊥

pub past_none : (s room : List ℕ) → Past s room s 0 room
unfolding tokens
past_none s room = record { done = []; below = none; is = refl; counted = refl; put = refl; few = omega arith; only = λ f. f }

module _ {s room rest : List ℕ} {n : ℕ} {room' : List ℕ} (p : Past s room rest n room') where
  pub past_kept : length room' ≡ length room
  past_kept = ap length p.put ∙ length-sets room 0 p.done

  pub past_more : (t k : ℕ) {room'' : List ℕ} → Begins rest t k → room'' ≡ set room' n t → Past s room (drop k rest) (n + 1) room''
  past_more t k b e =
      let n' : n ≡ 0 + length p.done = omega (arith, p.counted) in
      record {
        done = p.done ++ (t ∷ []);
        below = below_last p.below b.fits;
        is = p.is ∙ ap (λ (l : List ℕ). tokens p.done ++ l) b.is ∙ sym (append_assoc (tokens p.done) (token t) (drop k rest)) ∙ (rw (tokens_last p.done t));
        counted = rw length-append (omega (arith, p.counted));
        put = e ∙ (rw (p.put, n') (sets_then room 0 p.done (t ∷ [])));
        few = omega (arith, p.few, b.some, b.within, length-drop k rest);
        only = λ f. p.only (b.only f);
      }

  pub past_end : rest ≡ 10 ∷ [] → Put (Rest s) room n room'
  past_end e = record {
    row = p.done;
    is = record { below = p.below; is = p.is ∙ ap (λ (l : List ℕ). tokens p.done ++ l) e };
    counted = p.counted;
    put = p.put;
  }

-- ---- the whole line

abbrev pub word_tree : List ℕ
word_tree = 84 ∷ 82 ∷ 69 ∷ 69 ∷ []

line_rest : {line row : List ℕ} → Line line row → Rest (drop 4 line) row
unfolding tree_line
line_rest l = record { below = l.below; is = ap (drop 4) l.is }

pub line_headed : {line row : List ℕ} → Line line row → Headed line word_tree
unfolding tree_line
line_headed l = ap (take 4) l.is

module _ (line : List ℕ) (h : Headed line word_tree) where
  rest_line : {row : List ℕ} → Rest (drop 4 line) row → Line line row
  unfolding tree_line
  rest_line {row} r = record { below = r.below; is = sym (take-append-drop 4 line) ∙ (rw (h, r.is)) }

  pub found_line : (room : List ℕ) (f : Option ℕ) (room' : List ℕ) → Finds (Rest (drop 4 line)) room f room' → Finds (Line line) room f room'
  found_line room (Some n) room' p = record { row = p.row; is = rest_line p.is; counted = p.counted; put = p.put }
  found_line room None room' p = λ row l. p row (line_rest l)

-- ---- one row for each line

rests_one : {s : List ℕ} (row row' : List ℕ) → Rest s row → Rest s row' → row ≡ row'
rests_one [] [] r r' = refl
rests_one [] (t ∷ row') r r' = absurd (omega (arith, rest_long r', ap length (rest_end r)))
rests_one (t ∷ row) [] r r' = absurd (omega (arith, rest_long r, ap length (rest_end r')))
rests_one {s = s} (t ∷ row) (t' ∷ row') r r' =
    let e : t ≡ t' = sym (rest_token r) ∙ rest_token r' in
    let e' : row ≡ row' = rests_one {s = drop {A = ℕ} (length (token t)) s} row row' (rest_behind r) (rw (sym e) at (rest_behind r')) in
    rw (e, e')

pub line_one : {line : List ℕ} {row row' : List ℕ} → Line line row → Line line row' → row ≡ row'
line_one {line} {row} {row'} l l' = rests_one row row' (line_rest l) (line_rest l')

-- `tree_line` tells rows of numbers of sixteen bits apart
pub tree_line_one : {row row' : List ℕ} → Below row → Below row' → tree_line row ≡ tree_line row' → row ≡ row'
tree_line_one b b' e = line_one (record { below = b; is = refl }) (record { below = b'; is = e })

-- ---- the room

-- where `ok_or` answers an error, there was no value
pub no_value : {T E : Type 0} (o : Option T) (e d : E) → ok_or o e ≡ Err d → (o ≡ None) × (e ≡ d)
no_value None e d p = (refl, (cc))
no_value (Some x) e d p = absurd (cc)

module _ {line spare : List ℕ} {n : ℕ} {spare' : List ℕ} (room : List ℕ) (p : Put (Line line) spare n spare') where
  pub row_small : length room < n → RowOf line room (Err (SmallRoom n)) room
  row_small h = rw p.counted (RowOf.small_room p.is (omega (arith, p.counted)))

  filled : (f : Option ℕ) (room' : List ℕ) → Finds (Line line) room f room' → room' ≡ sets room 0 p.row
  filled (Some m) room' q = q.put ∙ ap (sets room 0) (line_one q.is p.is)
  filled None room' q = absurd (q p.row p.is)

  pub row_held : (f : Option ℕ) (room' : List ℕ) → n ≤ length room → Finds (Line line) room f room' → RowOf line room (Ok n) room'
  row_held f room' h q =
      let fits : length p.row ≤ length room = omega (arith, p.counted) in
      rw (filled f room' q, sets_front room p.row fits, p.counted) (RowOf.tokens p.is fits)

-- ---- one outcome

pub row_of_one : {line room room' room'' : List ℕ} {r r' : Result ℕ RowError} → RowOf line room r room' → RowOf line room r' room'' → (r ≡ r') × (room' ≡ room'')
row_of_one {room} (RowOf.tokens l h) (RowOf.tokens l' h') =
    let e = line_one l l' in (ap (λ (x : List ℕ). Ok (length x)) e, ap (λ (x : List ℕ). written x room) e)
row_of_one (RowOf.tokens l h) (RowOf.small_room l' h') = absurd (omega (arith, ap length (line_one l l')))
row_of_one (RowOf.tokens l h) (RowOf.no_row never) = absurd (never _ l)
row_of_one (RowOf.small_room l h) (RowOf.tokens l' h') = absurd (omega (arith, ap length (line_one l l')))
row_of_one (RowOf.small_room l h) (RowOf.small_room l' h') = (ap (λ (x : List ℕ). Err (SmallRoom (length x))) (line_one l l'), refl)
row_of_one (RowOf.small_room l h) (RowOf.no_row never) = absurd (never _ l)
row_of_one (RowOf.no_row never) (RowOf.tokens l h) = absurd (never _ l)
row_of_one (RowOf.no_row never) (RowOf.small_room l h) = absurd (never _ l)
row_of_one (RowOf.no_row never) (RowOf.no_row never') = (refl, refl)

-- ---- what was printed is read back

-- a TREE line that the printer put into `out`, which holds its n bytes
pub round_trip : {out out' row room room' : List ℕ} {at k : ℕ} {r : Result ℕ RowError} (n : ℕ) → Below row
    → Wrote out at (tree_line row) out' k → k ≡ at + n → k ≤ length out
    → length row ≤ length room → RowOf (take n (drop at out')) room r room' → (r ≡ Ok (length row)) × (room' ≡ written row room)
round_trip n b w e h f p = row_of_one p (RowOf.tokens (record { below = b; is = wrote_back n w e h }) f)
