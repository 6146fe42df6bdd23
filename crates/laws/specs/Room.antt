-- The room is reached: for each number of marks from 1 to 64 and each length from 0 to 4096 some accepted pattern and text have a first
-- tree of exactly as many tokens as `room_for` says. For no text it is ()+ in groups with +, for a text it is a in groups with ? under one *.
use Rattle.std.specs.Prelude.{◌≡◌, refl, Bool, true, false, ◌&&◌, ℕ, zero, suc, ◌+◌, ◌-◌, ◌*◌, ◌≤◌, ◌<◌, max, leb, length, replicate}
use Rattle.std.proofs.Common.{sym, ◌∙◌, ap, inl, arith, mul-suc, mul-zero, mul-one, leb→le, lit<, length-append}
use Rattle.std.proofs.lemmas.Bool.{false≢true}
use mathlib.Core.List.{List, [], ◌∷◌, ◌++◌, cons≢nil, nil≢cons, tail-eq_of_cons-eq}
use Rattle.std.proofs.lemmas.List.{length-replicate}
use Rattle.meaning.specs.Expression.{Re, eps, pos, star, plus, opt, marks, size}
use Rattle.meaning.specs.Grammar.{Bytes, no_byte, byte, only, Is, an_atom, an_item, literal, unit, group, starred, plussed, optional, item_one, lone}
use Rattle.meaning.specs.Tree.{letter, turn, Some, some, Tree, t_eps, t_pos, t_none, t_turn, t_once, t_more, t_skip, t_take, First}
use Rattle.meaning.specs.Limits.{text_limit, mark_limit, room_for}
use Rattle.meaning.specs.Promise.{Accepted}
use Rattle.grammar.specs.ByteRow.{bytes_append, bytes_replicate}

-- an accepted pattern with M marks, and a text of n bytes whose first tree is as long as any may be
pub record Reached (M n : ℕ) : Type 0 where
  pub pattern : List ℕ
  pub text : List ℕ
  pub denotes : Re
  pub row : List ℕ
  pub pattern_bytes : Bytes pattern
  pub text_bytes : Bytes text
  pub accepted : Accepted pattern denotes
  pub all_marks : marks denotes ≡ M
  pub of_length : length text ≡ n
  pub first : First denotes text row
  pub full : length row ≡ room_for M n

-- an atom in k groups, each with the sign: as bytes, as an expression, as the row of its marks around a row
abbrev wrapped : ℕ → List ℕ → ℕ → List ℕ
wrapped sign s zero = s
wrapped sign s (suc k) = 40 ∷ ((wrapped sign s k ++ sign ∷ []) ++ 41 ∷ [])

abbrev held : (Re → Re) → Re → ℕ → Re
held f e zero = e
held f e (suc k) = f (held f e k)

abbrev nested : ℕ → ℕ → List ℕ → List ℕ
nested m zero r = r
nested m (suc k) r = turn m (nested (suc m) k r)

wrapped_length : (sign : ℕ) (s : List ℕ) (k : ℕ) → length (wrapped sign s k) ≡ length s + 3 * k
wrapped_length sign s zero = omega arith
wrapped_length sign s (suc k) = simp length-append (omega (arith, wrapped_length sign s k))

wrapped_bytes : {sign : ℕ} {s : List ℕ} → sign < 256 → Bytes s → (k : ℕ) → Bytes (wrapped sign s k)
wrapped_bytes h b zero = b
wrapped_bytes h b (suc k) = byte (lit< tt) (bytes_append (bytes_append (wrapped_bytes h b k) (byte h no_byte)) (byte (lit< tt) no_byte))

nested_length : (m k : ℕ) (r : List ℕ) → length (nested m k r) ≡ length r + 2 * k
nested_length m zero r = omega arith
nested_length m (suc k) r = simp length-append (omega (arith, nested_length (suc m) k r))

-- a sign of repetition: its byte, what it makes of an expression, and that it adds one mark and no position
record Sign : Type 0 where
  pub sign : ℕ
  pub is_byte : sign < 256
  pub makes : Re → Re
  pub signed : (s : List ℕ) (e : Re) (d : ℕ) → Is an_atom s e d → Is an_item (s ++ sign ∷ []) (makes e) d
  pub mark : (e : Re) → marks (makes e) ≡ suc (marks e)
  pub place : (e : Re) → size (makes e) ≡ size e

the_star : Sign
unfolding marks size
the_star = record { sign = 42; is_byte = lit< tt; makes = star; signed = λ s e d a. starred a; mark = λ e. refl; place = λ e. refl }

the_plus : Sign
unfolding marks size
the_plus = record { sign = 43; is_byte = lit< tt; makes = plus; signed = λ s e d a. plussed a; mark = λ e. refl; place = λ e. refl }

the_opt : Sign
unfolding marks size
the_opt = record { sign = 63; is_byte = lit< tt; makes = opt; signed = λ s e d a. optional a; mark = λ e. refl; place = λ e. refl }

-- d and k more
abbrev deeper : ℕ → ℕ → ℕ
deeper d zero = d
deeper d (suc k) = suc (deeper d k)

deeper_sum : (d k : ℕ) → deeper d k ≡ d + k
deeper_sum d zero = omega arith
deeper_sum d (suc k) = omega (arith, deeper_sum d k)

module _ (σ τ : Sign) (s : List ℕ) (e : Re) (d : ℕ) (a : Is an_atom s e d) where
  in_groups : (k : ℕ) → Is an_atom (wrapped σ.sign s k) (held σ.makes e k) (deeper d k)
  in_groups zero = a
  in_groups (suc k) = group (lone (item_one (σ.signed _ _ _ (in_groups k))))

  held_marks : (k : ℕ) → marks (held σ.makes e k) ≡ marks e + k
  held_marks zero = omega arith
  held_marks (suc k) = omega (arith, σ.mark (held σ.makes e k), held_marks k)

  held_size : (k : ℕ) → size (held σ.makes e k) ≡ size e
  held_size zero = refl
  held_size (suc k) = σ.place (held σ.makes e k) ∙ held_size k

  -- the whole pattern: k groups with the one sign, and the other sign behind
  groups_accepted : (k : ℕ) → k < mark_limit → length s ≤ 2 → d ≤ 1 → marks e ≡ 0 → size e ≤ 1 → Accepted (wrapped σ.sign s k ++ τ.sign ∷ []) (τ.makes (held σ.makes e k))
  groups_accepted k h l g no-marks places = record {
    short = simp length-append (omega (arith, wrapped_length σ.sign s k));
    depth = deeper d k;
    denotes = lone (item_one (τ.signed _ _ _ (in_groups k)));
    nesting = omega (arith, deeper_sum d k);
    few_positions = omega (arith, τ.place (held σ.makes e k), held_size k);
    few_marks = omega (arith, τ.mark (held σ.makes e k), held_marks k);
  }

  groups_bytes : (k : ℕ) → Bytes s → Bytes (wrapped σ.sign s k ++ τ.sign ∷ [])
  groups_bytes k b = bytes_append (wrapped_bytes σ.is_byte b k) (byte τ.is_byte no_byte)

  groups_marks : (k : ℕ) → marks e ≡ 0 → marks (τ.makes (held σ.makes e k)) ≡ suc k
  groups_marks k h = omega (arith, τ.mark (held σ.makes e k), held_marks k)

-- no text: () in groups with +, whose only tree is all the marks
none_tree : (k m : ℕ) → Tree m (held plus eps k) [] (nested m k [])
none_tree zero m = t_eps
none_tree (suc k) m = t_once (none_tree k (suc m))

none_only : (k m : ℕ) (s r : List ℕ) → s ≡ [] → Tree m (held plus eps k) s r → nested m k [] ≡ r
none_only zero m s r e t_eps = refl
none_only (suc k) m s r e (t_once t) = ap (turn m) (none_only k (suc m) _ _ e t)
none_only (suc k) m s r e (t_more some t n u) = absurd (cons≢nil e)

none_first : (k : ℕ) → First (held plus eps k) [] (nested 0 k [])
none_first k = record { tree = none_tree k 0; first = λ r t. inl (none_only k 0 [] r refl t) }

-- a text of letters a: a in groups with ? reads one of them, in all its marks
abbrev a : Re
a = pos (only 97)

one_tree : (k m : ℕ) → Tree m (held opt a k) (97 ∷ []) (nested m k (letter 97 ∷ []))
one_tree zero m = t_pos refl
one_tree (suc k) m = t_take some (one_tree k (suc m))

only_eq : (c b : ℕ) → only c b ≡ true → b ≡ c
only_eq c b e = go (leb c b) (leb b c) refl refl e
  where
    go : (x y : Bool) → leb c b ≡ x → leb b c ≡ y → x && y ≡ true → b ≡ c
    go true true p q e = omega (arith, leb→le c b (rw p tt), leb→le b c (rw q tt))
    go true false p q e = absurd (false≢true e)
    go false y p q e = absurd (false≢true e)

one_only : (k m : ℕ) (s r : List ℕ) → Some s → Tree m (held opt a k) s r → (s ≡ 97 ∷ []) × (r ≡ nested m k (letter 97 ∷ []))
one_only zero m s r n (t_pos {b = b} e) = let h = only_eq 97 b e in (rw h, rw h)
one_only (suc k) m s r n t_skip = elim n [ ]
one_only (suc k) m s r n (t_take n' t) = let h = one_only k (suc m) _ _ n t in (h.0, ap (turn m) h.1)

-- n of them under one *
abbrev many : ℕ → ℕ → List ℕ
many k zero = []
many k (suc n) = turn 0 (nested 1 k (letter 97 ∷ [])) ++ many k n

many_tree : (k n : ℕ) → Tree 0 (star (held opt a k)) (replicate n 97) (many k n)
many_tree k zero = t_none
many_tree k (suc n) = t_turn {s₁ = 97 ∷ []} some (one_tree k 1) (many_tree k n)

many_only : (k n : ℕ) (s r : List ℕ) → s ≡ replicate n 97 → Tree 0 (star (held opt a k)) s r → many k n ≡ r
many_only k zero s r e t_none = refl
many_only k (suc n) s r e t_none = absurd (nil≢cons e)
many_only k zero s r e (t_turn some t u) = absurd (cons≢nil e)
many_only k (suc n) _ _ e (t_turn {s₁ = s₁} {s₂ = s₂} {r₁ = r₁} {r₂ = r₂} h t u) =
    let o = one_only k 1 s₁ r₁ h t in
    let rest : s₂ ≡ replicate n 97 = tail-eq_of_cons-eq (ap (λ (l : List ℕ). l ++ s₂) (sym o.0) ∙ e) in
    rw (o.1, many_only k n s₂ r₂ rest u)

many_length : (k n : ℕ) → length (many k n) ≡ n + 2 * (suc k * n)
many_length k zero = omega (arith, mul-zero (suc k))
many_length k (suc n) = simp (length-append, nested_length) (omega (arith, many_length k n, mul-suc (suc k) n))

-- for each number of marks and each length
pub reached : (M n : ℕ) → 1 ≤ M → M ≤ mark_limit → n ≤ text_limit → Reached M n
unfolding the_star the_plus the_opt marks size
reached zero n h l g = absurd (omega arith)
reached (suc k) zero h l g = record {
  pattern = _;
  text = [];
  denotes = held plus eps (suc k);
  row = nested 0 (suc k) [];
  pattern_bytes = groups_bytes the_plus the_plus _ eps 1 unit k (byte (lit< tt) (byte (lit< tt) no_byte));
  text_bytes = no_byte;
  accepted = groups_accepted the_plus the_plus _ eps 1 unit k (omega arith) (omega arith) (omega arith) refl (omega arith);
  all_marks = groups_marks the_plus the_plus _ eps 1 unit k refl;
  of_length = refl;
  first = none_first (suc k);
  full = omega (arith, nested_length 0 (suc k) [], mul-one (suc k));
}
reached (suc k) (suc n) h l g = record {
  pattern = _;
  text = replicate (suc n) 97;
  denotes = star (held opt a k);
  row = many k (suc n);
  pattern_bytes = groups_bytes the_opt the_star _ a 0 (literal refl) k (byte (lit< tt) no_byte);
  text_bytes = bytes_replicate (suc n) (lit< tt);
  accepted = groups_accepted the_opt the_star _ a 0 (literal refl) k (omega arith) (omega arith) (omega arith) refl (omega arith);
  all_marks = groups_marks the_opt the_star _ a 0 (literal refl) k refl;
  of_length = length-replicate (suc n) 97;
  first = record { tree = many_tree k (suc n); first = λ r t. inl (many_only k (suc n) _ r refl t) };
  full = let e : max (suc n) 1 ≡ suc n = omega arith in rw e (many_length k (suc n));
}
