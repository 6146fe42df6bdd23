-- What the readers' tests say of a byte. Assumes nothing.
use Rattle.std.specs.Prelude.{◌≡◌, ◌⊎◌, refl, ℕ, List, ◌<◌, ◌≤◌, length, get_or, Bool, true, false, eqb, ltb, ◌||◌, IsErr, IsErrAnd, is_some}
use Rattle.std.specs.declared.result.Result.{Result}
use Rattle.std.specs.declared.result.Result.TheVariants.{Ok, Err}
use Rattle.std.proofs.Common.{inl, inr, sym, ap, ◌∙◌}
use Rattle.std.proofs.lemmas.Bool.{ltb-false}
use Rattle.std.proofs.lemmas.Bool.Decides.{eqb_tells}
use Rattle.grammar.specs.Contract.{Stray, at_close, at_bar, at_bad, at_sign}
use Rattle.pattern.specs.Letters.{strays}
use Rattle.grammar.specs.ClassContract.{ClassStray, at_open, at_end, at_dash}
use Rattle.grammar.specs.ByteTests as tests
use Rattle.std.specs.declared.option.Option.{Option}
use Rattle.std.specs.declared.option.Option.TheVariants.{None}
use Rattle.meaning.specs.Expression.{Re, star, plus, opt}
use Rattle.kinds.specs.declared.Node.{Node}
use Rattle.meaning.specs.Grammar.{one_of, signs, class_signs}
use Rattle.grammar.specs.Machine.{Sign, is_star, is_plus, is_opt}
use Rattle.pattern.specs.Parts.{Signed, star_at, plus_at, opt_at, none_at}

pub unsigned : {s : List ℕ} {i : ℕ} → Signed s i None → i < length s → (f : Re → Re) → Sign (get_or s i 0) f → ⊥
unsigned (none_at h) = h

-- where a row has no byte
pub no_byte : {i n : ℕ} → false ≡ ltb i n → n ≤ i
no_byte e = ltb-false _ _ (sym e)

-- what `?` hands up
pub handed_up : {T E : Type 0} {e : E} (r : Result T E) → IsErr r × IsErrAnd r (λ x. x ≡ e) → r ≡ Err e
handed_up (Ok x) h = absurd h.1
handed_up (Err x) h = ap Err h.1

-- a byte that is some sign
pub record SomeSign (b : ℕ) : Type 0 where
  pub makes : Re → Re
  pub is : Sign b makes

pub some_sign : {s : List ℕ} {i : ℕ} {k : Option Node} → Signed s i k → is_some k ≡ true → SomeSign (get_or s i 0)
some_sign (star_at b) e = record { makes = star; is = tests.signed b.is is_star }
some_sign (plus_at b) e = record { makes = plus; is = tests.signed b.is is_plus }
some_sign (opt_at b) e = record { makes = opt; is = tests.signed b.is is_opt }
some_sign (none_at h) e = absurd cc

-- - [ or ]
pub class_stray : {b : ℕ} → (b ≡ 45) ⊎ ((b ≡ 91) ⊎ (b ≡ 93)) → ClassStray b
class_stray (inl e) = tests.class_stray e at_dash
class_stray (inr (inl e)) = tests.class_stray e at_open
class_stray (inr (inr e)) = tests.class_stray e at_end

-- neither of these, and no escape
pub class_plain : {b : ℕ} → ((b ≡ 45) ⊎ ((b ≡ 91) ⊎ (b ≡ 93)) → ⊥) → (b ≡ 92 → ⊥) → one_of class_signs b ≡ false
class_plain n x = tests.class_plain (λ e. n (inr (inl e))) (λ e. n (inr (inr e))) (λ e. n (inl e)) x

next_stray : {b c : ℕ} {r : Bool} → Stray c → (r ≡ true → Stray b) → (eqb b c || r) ≡ true → Stray b
next_stray {b} {c} x f h = elim (eqb_tells b c) [ inl p ↦ tests.stray p.1 x | inr p ↦ f (rw p.0 at h) ]

pub is_stray : {b : ℕ} → one_of strays b ≡ true → Stray b
is_stray {b} h =
    next_stray at_close
    (next_stray at_bar
    (next_stray (at_sign is_star)
    (next_stray (at_sign is_plus)
    (next_stray (at_sign is_opt)
    (next_stray {c = 93} at_bad (λ e. cc)))))) h

-- a byte that is none of these, and none of the others with a meaning, stands for itself
pub plain : {b : ℕ} → one_of strays b ≡ false → (b ≡ 40 → ⊥) → (b ≡ 91 → ⊥) → (b ≡ 92 → ⊥) → (b ≡ 46 → ⊥) → one_of signs b ≡ false
plain {b} h w x y z =
    tests.plain w (other 41 refl) (other 124 refl) (other 42 refl) (other 43 refl) (other 63 refl) z x (other 93 refl) y
  where
    other : (c : ℕ) → one_of strays c ≡ true → b ≡ c → ⊥
    other c t e = let x : true ≡ false = sym t ∙ ap (one_of strays) (sym e) ∙ h in cc
