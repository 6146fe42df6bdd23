-- One outcome for each input of the calls as C sees them. Assumes nothing.
use Rattle.std.specs.Prelude.{◌≡◌, List, [], ◌∷◌, ℕ}
use Rattle.std.proofs.Common.{sym, ap, ◌∙◌}
use Rattle.meaning.specs.ReadPattern.{ReadPattern}
use Rattle.meaning.specs.declared.Record.{Record}
use Rattle.meaning.specs.Calls.{in_front, FirstTreeCall, ReadCall, TurnsCall, SheetCall}
use Rattle.grammar.specs.ReadPromise.{read_one}
use Rattle.laws.specs.Promises.{answered_one, counted_one}
use Rattle.laws.specs.SheetPromise.{sheeted_one}

-- the same figures leave the same out
same_out : (out figures figures' : List ℕ) {out₁ out₂ : List ℕ} → figures ≡ figures' → out₁ ≡ in_front figures out → out₂ ≡ in_front figures' out → out₁ ≡ out₂
same_out out figures figures' e a b = a ∙ ap (λ (l : List ℕ). in_front l out) e ∙ sym b

pub first_tree_call_one : {pat text cells room out cells₁ cells₂ room₁ room₂ out₁ out₂ : List ℕ} {r r' : ℕ}
    → FirstTreeCall pat text cells room out r cells₁ room₁ out₁ → FirstTreeCall pat text cells room out r' cells₂ room₂ out₂
    → (r ≡ r') × (cells₁ ≡ cells₂) × (room₁ ≡ room₂) × (out₁ ≡ out₂)
first_tree_call_one {out = out} a b =
    let z = answered_one a.answered b.answered in
    let e = ap (λ (v : ℕ). v ∷ a.flag ∷ []) z.0.1 ∙ ap (λ (f : ℕ). b.value ∷ f ∷ []) z.0.2 in
    (z.0.0, z.1, z.0.3, same_out out _ _ e a.told b.told)

pub read_call_one : {pat out out₁ out₂ : List ℕ} {r r' : ℕ} → ReadCall pat out r out₁ → ReadCall pat out r' out₂ → (r ≡ r') × (out₁ ≡ out₂)
read_call_one {out = out} a b =
    let z = read_one a.read b.read in
    let e = ap (λ (v : ℕ). v ∷ a.parts.positions ∷ a.parts.marks ∷ []) z.1 ∙ ap (λ (p : ReadPattern). b.value ∷ p.positions ∷ p.marks ∷ []) z.2 in
    (z.0, same_out out _ _ e a.told b.told)

pub turns_call_one : {row out out₁ out₂ : List ℕ} {mark r r' : ℕ} → TurnsCall row mark out r out₁ → TurnsCall row mark out r' out₂ → (r ≡ r') × (out₁ ≡ out₂)
turns_call_one {out = out} a b =
    let z = counted_one a.counted b.counted in
    (z.0, same_out out _ _ (ap (λ (c : ℕ). c ∷ []) z.1) a.told b.told)

pub sheet_call_one : {pat bytes lengths last cells room sheet out cells₁ cells₂ room₁ room₂ sheet₁ sheet₂ out₁ out₂ : List ℕ} {table table₁ table₂ : List Record} {r r' : ℕ}
    → SheetCall pat bytes lengths last cells room table sheet out r cells₁ room₁ table₁ sheet₁ out₁
    → SheetCall pat bytes lengths last cells room table sheet out r' cells₂ room₂ table₂ sheet₂ out₂
    → (r ≡ r') × (cells₁ ≡ cells₂) × (room₁ ≡ room₂) × (table₁ ≡ table₂) × (sheet₁ ≡ sheet₂) × (out₁ ≡ out₂)
sheet_call_one {out = out} a b =
    let z = sheeted_one a.sheeted b.sheeted in
    (z.0, z.2, z.3, z.4, z.5, same_out out _ _ (ap (λ (v : ℕ). v ∷ []) z.1) a.told b.told)
