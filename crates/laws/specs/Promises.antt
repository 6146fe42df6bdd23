-- Each promise leaves one outcome: two that it allows for one input are the same, the lent rows included. That of the pattern reader is
-- `read_one` of `grammar`, ReadPromise.
use Rattle.std.specs.Prelude.{◌≡◌, refl, List, ℕ, length}
use Rattle.std.proofs.Common.{ap, inl, inr, arith}
use Rattle.meaning.specs.Expression.{Re}
use Rattle.meaning.specs.Tree.{Flag, another, alone}
use Rattle.grammar.specs.Place.{longest_unique}
use Rattle.grammar.specs.ReadPromise.{refused_one, refused_accepted, accepted_one}
use Rattle.positions.specs.Order.{first_one}
use Rattle.meaning.specs.Desk.{Desk, desk}
use Rattle.meaning.specs.Promise.{Judged, small_room, Answered, few_cells, Counted, no_mark, counted, Trees, none, one, more, Verdict, written}

flag_one : {e : Re} {s : List ℕ} {f f' : ℕ} → Flag e s f → Flag e s f' → f ≡ f'
flag_one (another o) (another o') = refl
flag_one (another o) (alone x) = absurd (x o)
flag_one (alone x) (another o) = absurd (x o)
flag_one (alone x) (alone x') = refl

-- number, value, flag and room of two outcomes
abbrev pub Same : ℕ → ℕ → ℕ → List ℕ → ℕ → ℕ → ℕ → List ℕ → Type 0
Same n v f room n' v' f' room' = (n ≡ n') × (v ≡ v') × (f ≡ f') × (room ≡ room')

pub judged_one : {e : Re} {s room room₁ room₂ : List ℕ} {n v f n' v' f' : ℕ} → Judged e s room n v f room₁ → Judged e s room n' v' f' room₂ → Same n v f room₁ n' v' f' room₂
judged_one (Judged.no_tree x l) (Judged.no_tree x' l') = (refl, longest_unique l l', refl, refl)
judged_one (Judged.no_tree x l) (small_room a h) = absurd (x _ a.tree)
judged_one (Judged.no_tree x l) (Judged.tree a h b) = absurd (x _ a.tree)
judged_one (small_room a h) (Judged.no_tree x l) = absurd (x _ a.tree)
judged_one (small_room a h) (small_room a' h') = (refl, ap length (first_one a a'), refl, refl)
judged_one (small_room a h) (Judged.tree a' h' b) = absurd (omega (arith, ap length (first_one a a')))
judged_one (Judged.tree a h b) (Judged.no_tree x l) = absurd (x _ a.tree)
judged_one (Judged.tree a h b) (small_room a' h') = absurd (omega (arith, ap length (first_one a a')))
judged_one {room = room} (Judged.tree a h b) (Judged.tree a' h' b') =
    let z = first_one a a' in (refl, ap length z, flag_one b b', ap (λ (r : List ℕ). written r room) z)

pub answered_one : {pat text cells room cells₁ cells₂ room₁ room₂ : List ℕ} {n v f n' v' f' : ℕ}
    → Answered pat text cells room n v f cells₁ room₁ → Answered pat text cells room n' v' f' cells₂ room₂ → Same n v f room₁ n' v' f' room₂ × (cells₁ ≡ cells₂)
answered_one (Answered.long_pattern h) (Answered.long_pattern h') = ((refl, refl, refl, refl), refl)
answered_one (Answered.long_pattern h) (Answered.long_text h' k) = absurd (omega arith)
answered_one (Answered.long_pattern h) (few_cells h' k j) = absurd (omega arith)
answered_one (Answered.long_pattern h) (Answered.refused g r) = absurd (omega arith)
answered_one (Answered.long_pattern h) (Answered.judged g a j) = absurd (omega arith)
answered_one (Answered.long_text h k) (Answered.long_pattern h') = absurd (omega arith)
answered_one (Answered.long_text h k) (Answered.long_text h' k') = ((refl, refl, refl, refl), refl)
answered_one (Answered.long_text h k) (few_cells h' k' j) = absurd (omega arith)
answered_one (Answered.long_text h k) (Answered.refused g r) = absurd (omega arith)
answered_one (Answered.long_text h k) (Answered.judged g a j) = absurd (omega arith)
answered_one (few_cells h k j) (Answered.long_pattern h') = absurd (omega arith)
answered_one (few_cells h k j) (Answered.long_text h' k') = absurd (omega arith)
answered_one (few_cells h k j) (few_cells h' k' j') = ((refl, refl, refl, refl), refl)
answered_one (few_cells h k j) (Answered.refused g r) = absurd (omega arith)
answered_one (few_cells h k j) (Answered.judged g a j') = absurd (omega arith)
answered_one (Answered.refused g r) (Answered.long_pattern h) = absurd (omega arith)
answered_one (Answered.refused g r) (Answered.long_text h k) = absurd (omega arith)
answered_one (Answered.refused g r) (few_cells h k j) = absurd (omega arith)
answered_one (Answered.refused g r) (Answered.refused g' r') = let z = refused_one r r' in ((z.0, z.1, refl, refl), refl)
answered_one (Answered.refused g r) (Answered.judged g' a j) = absurd (refused_accepted r a)
answered_one (Answered.judged g a j) (Answered.long_pattern h) = absurd (omega arith)
answered_one (Answered.judged g a j) (Answered.long_text h k) = absurd (omega arith)
answered_one (Answered.judged g a j) (few_cells h k j') = absurd (omega arith)
answered_one (Answered.judged g a j) (Answered.refused g' r) = absurd (refused_accepted r a)
answered_one (Answered.judged g a j) (Answered.judged g' a' j') = (judged_one (rw (accepted_one a a') at j) j', refl)

pub counted_one : {row : List ℕ} {mark n c n' c' : ℕ} → Counted row mark n c → Counted row mark n' c' → (n ≡ n') × (c ≡ c')
counted_one (no_mark h) (no_mark h') = (refl, refl)
counted_one (no_mark (inl h)) (counted k l) = absurd (omega arith)
counted_one (no_mark (inr h)) (counted k l) = absurd (omega arith)
counted_one (counted k l) (no_mark (inl h)) = absurd (omega arith)
counted_one (counted k l) (no_mark (inr h)) = absurd (omega arith)
counted_one (counted k l) (counted k' l') = (refl, refl)

trees_one : {e : Re} {s : List ℕ} {n n' : ℕ} → Trees e s n → Trees e s n' → n ≡ n'
trees_one (none x) (none x') = refl
trees_one (none x) (one t y) = absurd (x _ t)
trees_one (none x) (more o) = absurd (x _ o.tree_one)
trees_one (one t y) (none x) = absurd (x _ t)
trees_one (one t y) (one t' y') = refl
trees_one (one t y) (more o) = absurd (y o)
trees_one (more o) (none x) = absurd (x _ o.tree_one)
trees_one (more o) (one t y) = absurd (y o)
trees_one (more o) (more o') = refl

pub verdict_one : {pat text : List ℕ} {n n' : ℕ} → Verdict pat text n → Verdict pat text n' → n ≡ n'
verdict_one (Verdict.long_pattern h) (Verdict.long_pattern h') = refl
verdict_one (Verdict.long_pattern h) (Verdict.long_text h' k) = absurd (omega arith)
verdict_one (Verdict.long_pattern h) (Verdict.refused h' k r) = absurd (omega arith)
verdict_one (Verdict.long_pattern h) (Verdict.judged k a t) = absurd (omega arith)
verdict_one (Verdict.long_text h k) (Verdict.long_pattern h') = absurd (omega arith)
verdict_one (Verdict.long_text h k) (Verdict.long_text h' k') = refl
verdict_one (Verdict.long_text h k) (Verdict.refused h' k' r) = absurd (omega arith)
verdict_one (Verdict.long_text h k) (Verdict.judged k' a t) = absurd (omega arith)
verdict_one (Verdict.refused h k r) (Verdict.long_pattern h') = absurd (omega arith)
verdict_one (Verdict.refused h k r) (Verdict.long_text h' k') = absurd (omega arith)
verdict_one (Verdict.refused h k r) (Verdict.refused h' k' r') = (refused_one r r').0
verdict_one (Verdict.refused h k r) (Verdict.judged k' a t) = absurd (refused_accepted r a)
verdict_one (Verdict.judged k a t) (Verdict.long_pattern h') = absurd (omega arith)
verdict_one (Verdict.judged k a t) (Verdict.long_text h' k') = absurd (omega arith)
verdict_one (Verdict.judged k a t) (Verdict.refused h' k' r) = absurd (refused_accepted r a)
verdict_one (Verdict.judged k a t) (Verdict.judged k' a' t') = trees_one (rw (accepted_one a a') at t) t'

pub desk_one : {input out out' : List ℕ} → Desk input out → Desk input out' → out ≡ out'
desk_one (desk a) (desk a') = let z = answered_one a a' in rw (z.0.0, z.0.1, z.0.2, z.0.3)
