-- How many decimal digits a number has. Assumes nothing.
use Rattle.std.specs.Prelude.{◌≡◌, Bool, true, false, cond, List, [], ◌∷◌, ◌++◌, ℕ, zero, suc, ◌/◌, ◌^◌, ◌≤◌, ◌<◌, ltb, length}
use Rattle.std.proofs.Common.{pow-suc, arith, length-append, lt-ltb}
use Rattle.meaning.specs.Desk.{digits}

one_more : (b : Bool) (x y k : ℕ) (l : List ℕ) → length l ≤ k → length (cond b (x ∷ []) (l ++ (y ∷ []))) ≤ suc k
one_more true x y k l h = omega arith
one_more false x y k l h = rw length-append (omega arith)

pub digits_length : (k n : ℕ) → length (digits k n) ≤ k
unfolding digits
digits_length zero n = omega arith
digits_length (suc k) n = one_more (ltb n 10) _ _ k (digits k (n / 10)) (digits_length k (n / 10))

-- where k digits suffice, more allow no others
pub digits_enough : (k j n : ℕ) → k ≤ j → n < 10 ^ suc k → digits (suc j) n ≡ digits (suc k) n
unfolding digits
digits_enough zero j n h b = rw (lt-ltb n 10 b)
digits_enough (suc k) zero n h b = absurd (omega arith)
digits_enough (suc k) (suc j) n h b =
    let b' : n / 10 < 10 ^ suc k = omega (arith, pow-suc 10 (suc k)) in
    rw (digits_enough k j (n / 10) (omega arith) b')

pub digits_few : (k n : ℕ) → k < 20 → n < 10 ^ suc k → length (digits 20 n) ≤ suc k
digits_few k n h b = rw (digits_enough k 19 n (omega arith) b) (digits_length (suc k) n)
