-- A test of the numbers below n: how many it holds of, and whether it holds of any. Assumes nothing.
use Rattle.std.specs.Prelude.{ℕ, zero, suc, ◌+◌, cond, Bool, false, ◌||◌}

abbrev pub one : Bool → ℕ
one b = cond b 1 0

-- the test at 0, and how many of the rest
unfoldable pub tally : (ℕ → Bool) → ℕ → ℕ
tally f zero = zero
tally f (suc n) = one (f zero) + tally (λ p. f (suc p)) n

unfoldable pub any : (ℕ → Bool) → ℕ → Bool
any f zero = false
any f (suc n) = f zero || any (λ p. f (suc p)) n
