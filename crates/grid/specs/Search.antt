-- Whether and where a test of indices holds.
use Rattle.std.specs.Prelude.{ℕ, zero, suc, Bool, false, cond, ◌||◌, Some, None, Option}

-- the first of the n indices from i on at which f holds
abbrev pub first_where : (ℕ → Bool) → ℕ → ℕ → Option ℕ
first_where f i zero = None
first_where f i (suc n) = cond (f i) (Some i) (first_where f (suc i) n)

-- the last index below n at which f holds, and 0 where there is none
abbrev pub last_where : (ℕ → Bool) → ℕ → ℕ
last_where f zero = 0
last_where f (suc n) = cond (f n) n (last_where f n)

-- f holds at one of the n indices from i on
abbrev pub any_where : (ℕ → Bool) → ℕ → ℕ → Bool
any_where f i zero = false
any_where f i (suc n) = any_where f (suc i) n || f i
