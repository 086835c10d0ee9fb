-- Knots and control points as streams: what is counted from an index on is a stream again, so that the recurrences subtract no index.
use Rattle.std.proofs.Common.{◌≡◌, ℕ, zero, suc, ◌+◌, ◌≤◌, refl, ap, arith}

-- i + n, by recursion on i, so that it computes where i does
infixl 60 ◌⊹◌
abbrev pub ◌⊹◌ : ℕ → ℕ → ℕ
zero ⊹ n = n
suc i ⊹ n = suc (i ⊹ n)

module _ {A : Type 0} where
  abbrev pub tail : (ℕ → A) → ℕ → A
  tail u i = u (suc i)

  abbrev pub drop : ℕ → (ℕ → A) → ℕ → A
  drop n u i = u (n ⊹ i)

  abbrev pub cons : A → (ℕ → A) → ℕ → A
  cons a u zero = a
  cons a u (suc i) = u i

pub plus_is : (i n : ℕ) → i ⊹ n ≡ i + n
plus_is zero n = omega arith
plus_is (suc i) n = omega (arith, plus_is i n)

pub plus_zero : (n : ℕ) → n ⊹ 0 ≡ n
plus_zero zero = refl
plus_zero (suc n) = ap suc (plus_zero n)

pub plus_suc : (q d : ℕ) → q ⊹ suc d ≡ suc (q ⊹ d)
plus_suc zero d = refl
plus_suc (suc q) d = ap suc (plus_suc q d)

pub plus_le : (j d : ℕ) → d ≤ j ⊹ d
plus_le j d = omega (arith, plus_is j d)
