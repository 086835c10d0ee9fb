-- The laws of the blend, from those of the nearest whole number.
use Rattle.std.proofs.Common.{◌≡◌, ℕ, suc, ◌+◌, ◌-◌, ◌*◌, ◌^◌, ◌≤◌, ℤ, pos, negsuc, ◌+ℤ◌, ◌*ℤ◌, neg_ℤ, nat_abs, ◌≤ℤ◌, ap, ◌∙◌, add-mul, mul-le-mul_left, mul-add, arith}
use borrow.Author.Differences.{ints, abs_is, neg_is, up, down}
use Rattle.std.specs.Int.{int_min, int_max}
use Rattle.std.proofs.lemmas.Int.{clamps}
use Rattle.grid.specs.Blend.{IsCoordinate, IsRatio, weighted, blended, inexact, BlendLaw}
use Rattle.grid.proofs.Nearest.{near, monotone, least, most, exact, whole, divisible}

-- a product by k of a number of at most m is at most k * m
pub product_bound : (k m : ℕ) (p : ℤ) → nat_abs p ≤ m → nat_abs (pos k *ℤ p) ≤ k * m
product_bound k m (pos n) h = mul-le-mul_left k h
product_bound k m (negsuc n) h =
    omega (arith, abs_is (neg_ℤ (pos (k * suc n))), neg_is (pos (k * suc n)), mul-le-mul_left {m = suc n} {n = m} k h)

scale : (k : ℕ) (p q : ℤ) → p ≤ℤ q → (pos k *ℤ p) ≤ℤ (pos k *ℤ q)
scale k p q h =
    let d : up p + down q ≤ up q + down p = omega (arith, ints) in
    omega (arith, ints, mul-le-mul_left k d, mul-add k (up p) (down q), mul-add k (up q) (down p))

-- b * n in its two parts
parts : (a b n : ℕ) → a ≤ b → b * n ≡ (b - a) * n + a * n
parts a b n h = let e : b ≡ (b - a) + a = omega arith in ap (λ k. k * n) e ∙ add-mul (b - a) a n

weighted_monotone : (p q p' q' : ℤ) (a b : ℕ) → p ≤ℤ p' → q ≤ℤ q' → weighted p q a b ≤ℤ weighted p' q' a b
weighted_monotone p q p' q' a b hp hq =
    let x = scale (b - a) p p' hp in
    let y = scale a q q' hq in
    omega (arith, ints)

-- the weighted sum of n with itself
weighted_same : (n : ℤ) (a b : ℕ) → a ≤ b → weighted n n a b ≡ pos b *ℤ n
weighted_same n a b h = omega (arith, ints, parts a b (up n) h, parts a b (down n) h)

-- Law: a blend never falls as its two rise.
pub rises : (p q p' q' : ℤ) (a b : ℕ) → IsRatio a b → p ≤ℤ p' → q ≤ℤ q' → blended p q a b ≤ℤ blended p' q' a b
unfolding blended
rises p q p' q' a b r hp hq = monotone _ _ b r.some (weighted_monotone p q p' q' a b hp hq)

-- Law: a blend lies within any bounds of its two.
pub above : (lo p q : ℤ) (a b : ℕ) → IsRatio a b → lo ≤ℤ p → lo ≤ℤ q → lo ≤ℤ blended p q a b
unfolding blended
above lo p q a b r hp hq =
    let e = weighted_same lo a b r.part in
    let m = weighted_monotone lo lo p q a b hp hq in
    least (weighted p q a b) lo b r.some (omega (arith, ints))

pub under : (hi p q : ℤ) (a b : ℕ) → IsRatio a b → p ≤ℤ hi → q ≤ℤ hi → blended p q a b ≤ℤ hi
unfolding blended
under hi p q a b r hp hq =
    let e = weighted_same hi a b r.part in
    let m = weighted_monotone p q hi hi a b hp hq in
    most (weighted p q a b) hi b r.some (omega (arith, ints))

pub coordinate : (p q : ℤ) (a b : ℕ) → IsRatio a b → IsCoordinate p → IsCoordinate q → IsCoordinate (blended p q a b)
coordinate p q a b r hp hq =
    let lim : ℕ = 2 ^ 30 in
    let lo = above (neg_ℤ (pos lim)) p q a b r (omega (arith, ints)) (omega (arith, ints)) in
    let hi = under (pos lim) p q a b r (omega (arith, ints)) (omega (arith, ints)) in
    omega (arith, ints)

at_first : (p q : ℤ) (a b : ℕ) → IsRatio a b → a ≡ 0 → blended p q a b ≡ p
unfolding blended
at_first p q a b r e =
    let f : b - a ≡ b = omega arith in
    exact (weighted p q a b) p b r.some (ap (λ k. (pos k *ℤ p) +ℤ (pos a *ℤ q)) f ∙ ap (λ k. (pos b *ℤ p) +ℤ (pos k *ℤ q)) e ∙ omega (arith, ints))

at_last : (p q : ℤ) (a b : ℕ) → IsRatio a b → a ≡ b → blended p q a b ≡ q
unfolding blended
at_last p q a b r e =
    let f : b - a ≡ 0 = omega arith in
    exact (weighted p q a b) q b r.some (ap (λ k. (pos k *ℤ p) +ℤ (pos a *ℤ q)) f ∙ ap (λ k. (pos 0 *ℤ p) +ℤ (pos k *ℤ q)) e ∙ omega (arith, ints))

-- All the laws of one blend.
pub lawful : (p q : ℤ) (a b : ℕ) → IsRatio a b → BlendLaw p q a b (blended p q a b) (inexact p q a b)
unfolding blended inexact
lawful p q a b r = record {
  near = near (weighted p q a b) b r.some;
  exact = whole (weighted p q a b) b r.some;
  divisible = λ n e. divisible (weighted p q a b) n b r.some e;
  low = above (int_min p q) p q a b r (omega (arith, ints, clamps)) (omega (arith, ints, clamps));
  high = under (int_max p q) p q a b r (omega (arith, ints, clamps)) (omega (arith, ints, clamps));
  rises = λ p' q' hp hq. rises p q p' q' a b r hp hq;
  first = at_first p q a b r;
  last = at_last p q a b r;
}
