-- The nearest whole number. Its definition is opened in one place, `sharp`; the rule for ties stands in `Rounds`, which `near`,
-- `monotone` and `by_floor_and_rest` (how the code comes by it) are proved from. Every other law comes from those.
use Rattle.std.proofs.Common.{◌≡◌, ℕ, suc, ◌+◌, ◌*◌, ◌/◌, ◌<◌, ◌≤◌, true, false, not, eqb, ℤ, pos, negsuc, ◌+ℤ◌, ◌-ℤ◌, ◌*ℤ◌, nat_abs, ◌≤ℤ◌, sym, refl, ap, ◌∙◌, ⊎_elim, mod-lt, mul_assoc, mul_comm, mul-le-mul_left, mul-zero, mul-one, mul-suc, mul-add, arith, w64, of_z, tests}
use native.Mathlib.Nat.{div-add-mod, mul-mod_right, zero-mod}
use borrow.Author.Differences.{ints, product_is, sum_is_lem, up, down}
use lib.Signed.{le_z}
use mir.Val.{bool_byte}
use Rattle.std.proofs.lemmas.Bool.{cases_Bool}
use Rattle.std.specs.Int.{int_div_euclid, int_rem_euclid}
use Rattle.std.proofs.lemmas.Int.{by_lt_z, int_rem_euclid_is}
use Rattle.grid.specs.Blend.{nearest, fractional}

-- d * m ≤ z < d * m + d: m is the floor of z / d
abbrev Floor : ℤ → ℕ → ℤ → Type 0
Floor z d m = (d * up m + down z ≤ up z + d * down m) × (up z + d * down m < d * up m + down z + d)

floor_is : (z : ℤ) (d : ℕ) → 1 ≤ d → Floor z d (int_div_euclid z (pos d))
floor_is (pos a) d h = omega (arith, div-add-mod a d, mod-lt a h, mul-zero d)
floor_is (negsuc a) d h = omega (arith, div-add-mod a d, mod-lt a h, mul-zero d, mul-suc d (a / d))

-- z is the divisor times the floor, plus the rest
rest_is : (z : ℤ) (d : ℕ) → 1 ≤ d → up z + d * down (int_div_euclid z (pos d)) ≡ d * up (int_div_euclid z (pos d)) + down z + nat_abs (int_rem_euclid z (pos d))
rest_is (pos a) d h = omega (arith, div-add-mod a d, mod-lt a h, mul-zero d)
rest_is (negsuc a) d h = omega (arith, div-add-mod a d, mod-lt a h, mul-zero d, mul-suc d (a / d))

twice : (b n : ℕ) → (b * 2) * n ≡ 2 * (b * n)
twice b n = ap (λ k. k * n) (mul_comm b 2) ∙ mul_assoc 2 b n

-- m is the floor of z / b + 1/2: 2 b m ≤ 2 z + b < 2 b m + 2 b
abbrev Rounds : ℤ → ℕ → ℤ → Type 0
Rounds z b m =
    (2 * (b * up m) + 2 * down z ≤ 2 * up z + b + 2 * (b * down m)) × (2 * up z + b + 2 * (b * down m) < 2 * (b * up m) + 2 * down z + 2 * b)

sharp : (z : ℤ) (b : ℕ) → 1 ≤ b → Rounds z b (nearest z b)
unfolding nearest
sharp z b h =
    let w : ℤ = z *ℤ pos 2 +ℤ pos b in
    let m : ℤ = int_div_euclid w (pos (b * 2)) in
    let f : Floor w (b * 2) m = floor_is w (b * 2) (omega arith) in
    omega (arith, ints, f, twice b (up m), twice b (down m), sum_is_lem (z *ℤ pos 2) (pos b), product_is z (pos 2))

-- Law: at most half of b away.
pub near : (z : ℤ) (b : ℕ) → 1 ≤ b → nat_abs (z -ℤ (pos b *ℤ nearest z b)) * 2 ≤ b
near z b h = omega (arith, ints, sharp z b h)

-- n is at most m where b times n is less than b times m and b more
below : (b : ℕ) (m n : ℤ) → b * up n + b * down m < b * up m + b * down n + b → n ≤ℤ m
below b m n h =
    by_lt_z m n (λ lt.
    let k : up m + down n + 1 ≤ up n + down m = omega (arith, ints) in
    absurd (omega (arith, mul-le-mul_left b k, mul-add b (up m + down n) 1, mul-add b (up m) (down n), mul-add b (up n) (down m), mul-one b)))
    (λ le. le)

-- Law: it never falls.
pub monotone : (y z : ℤ) (b : ℕ) → 1 ≤ b → y ≤ℤ z → nearest y b ≤ℤ nearest z b
monotone y z b h le = below b (nearest z b) (nearest y b) (omega (arith, ints, sharp y b h, sharp z b h))

rounds_to : (z m : ℤ) (b : ℕ) → 1 ≤ b → Rounds z b m → nearest z b ≡ m
rounds_to z m b h r =
    let s = sharp z b h in
    let lo = below b (nearest z b) m (omega (arith, s, r)) in
    let hi = below b m (nearest z b) (omega (arith, s, r)) in
    omega (arith, ints)

-- A rest of at least half of b takes the floor up by one, and a smaller one leaves it.
rounds_up : (z : ℤ) (b : ℕ) → 1 ≤ b → b ≤ 2 * nat_abs (int_rem_euclid z (pos b)) → nearest z b ≡ int_div_euclid z (pos b) +ℤ pos 1
rounds_up z b h half =
    let q : ℤ = int_div_euclid z (pos b) in
    let m : ℤ = q +ℤ pos 1 in
    let f : Floor z b q = floor_is z b h in
    let e = rest_is z b h in
    let one : up m + down q ≡ up q + down m + 1 = omega (arith, ints, sum_is_lem q (pos 1)) in
    let scaled : b * up m + b * down q ≡ b * up q + b * down m + b =
    sym (mul-add b (up m) (down q)) ∙ ap (λ n. b * n) one ∙ mul-add b (up q + down m) 1 ∙ ap (λ n. n + b * 1) (mul-add b (up q) (down m)) ∙ ap (λ n. b * up q + b * down m + n) (mul-one b) in
    rounds_to z m b h (omega (arith, f, e, scaled, half), omega (arith, f, e, scaled, half))

rounds_down : (z : ℤ) (b : ℕ) → 1 ≤ b → 2 * nat_abs (int_rem_euclid z (pos b)) < b → nearest z b ≡ int_div_euclid z (pos b)
rounds_down z b h half =
    let f : Floor z b (int_div_euclid z (pos b)) = floor_is z b h in
    let e = rest_is z b h in
    rounds_to z (int_div_euclid z (pos b)) b h (omega (arith, f, e, half), omega (arith, f, e, half))

-- a remainder is a whole number from 0 up
remainder_natural : (z d : ℤ) → int_rem_euclid z d ≡ pos (nat_abs (int_rem_euclid z d))
remainder_natural (pos a) d = refl
remainder_natural (negsuc a) d = refl

-- so floor and rest give it
pub by_floor_and_rest : (z : ℤ) (b : ℕ) → 1 ≤ b → nearest z b ≡ int_div_euclid z (pos b) +ℤ pos (bool_byte (le_z (pos b) (int_rem_euclid z (pos b) *ℤ pos 2)))
by_floor_and_rest z b h =
    let r = int_rem_euclid z (pos b) in
    let n = remainder_natural z (pos b) in
    ⊎_elim
    (λ (t : le_z (pos b) (r *ℤ pos 2) ≡ true). rounds_up z b h (omega (arith, ints, n, t)) ∙ ap (λ v. int_div_euclid z (pos b) +ℤ pos (bool_byte v)) (sym t))
    (λ (t : le_z (pos b) (r *ℤ pos 2) ≡ false).
    let same : int_div_euclid z (pos b) ≡ int_div_euclid z (pos b) +ℤ pos 0 = omega (arith, ints) in
    rounds_down z b h (omega (arith, ints, n, t)) ∙ same ∙ ap (λ v. int_div_euclid z (pos b) +ℤ pos (bool_byte v)) (sym t))
    (cases_Bool (le_z (pos b) (r *ℤ pos 2)))

pub rest_bits : (z d : ℤ) → of_z w64 (int_rem_euclid z d) ≡ nat_abs (int_rem_euclid z d)
rest_bits (pos a) d = refl
rest_bits (negsuc a) d = refl

-- at least n where z is at least b * n, and at most n where it is at most that
pub least : (z n : ℤ) (b : ℕ) → 1 ≤ b → (pos b *ℤ n) ≤ℤ z → n ≤ℤ nearest z b
least z n b h le = below b (nearest z b) n (omega (arith, ints, near z b h))

pub most : (z n : ℤ) (b : ℕ) → 1 ≤ b → z ≤ℤ (pos b *ℤ n) → nearest z b ≤ℤ n
most z n b h le = below b n (nearest z b) (omega (arith, ints, near z b h))

-- exact where b divides z
pub exact : (z n : ℤ) (b : ℕ) → 1 ≤ b → z ≡ pos b *ℤ n → nearest z b ≡ n
exact z n b h e =
    let lo = least z n b h (omega (arith, ints)) in
    let hi = most z n b h (omega (arith, ints)) in
    omega (arith, ints)

divides : (z : ℤ) (b : ℕ) → 1 ≤ b → nat_abs (int_rem_euclid z (pos b)) ≡ 0 → z ≡ pos b *ℤ int_div_euclid z (pos b)
divides z b h e = omega (arith, ints, rest_is z b h)

no_rest : (b : ℕ) (n : ℤ) → 1 ≤ b → nat_abs (int_rem_euclid (pos b *ℤ n) (pos b)) ≡ 0
no_rest b (pos x) h = mul-mod_right b x
no_rest b (negsuc x) h =
    ap nat_abs (int_rem_euclid_is (pos b *ℤ negsuc x) (pos b) b (suc x) 0 h refl (omega (arith, ints, mul_comm b (suc x)))) ∙ zero-mod b

-- whole exactly where b divides z
pub whole : (z : ℤ) (b : ℕ) → 1 ≤ b → fractional z b ≡ false → z ≡ pos b *ℤ nearest z b
unfolding fractional
whole z b h e =
    let r : nat_abs (int_rem_euclid z (pos b)) ≡ 0 = search (tests, arith) in
    let d = divides z b h r in
    d ∙ ap (λ n. pos b *ℤ n) (sym (exact z _ b h d))

pub divisible : (z n : ℤ) (b : ℕ) → 1 ≤ b → z ≡ pos b *ℤ n → fractional z b ≡ false
unfolding fractional
divisible z n b h e = ap (λ w. not (eqb (nat_abs (int_rem_euclid w (pos b))) 0)) e ∙ ap (λ k. not (eqb k 0)) (no_rest b n h)
