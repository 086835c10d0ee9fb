-- Lawful degrees, counts and knot lists, and the causes that refuse the others.
use Rattle.std.specs.Prelude.{◌≡◌, ℕ, ◌+◌, ◌-◌, ◌^◌, ◌<◌, ◌≤◌, Bool, cond, not, ◌&&◌, ◌||◌, ◌≢◌, List, count_by, ◌++◌, map, length, take, replicate, ℤ, pos, None, Option, ◌==◌, int_le, nat_le, nat_lt, slice_index, slice_index_or, unsigned_abs}
use Rattle.refusals.specs.Order.{unless, at}
use Rattle.knots.specs.declared.list.KnotList.{KnotList}
use Rattle.grid.specs.Search.{first_where}
use Rattle.refusals.specs.declared.piece.PieceFault.{PieceFault}
use Rattle.refusals.specs.declared.piece.PieceFault.TheVariants.{Degree, Count, KnotCount, KnotRange, KnotFalls, KnotRepeats}

-- a degree is 1 to 5
abbrev pub is_degree : ℤ → Bool
is_degree degree = int_le (pos 1) degree && int_le degree (pos 5)

-- a piece of degree d has from d + 1 to 64 control points
abbrev pub is_count : ℕ → ℕ → Bool
is_count d count = nat_le (d + 1) count && nat_le count 64

-- a knot is 0 to 1,048,576
abbrev pub is_knot : ℤ → Bool
is_knot knot = int_le (pos 0) knot && int_le knot (pos (2 ^ 20))

-- of stored knots those in use, for degree d and so many control points
abbrev pub first_knots : ℕ → ℕ → List ℕ → List ℕ
first_knots d count ks = take (count + d + 1) ks

-- how often a value stands in a knot list
abbrev pub times : ℕ → List ℕ → ℕ
times x ks = count_by (λ k. k == x) ks

abbrev pub first_knot : List ℕ → ℕ
first_knot ks = slice_index ks 0

abbrev pub last_knot : List ℕ → ℕ
last_knot ks = slice_index ks (length ks - 1)

-- the first and the last value stand d + 1 times, any other at most d times
abbrev pub repeats_well : ℕ → List ℕ → ℕ → Bool
repeats_well d ks x = cond (x == first_knot ks || x == last_knot ks) (times x ks == d + 1) (nat_le (times x ks) d)

-- What makes degree d, a number of control points and knots lawful: d is 1 to 5, the control points are d + 1 to 64, and
-- the knots count + d + 1; a knot is at most 1,048,576; knots never fall; the first and the last value stand d + 1 times,
-- and any other value at most d times.
pub record Lawful (d count : ℕ) (ks : List ℕ) : Type 0 where
  pub degree : (1 ≤ d) × (d ≤ 5)
  pub number : (d + 1 ≤ count) × (count ≤ 64)
  pub long : length ks ≡ count + d + 1
  pub ranged : (i : ℕ) → i < length ks → slice_index ks i ≤ 2 ^ 20
  pub rises : (i j : ℕ) → i ≤ j → j < length ks → slice_index ks i ≤ slice_index ks j
  pub first : times (first_knot ks) ks ≡ d + 1
  pub last : times (last_knot ks) ks ≡ d + 1
  pub inner : (i : ℕ) → i < length ks → slice_index ks i ≢ first_knot ks → slice_index ks i ≢ last_knot ks → times (slice_index ks i) ks ≤ d

-- the first knot that is not 0 to 1,048,576, by its index
abbrev pub first_outside : List ℤ → Option ℕ
first_outside knots = first_where (λ i. not (is_knot (slice_index_or knots i (pos 0)))) 0 (length knots)

-- the first knot below the one before, by its index
abbrev pub first_fall : List ℕ → Option ℕ
first_fall ks = first_where (λ i. nat_lt (slice_index ks i) (slice_index ks (i - 1))) 1 (length ks - 1)

-- the first knot whose value stands too often or too seldom, by its index
abbrev pub first_ill_repeated : ℕ → List ℕ → Option ℕ
first_ill_repeated d ks = first_where (λ i. not (repeats_well d ks (slice_index ks i))) 0 (length ks)

-- knots that fall, then values that stand too often or too seldom
abbrev pub disorder : ℕ → List ℕ → Option PieceFault
disorder d ks =
    at (first_fall ks) KnotFalls
    (at (first_ill_repeated d ks) (λ _. KnotRepeats)
    None)

-- Why degree, number of control points and knots, as the caller has them, make no piece: the first cause that holds.
-- Knots in range are whole numbers from 0 up, so their order and repeats are those of their magnitudes.
abbrev pub piece_refusal : ℤ → ℕ → List ℤ → Option PieceFault
piece_refusal degree count knots =
    unless (is_degree degree) Degree
    (unless (is_count (unsigned_abs degree) count) Count
    (unless (length knots == count + unsigned_abs degree + 1) KnotCount
    (at (first_outside knots) KnotRange
    (disorder (unsigned_abs degree) (map unsigned_abs knots)))))

-- The causes refuse nothing that is lawful, and all else.
abbrev pub RefusesTheUnlawful : Type 0
RefusesTheUnlawful =
    (d count : ℕ) (ks : List ℕ) → (piece_refusal (pos d) count (map pos ks) ≡ None → Lawful d count ks) × (Lawful d count ks → piece_refusal (pos d) count (map pos ks) ≡ None)

-- what a record stores of a degree, a number of control points and knots: the knots first, then 0
pub record Stores (degree : ℤ) (count : ℕ) (knots : List ℤ) (l : KnotList) : Type 0 where
  pub degree_is : degree ≡ pos l.degree
  pub count_is : count ≡ l.count
  pub knots_are : l.knots ≡ map unsigned_abs knots ++ replicate (70 - length knots) 0
  pub in_range : knots ≡ map pos (map unsigned_abs knots)
