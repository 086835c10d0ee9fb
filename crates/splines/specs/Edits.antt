-- The edits of a spline without rounding: the spline that each leaves, by index.
use Rattle.std.specs.Prelude.{ℕ, zero, suc, ◌+◌, ◌-◌, cond, pos, nat_le}
use Rattle.fractions.specs.Fractions.{Fraction, whole}
use Rattle.splines.specs.Splines.{Spline, blend_at}

-- t put in behind knot k
unfoldable pub inserted_knots : ℕ → Fraction → (ℕ → Fraction) → ℕ → Fraction
inserted_knots k t u i = cond (nat_le i k) (u i) (cond (nat_le i (k + 1)) t (u (i - 1)))

-- Boehm: points 0 to k - d stay, those from k on move up by one, and from k - d + 1 to k point i is the blend at t, between knots i
-- and i + d, of the points i - 1 and i
unfoldable pub inserted_points : ℕ → ℕ → Fraction → (ℕ → Fraction) → (ℕ → Fraction) → ℕ → Fraction
inserted_points d k t u P i = cond (nat_le i (k - d)) (P i) (cond (nat_le i k) (blend_at (u i) (u (i + d)) t (P (i - 1)) (P i)) (P (i - 1)))

-- The knot t inserted, k being the last knot that is at most t.
abbrev pub inserted : ℕ → Fraction → Spline → Spline
inserted k t s = record {
  degree = s.degree;
  count = s.count + 1;
  knots = inserted_knots k t s.knots;
  points = inserted_points s.degree k t s.knots s.points;
}

-- The knot t inserted m times: after each time the last knot that is at most t has moved up by one.
unfoldable pub inserted_times : ℕ → ℕ → Fraction → Spline → Spline
inserted_times zero k t s = s
inserted_times (suc m) k t s = inserted (k + m) t (inserted_times m k t s)

-- The left half at t, where t stands as often as the degree d and k is its last index: the points 0 to k - d, and the knots up to k
-- with t once more.
unfoldable pub left_knots : ℕ → Fraction → (ℕ → Fraction) → ℕ → Fraction
left_knots k t u i = cond (nat_le i k) (u i) t

abbrev pub left_half : ℕ → Fraction → Spline → Spline
left_half k t s = record { degree = s.degree; count = k - s.degree + 1; knots = left_knots k t s.knots; points = s.points }

-- The right half there: the points from k - d on, and t followed by the knots from k - d + 1 on.
unfoldable pub right_knots : ℕ → ℕ → Fraction → (ℕ → Fraction) → ℕ → Fraction
right_knots d k t u zero = t
right_knots d k t u (suc i) = u (k - d + suc i)

abbrev pub right_half : ℕ → Fraction → Spline → Spline
right_half k t s = record {
  degree = s.degree;
  count = s.count - (k - s.degree);
  knots = right_knots s.degree k t s.knots;
  points = λ i. s.points (k - s.degree + i);
}

-- Raising a spline without inner knots, whose control points are one more than its degree d: the first knot and the last, which is
-- knot 2 d + 1, each stand once more,
unfoldable pub raised_knots : ℕ → (ℕ → Fraction) → ℕ → Fraction
raised_knots d u zero = u 0
raised_knots d u (suc i) = cond (nat_le i (d + d + 1)) (u i) (u (d + d + 1))

-- and point i from 1 to d is the blend of the points i and i - 1 at i of d + 1, while the ends stay.
unfoldable pub raised_points : ℕ → (ℕ → Fraction) → ℕ → Fraction
raised_points d P zero = P 0
raised_points d P (suc i) = cond (nat_le (suc i) d) (blend_at (whole (pos 0)) (whole (pos (d + 1))) (whole (pos (suc i))) (P (suc i)) (P i)) (P i)

abbrev pub raised : Spline → Spline
raised s = record { degree = s.degree + 1; count = s.count + 1; knots = raised_knots s.degree s.knots; points = raised_points s.degree s.points }
