-- B-splines over fractions: basis functions, the exact spline, and de Boor's triangle without rounding.
use Rattle.std.specs.Prelude.{ℕ, zero, suc, ◌+◌, ◌-◌, ◌<◌, ◌≤◌, cond, not, ◌&&◌}
use Rattle.fractions.specs.Fractions.{Fraction, at_most, ◌≤F◌, ◌<F◌, zero_f, one_f, ◌+F◌, ◌-F◌, ◌*F◌, ◌/F◌, sum_f}

-- Basis function i of degree d over the knots u, by the Cox-de Boor recurrence: of degree 0 it is 1 from knot i, included, to knot
-- i + 1, excluded, and 0 elsewhere; above that it is a sum of two of the degree before. A quotient with divisor 0 counts as 0.
unfoldable pub basis : (ℕ → Fraction) → ℕ → ℕ → Fraction → Fraction
basis u zero i x = cond (at_most (u i) x && not (at_most (u (i + 1)) x)) one_f zero_f
basis u (suc d) i x =
    ((x -F u i) /F (u (i + suc d) -F u i)) *F basis u d i x
    +F ((u (i + suc d + 1) -F x) /F (u (i + suc d + 1) -F u (i + 1))) *F basis u d (i + 1) x

-- A spline, in one coordinate: its degree, the number of its control points, and its knots and control points by index. Of the
-- knots the first count + degree + 1 are its own, of the control points the first count.
pub record Spline : Type 0 where
  pub degree : ℕ
  pub count : ℕ
  pub knots : ℕ → Fraction
  pub points : ℕ → Fraction

-- Its value at x: the sum of basis function times control point.
unfoldable pub value_at : Spline → Fraction → Fraction
value_at s x = sum_f s.count (λ i. basis s.knots s.degree i x *F s.points i)

-- its knots never fall; they may repeat
abbrev pub Nondecreasing : Spline → Type 0
Nondecreasing s = (i : ℕ) → i < s.count + s.degree → s.knots i ≤F s.knots (i + 1)

-- its domain runs from the knot of index degree, included, to that of index count, excluded
pub record Domain (s : Spline) (x : Fraction) : Type 0 where
  pub start : s.knots s.degree ≤F x
  pub end : x <F s.knots s.count

-- x lies in its domain, between knot k, included, and knot k + 1, excluded
pub record Span (s : Spline) (k : ℕ) (x : Fraction) : Type 0 where
  pub deep : s.degree ≤ k
  pub within : k < s.count
  pub low : s.knots k ≤F x
  pub high : x <F s.knots (k + 1)

-- the exact blend of p and q at x, on the way from a to c: ((c - x) p + (x - a) q) / (c - a)
unfoldable pub blend_at : Fraction → Fraction → Fraction → Fraction → Fraction → Fraction
blend_at a c x p q = ((c -F x) /F (c -F a)) *F p +F ((x -F a) /F (c -F a)) *F q

-- Entry i of round r of de Boor's triangle at x: control point i in round 0, and then the blend, between knots i and
-- i + degree + 1 - r, of the entries i - 1 and i of the round before.
unfoldable pub triangle : Spline → Fraction → ℕ → ℕ → Fraction
triangle s x zero i = s.points i
triangle s x (suc r) i = blend_at (s.knots i) (s.knots (i + s.degree + 1 - suc r)) x (triangle s x r (i - 1)) (triangle s x r i)
