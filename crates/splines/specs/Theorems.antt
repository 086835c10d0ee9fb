-- What is true of splines. Knots may repeat as often as they like, as long as they never fall, and a parameter may be a knot.
use Rattle.std.specs.Prelude.{◌≡◌, ℕ, ◌+◌, ◌-◌, ◌<◌, ◌≤◌}
use Rattle.fractions.specs.Fractions.{Fraction, ◌≈◌, ◌≤F◌, ◌<F◌, zero_f, one_f, ◌+F◌, ◌*F◌, sum_f, distance}
use Rattle.splines.specs.Splines.{basis, Spline, value_at, triangle, Nondecreasing, Domain, Span}
use Rattle.splines.specs.Edits.{inserted, inserted_times, left_half, right_half, raised}

-- the spline with other control points, and with other knots and control points
abbrev pub with_points : Spline → (ℕ → Fraction) → Spline
with_points s P = record { degree = s.degree; count = s.count; knots = s.knots; points = P }

abbrev pub with_knots : Spline → (ℕ → Fraction) → (ℕ → Fraction) → Spline
with_knots s u P = record { degree = s.degree; count = s.count; knots = u; points = P }

-- Only the first count + degree + 1 knots and the first count control points matter.
abbrev pub OnlyItsOwnKnotsAndPointsCount : Type 0
OnlyItsOwnKnotsAndPointsCount =
    (s : Spline) (u P : ℕ → Fraction) (x : Fraction) → ((i : ℕ) → i ≤ s.count + s.degree → s.knots i ≈ u i) → ((i : ℕ) → i < s.count → s.points i ≈ P i)
    → value_at s x ≈ value_at (with_knots s u P) x

-- The value of a combination of control polygons is that combination of their values.
abbrev pub SplineIsLinearInItsPoints : Type 0
SplineIsLinearInItsPoints =
    (s : Spline) (a b : Fraction) (P Q : ℕ → Fraction) (x : Fraction)
    → value_at (with_points s (λ i. a *F P i +F b *F Q i)) x ≈ a *F value_at (with_points s P) x +F b *F value_at (with_points s Q) x

-- Every parameter of the domain lies in a span,
abbrev pub DomainIsMadeOfSpans : Type 0
DomainIsMadeOfSpans = (s : Spline) (x : Fraction) → Nondecreasing s → Domain s x → (k : ℕ) × Span s k x

-- and in the span of knot k the spline is the last entry of de Boor's triangle.
abbrev pub TriangleGivesTheSpline : Type 0
TriangleGivesTheSpline = (s : Spline) (k : ℕ) (x : Fraction) → Nondecreasing s → Span s k x → value_at s x ≈ triangle s x s.degree k

-- At a knot that stands as often as the degree, up to index k, the spline is the control point k - degree: so at the first knot, where
-- the first stands so often.
abbrev pub FullKnotGivesItsPoint : Type 0
FullKnotGivesItsPoint =
    (s : Spline) (k : ℕ) (x : Fraction) → Nondecreasing s → Span s k x → ((i : ℕ) → i ≤ k → k < i + s.degree → s.knots i ≈ x)
    → value_at s x ≈ s.points (k - s.degree)

-- Two splines are one curve where they have the same domain and the same value at every parameter of it.
pub record SameCurve (s s' : Spline) : Type 0 where
  pub into : (x : Fraction) → Domain s x → Domain s' x
  pub back : (x : Fraction) → Domain s' x → Domain s x
  pub value : (x : Fraction) → Domain s x → value_at s x ≈ value_at s' x

-- Inserting a knot keeps the curve. The knots still never fall, and t now stands at k + 1, so that it can be inserted again there.
pub record InsertionKeeps (s : Spline) (k : ℕ) (t : Fraction) : Type 0 where
  pub ordered : Nondecreasing (inserted k t s)
  pub span : Span (inserted k t s) (k + 1) t
  pub curve : SameCurve (inserted k t s) s

abbrev pub InsertionKeepsTheCurve : Type 0
InsertionKeepsTheCurve = (s : Spline) (k : ℕ) (t : Fraction) → Nondecreasing s → Span s k t → InsertionKeeps s k t

-- the parameters from a, included, to b, excluded
pub record Between (a b x : Fraction) : Type 0 where
  pub from : a ≤F x
  pub to : x <F b

-- A spline is the part of s from a to b: its knots never fall, its domain is what lies between, and there it has the values of s.
pub record PartOf (s part : Spline) (a b : Fraction) : Type 0 where
  pub ordered : Nondecreasing part
  pub into : (x : Fraction) → Domain part x → Between a b x
  pub back : (x : Fraction) → Between a b x → Domain part x
  pub value : (x : Fraction) → Domain part x → value_at part x ≈ value_at s x

-- A split at t: t is inserted m times, after which k + m is its last index; then there are two halves.
pub record SplitKeeps (s : Spline) (k m : ℕ) (t : Fraction) : Type 0 where
  pub left : PartOf s (left_half (k + m) t (inserted_times m k t s)) (s.knots s.degree) t
  pub right : PartOf s (right_half (k + m) t (inserted_times m k t s)) t (s.knots s.count)

-- Splitting keeps the curve, strictly inside the domain. Where t stands n times, up to knot k, it is inserted degree - n times, and then
-- stands as often as the degree; each half has the same spline on its own domain, and the two domains meet at t. It is enough that the
-- last n knots up to k are t.
abbrev pub SplittingKeepsTheCurve : Type 0
SplittingKeepsTheCurve =
    (s : Spline) (k n : ℕ) (t : Fraction) → 1 ≤ s.degree → Nondecreasing s → Span s k t → s.knots s.degree <F t → n ≤ s.degree
    → ((i : ℕ) → i ≤ k → k < i + n → s.knots i ≈ t) → SplitKeeps s k (s.degree - n) t

-- a spline without inner knots: its knots are two values, each degree + 1 times
pub record WithoutInnerKnots (s : Spline) : Type 0 where
  pub points : s.count ≡ s.degree + 1
  pub first : (i : ℕ) → i ≤ s.degree → s.knots i ≈ s.knots 0
  pub last : (i : ℕ) → s.degree < i → i ≤ s.degree + s.degree + 1 → s.knots i ≈ s.knots (s.degree + s.degree + 1)

-- Raising its degree keeps the curve, and it still has no inner knots.
pub record RaisingKeeps (s : Spline) : Type 0 where
  pub plain : WithoutInnerKnots (raised s)
  pub curve : SameCurve (raised s) s

abbrev pub RaisingKeepsTheCurve : Type 0
RaisingKeepsTheCurve = (s : Spline) → WithoutInnerKnots s → RaisingKeeps s

-- No basis function is negative,
abbrev pub BasisIsNotNegative : Type 0
BasisIsNotNegative = (s : Spline) (i : ℕ) (x : Fraction) → Nondecreasing s → i < s.count → zero_f ≤F basis s.knots s.degree i x

-- and on the domain they sum to 1.
abbrev pub BasisSumsToOne : Type 0
BasisSumsToOne = (s : Spline) (x : Fraction) → Nondecreasing s → Domain s x → sum_f s.count (λ i. basis s.knots s.degree i x) ≈ one_f

-- So on the domain a spline lies between any bounds of its control points,
abbrev pub SplineLiesBetweenItsPoints : Type 0
SplineLiesBetweenItsPoints =
    (s : Spline) (x low high : Fraction) → Nondecreasing s → Domain s x → ((i : ℕ) → i < s.count → (low ≤F s.points i) × (s.points i ≤F high))
    → (low ≤F value_at s x) × (value_at s x ≤F high)

-- in the span of knot k of the degree + 1 points up to k alone, which govern it;
abbrev pub SplineLiesBetweenGoverningPoints : Type 0
SplineLiesBetweenGoverningPoints =
    (s : Spline) (k : ℕ) (x low high : Fraction) → Nondecreasing s → Span s k x
    → ((i : ℕ) → k ≤ i + s.degree → i ≤ k → (low ≤F s.points i) × (s.points i ≤F high)) → (low ≤F value_at s x) × (value_at s x ≤F high)

-- and control points that are at most e apart have splines that are at most e apart.
abbrev pub ClosePointsHaveCloseSplines : Type 0
ClosePointsHaveCloseSplines =
    (s : Spline) (P : ℕ → Fraction) (x e : Fraction) → Nondecreasing s → Domain s x → ((i : ℕ) → i < s.count → distance (s.points i) (P i) ≤F e)
    → distance (value_at s x) (value_at (with_points s P) x) ≤F e
