-- The exact splines of a piece, one for each coordinate, and what a reading keeps of them.
use Rattle.std.specs.Prelude.{◌≡◌, ℕ, ◌+◌, ◌-◌, ◌<◌, ◌≤◌, true, List, [], length, ℤ, pos, slice_index, slice_index_or}
use Rattle.fractions.specs.Fractions.{◌≤F◌, whole, distance, halves}
use Rattle.splines.specs.Splines.{Spline, value_at, Nondecreasing, Domain}
use Rattle.splines.specs.Splines as spline
use Rattle.splines.specs.Theorems.{InsertionKeeps, SplitKeeps, RaisingKeeps}
use Rattle.points.specs.Boxes.{coordinate_of, InBox}
use Rattle.knots.specs.Lawful.{Lawful, first_knot, last_knot, times}
use Rattle.knots.specs.Spans.{in_domain, Span}

-- coordinate c of a piece of degree d, with knots ks and control points ps
abbrev pub curve : ℕ → List ℕ → List (List ℤ) → ℕ → Spline
curve d ks ps c = record {
  degree = d;
  count = length ps;
  knots = λ i. whole (pos (slice_index ks i));
  points = λ i. whole (coordinate_of c (slice_index_or ps i []));
}

-- A reading at u that reports so many inexact rounds, at most as many as the degree: in each coordinate it is at most half a step for
-- each of them from the exact spline of the control points, and it lies in their box.
pub record KeepsToCurve (d : ℕ) (ks : List ℕ) (ps : List (List ℤ)) (u : ℤ) (point : List ℤ) (rounds : ℕ) : Type 0 where
  pub few : rounds ≤ d
  pub near : (c : ℕ) → distance (whole (coordinate_of c point)) (value_at (curve d ks ps c) (whole u)) ≤F halves rounds
  pub inside : InBox ps point

-- A piece is a spline in coordinate c: its knots never fall, and the domain of the spline runs from the first knot to the last, as that
-- of the piece does; a span of the piece is one of the spline. So what the theorems on splines say of edits is true of it: of an
-- insertion in any span; of a split strictly inside the domain, where u stands as often as it is among the knots; and of raising
-- where there are no inner knots.
pub record IsSpline (d : ℕ) (ks : List ℕ) (ps : List (List ℤ)) (c : ℕ) : Type 0 where
  pub ordered : Nondecreasing (curve d ks ps c)
  pub start : (curve d ks ps c).knots (curve d ks ps c).degree ≡ whole (pos (first_knot ks))
  pub end : (curve d ks ps c).knots (curve d ks ps c).count ≡ whole (pos (last_knot ks))
  pub into : (u : ℤ) → in_domain ks u ≡ true → Domain (curve d ks ps c) (whole u)
  pub back : (u : ℤ) → Domain (curve d ks ps c) (whole u) → in_domain ks u ≡ true
  pub span : (u k : ℕ) → Span d (length ps) ks u k → spline.Span (curve d ks ps c) k (whole (pos u))
  pub inserts : (u k : ℕ) → Span d (length ps) ks u k → InsertionKeeps (curve d ks ps c) k (whole (pos u))
  pub splits : (u k : ℕ) → Span d (length ps) ks u k → first_knot ks < u → (times u ks ≤ d) × SplitKeeps (curve d ks ps c) k (d - times u ks) (whole (pos u))
  pub raises : length ps ≡ d + 1 → RaisingKeeps (curve d ks ps c)

abbrev pub LawfulPiecesAreSplines : Type 0
LawfulPiecesAreSplines = (d : ℕ) (ks : List ℕ) (ps : List (List ℤ)) (c : ℕ) → Lawful d (length ps) ks → IsSpline d ks ps c
