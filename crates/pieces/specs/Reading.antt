-- What a piece answers at a parameter.
use Rattle.std.specs.Prelude.{ℕ, cond, List, ℤ, Some, None, Option, unsigned_abs}
use Rattle.knots.specs.Spans.{in_domain, span_of}
use Rattle.pieces.specs.Triangle.{de_boor}

-- the point at u and the number of rounds with an inexact blend, for degree d, knots ks and control points ps; none off the
-- domain, where alone u can be negative
abbrev pub reading : ℕ → List ℕ → List (List ℤ) → ℤ → Option (List ℤ × ℕ)
reading d ks ps u = cond (in_domain ks u) (Some (de_boor d ks ps (unsigned_abs u) (span_of ks (unsigned_abs u)))) None
