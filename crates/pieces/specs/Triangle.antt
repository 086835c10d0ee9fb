-- De Boor's triangle over lists of coordinates. Throughout, d is the degree, ks the knots, ps the control points, u the
-- parameter and k the index of its span.
use Rattle.std.specs.Prelude.{ℕ, zero, suc, ◌+◌, ◌-◌, Bool, cond, List, [], ℤ, slice_index, slice_index_or}
use Rattle.grid.specs.Search.{any_where}
use Rattle.points.specs.Lists.{blend_point, inexact_point}

-- the blend of p and q that stands at entry i of round r: at u - u_i of u_(i+d+1-r) - u_i
abbrev pub between : ℕ → List ℕ → ℕ → ℕ → ℕ → List ℤ → List ℤ → List ℤ
between d ks u r i p q = blend_point (u - slice_index ks i) (slice_index ks (i + d + 1 - r) - slice_index ks i) p q

abbrev pub inexact_between : ℕ → List ℕ → ℕ → ℕ → ℕ → List ℤ → List ℤ → Bool
inexact_between d ks u r i p q = inexact_point (u - slice_index ks i) (slice_index ks (i + d + 1 - r) - slice_index ks i) p q

-- entry i of round r: a control point in round 0, then the blend of the entries i - 1 and i of the round before
abbrev pub entry : ℕ → List ℕ → List (List ℤ) → ℕ → ℕ → ℕ → List ℤ
entry d ks ps u zero i = slice_index_or ps i []
entry d ks ps u (suc r) i = between d ks u (suc r) i (entry d ks ps u r (i - 1)) (entry d ks ps u r i)

-- that blend of round r + 1 is inexact
abbrev pub inexact_entry : ℕ → List ℕ → List (List ℤ) → ℕ → ℕ → ℕ → Bool
inexact_entry d ks ps u r i = inexact_between d ks u (suc r) i (entry d ks ps u r (i - 1)) (entry d ks ps u r i)

-- of the first r rounds, those that hold an inexact blend: round r + 1 has the entries k - d + r + 1 to k
abbrev pub inexact_rounds : ℕ → List ℕ → List (List ℤ) → ℕ → ℕ → ℕ → ℕ
inexact_rounds d ks ps u k zero = 0
inexact_rounds d ks ps u k (suc r) =
    inexact_rounds d ks ps u k r + cond (any_where (inexact_entry d ks ps u r) (k - d + suc r) (d - r)) 1 0

-- what the triangle over span k gives: the last entry of the last round, and the number of rounds with an inexact blend
unfoldable pub de_boor : ℕ → List ℕ → List (List ℤ) → ℕ → ℕ → List ℤ × ℕ
de_boor d ks ps u k = (entry d ks ps u d k, inexact_rounds d ks ps u k d)
