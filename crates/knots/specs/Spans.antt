-- The domain of a knot list, and the span that holds a parameter.
use Rattle.std.specs.Prelude.{ℕ, suc, ◌<◌, ◌≤◌, Bool, false, ◌&&◌, leb, List, length, ℤ, pos, negsuc, nat_le, nat_lt, slice_index, slice_index_or}
use Rattle.grid.specs.Search.{last_where}
use Rattle.knots.specs.Lawful.{first_knot, last_knot}

-- the domain runs from the first knot, included, to the last, excluded
abbrev pub in_domain : List ℕ → ℤ → Bool
in_domain ks (pos u) = nat_le (first_knot ks) u && nat_lt u (last_knot ks)
in_domain ks (negsuc u) = false

-- the index k with u_k ≤ u < u_(k+1): the last whose knot is at most u
abbrev pub span_of : List ℕ → ℕ → ℕ
span_of ks u = last_where (λ i. leb (slice_index ks i) u) (length ks)

-- k is that index, and the d + 1 control points up to index k are among the count of the piece
pub record Span (d count : ℕ) (ks : List ℕ) (u k : ℕ) : Type 0 where
  pub low : slice_index_or ks k 0 ≤ u
  pub high : u < slice_index ks (suc k)
  pub deep : d ≤ k
  pub within : k < count
