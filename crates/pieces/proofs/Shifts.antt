-- The triangle over the part of a piece that governs a parameter is that of the piece.
use Rattle.std.proofs.Common.{◌≡◌, ℕ, zero, suc, ◌+◌, ◌-◌, ◌≤◌, cond, List, [], get_or, ℤ, refl, ap, ◌∙◌, arith}
use Rattle.grid.specs.Search.{any_where}
use Rattle.grid.proofs.Searches.{any_shifted}
use Rattle.points.specs.Lists.{blend_point, inexact_point}
use Rattle.pieces.specs.Triangle.{entry, inexact_entry, inexact_rounds, de_boor}

module _ (d : ℕ) (ks near : List ℕ) (ps polygon : List (List ℤ)) (u m : ℕ)
    (knot : (j : ℕ) → j ≤ d + d → get_or near j 0 ≡ get_or ks (m + j) 0)
    (point : (j : ℕ) → j ≤ d → get_or polygon j [] ≡ get_or ps (m + j) []) where
  -- at entry j of round r + 1 all that a blend takes is the same, once the two entries before are
  corner_shifted : {Y : Type 0} (b : ℕ → ℕ → List ℤ → List ℤ → Y) (r j : ℕ) → suc r ≤ j → j ≤ d
      → entry d near polygon u r (j - 1) ≡ entry d ks ps u r (m + (j - 1)) → entry d near polygon u r j ≡ entry d ks ps u r (m + j)
      → b (u - get_or near j 0) (get_or near (j + d + 1 - suc r) 0 - get_or near j 0) (entry d near polygon u r (j - 1)) (entry d near polygon u r j)
      ≡ b (u - get_or ks (m + j) 0) (get_or ks (m + j + d + 1 - suc r) 0 - get_or ks (m + j) 0) (entry d ks ps u r (m + j - 1)) (entry d ks ps u r (m + j))
  corner_shifted b r j low high before here =
      let start = knot j (omega arith) in
      let ends : m + (j + d + 1 - suc r) ≡ m + j + d + 1 - suc r = omega arith in
      let stop : get_or near (j + d + 1 - suc r) 0 ≡ get_or ks (m + j + d + 1 - suc r) 0 = knot (j + d + 1 - suc r) (omega arith) ∙ ap (λ i. get_or ks i 0) ends in
      let back : m + (j - 1) ≡ m + j - 1 = omega arith in
      let left : entry d near polygon u r (j - 1) ≡ entry d ks ps u r (m + j - 1) = before ∙ ap (entry d ks ps u r) back in
      cc (start, stop, left, here)

  entry_shifted : (r j : ℕ) → r ≤ j → j ≤ d → entry d near polygon u r j ≡ entry d ks ps u r (m + j)
  entry_shifted zero j low high = point j high
  entry_shifted (suc r) j low high =
      corner_shifted blend_point r j low high (entry_shifted r (j - 1) (omega arith) (omega arith)) (entry_shifted r j (omega arith) high)

  rounds_shifted : (r : ℕ) → r ≤ d → inexact_rounds d near polygon u d r ≡ inexact_rounds d ks ps u (m + d) r
  rounds_shifted zero h = refl
  rounds_shifted (suc r) h =
      let first : m + (d - d + suc r) ≡ m + d - d + suc r = omega arith in
      let same : any_where (inexact_entry d near polygon u r) (d - d + suc r) (d - r) ≡ any_where (inexact_entry d ks ps u r) (m + d - d + suc r) (d - r) =
      any_shifted (inexact_entry d near polygon u r) (inexact_entry d ks ps u r) m (d - d + suc r) (d - r) (λ j low high.
      corner_shifted inexact_point r j (omega arith) (omega arith) (entry_shifted r (j - 1) (omega arith) (omega arith)) (entry_shifted r j (omega arith) (omega arith)))
      ∙ ap (λ i. any_where (inexact_entry d ks ps u r) i (d - r)) first in
      ap (λ n. n + cond (any_where (inexact_entry d near polygon u r) (d - d + suc r) (d - r)) 1 0) (rounds_shifted r (omega arith))
      ∙ ap (λ t. inexact_rounds d ks ps u (m + d) r + cond t 1 0) same

  pub de_boor_shifted : de_boor d near polygon u d ≡ de_boor d ks ps u (m + d)
  unfolding de_boor
  de_boor_shifted = cc (entry_shifted d d (omega arith) (omega arith), rounds_shifted d (omega arith))
