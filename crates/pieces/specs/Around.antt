-- What the triangle asks of the knots around a parameter.
use Rattle.std.specs.Prelude.{ℕ, ◌+◌, ◌^◌, ◌<◌, ◌≤◌, List, length, slice_index}

-- of 2 d + 1 knots those at places 1 to d are at most u, and the d after them are above u
pub record Around (d : ℕ) (ks : List ℕ) (u : ℕ) : Type 0 where
  pub degree : (1 ≤ d) × (d ≤ 5)
  pub long : d + d + 1 ≤ length ks
  pub below : (j : ℕ) → 1 ≤ j → j ≤ d → slice_index ks j ≤ u
  pub above : (j : ℕ) → d < j → j ≤ d + d → (u < slice_index ks j) × (slice_index ks j ≤ 2 ^ 20)
