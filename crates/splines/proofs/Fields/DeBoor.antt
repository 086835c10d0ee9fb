-- De Boor: each round of the triangle lowers the degree by one and keeps the sum.
use Rattle.std.proofs.Common.{◌≡◌, ℕ, zero, suc, ◌<◌, [], ◌∷◌, refl, ap, ◌∙◌, subst, arith}
use Rattle.fractions.proofs.Rings.{OrderedField, ring_of}
use Rattle.fractions.proofs.Solver.{ν, k0, ◌∔◌, ◌∗◌, ring, ring_by, fact}
use Rattle.splines.proofs.Fields.Streams.{◌⊹◌, tail, drop, plus_zero, plus_le}
use Rattle.splines.proofs.Fields.Basis.{Rises, up, down, blend, indicator_in, Basis, Series, one_then, zero_then, basis_before, basis_after, series_before, rises_le, drop_rises}

module _ (K : OrderedField) where
  open K use {F, ◌⊕◌, ◌⊗◌, ◌≼◌, le_trans}

  -- one round of the triangle, over the knots w
  abbrev pub Round : F → ℕ → (ℕ → F) → (ℕ → F) → ℕ → F
  Round x d w P i = blend K x (w i) (w (i ⊹ suc d)) (P i) (P (suc i))

  -- the last entry of the triangle over the first d + 1 points
  unfoldable pub Triangle : F → ℕ → (ℕ → F) → (ℕ → F) → F
  Triangle x zero u P = P 0
  Triangle x (suc d) u P = Triangle x d (tail u) (Round x d (tail u) P)

  -- the recurrence, summed: a sum of one degree less over the blended points, and two terms at the ends
  series_step : (x : F) (n d : ℕ) (u P : ℕ → F) → Series K x (suc n) (suc d) u P
      ≡ up K x (u 0) (u (suc d)) ⊗ Basis K x d u ⊗ P 0 ⊕ (Series K x n d (tail u) (Round x d (tail u) P)
      ⊕ down K x (drop (suc n) u 0) (drop (suc n) u (suc d)) ⊗ Basis K x d (drop (suc n) u) ⊗ P n)
  unfolding Series Basis
  series_step x zero d u P = ring (ring_of K) (up K x (u 0) (u (suc d)) ∷ Basis K x d u ∷ P 0 ∷ down K x (u 1) (u (suc (suc d))) ∷ Basis K x d (tail u) ∷ [])
      ((ν 0 ∗ ν 1 ∔ ν 3 ∗ ν 4) ∗ ν 2 ∔ k0) (ν 0 ∗ ν 1 ∗ ν 2 ∔ (k0 ∔ ν 3 ∗ ν 4 ∗ ν 2)) refl
  series_step x (suc n) d u P = ap (λ y. Basis K x (suc d) u ⊗ P 0 ⊕ y) (series_step x n d (tail u) (tail P))
      ∙ ring (ring_of K) (up K x (u 0) (u (suc d)) ∷ Basis K x d u ∷ P 0 ∷ down K x (u 1) (u (suc (suc d))) ∷ Basis K x d (tail u) ∷ up K x (u 1) (u (suc (suc d))) ∷ P 1
      ∷ Series K x n d (tail (tail u)) (Round x d (tail (tail u)) (tail P))
      ∷ down K x (drop (suc (suc n)) u 0) (drop (suc (suc n)) u (suc d)) ⊗ Basis K x d (drop (suc (suc n)) u) ⊗ P (suc n) ∷ [])
      ((ν 0 ∗ ν 1 ∔ ν 3 ∗ ν 4) ∗ ν 2 ∔ (ν 5 ∗ ν 4 ∗ ν 6 ∔ (ν 7 ∔ ν 8)))
      (ν 0 ∗ ν 1 ∗ ν 2 ∔ ((ν 4 ∗ (ν 3 ∗ ν 2 ∔ ν 5 ∗ ν 6) ∔ ν 7) ∔ ν 8)) refl

  -- inside the domain the two terms are 0, so a round keeps the sum
  pub round_keeps : (x : F) (n d : ℕ) (u P : ℕ → F) → Rises K u → u (suc d) ≼ x → ¬ (u (suc n) ≼ x)
      → Series K x (suc n) (suc d) u P ≡ Series K x n d (tail u) (Round x d (tail u) P)
  round_keeps x n d u P m h k = series_step x n d u P ∙ ring_by (ring_of K)
      (up K x (u 0) (u (suc d)) ∷ Basis K x d u ∷ P 0 ∷ Series K x n d (tail u) (Round x d (tail u) P) ∷ down K x (drop (suc n) u 0) (drop (suc n) u (suc d)) ∷ Basis K x d (drop (suc n) u) ∷ P n ∷ [])
      (ν 0 ∗ ν 1 ∗ ν 2 ∔ (ν 3 ∔ ν 4 ∗ ν 5 ∗ ν 6)) (ν 3)
      (fact (ν 0 ∗ ν 2) (ν 1) k0 (basis_after K x d u m h) ∷ fact (ν 4 ∗ ν 6) (ν 5) k0 (basis_before K x d (drop (suc n) u) (drop_rises K (suc n) u m) (λ l. k (subst (λ y. u (suc y) ≼ x) (plus_zero n) l))) ∷ []) refl

  -- in the first span
  triangle_is_series_first : (x : F) (d n : ℕ) (u P : ℕ → F) → Rises K u → d < n → u d ≼ x → ¬ (u (suc d) ≼ x) → Series K x n d u P ≡ Triangle x d u P
  unfolding Series Triangle Basis
  triangle_is_series_first x d zero u P m l h k = absurd (omega arith)
  triangle_is_series_first x zero (suc n) u P m l h k = one_then K _ _ _ (indicator_in K x (u 0) (u 1) h k) (series_before K x n 0 (tail u) (tail P) (λ i. m (suc i)) k)
  triangle_is_series_first x (suc d) (suc n) u P m l h k = round_keeps x n d u P m h (λ y. k (le_trans _ _ x (rises_le K u m (suc (suc d)) (suc n) (omega arith)) y))
      ∙ triangle_is_series_first x d n (tail u) (Round x d (tail u) P) (λ i. m (suc i)) (omega arith) h k

  -- in any span, that of the knot j + d: what stands before the point j is 0 there
  pub triangle_is_series : (x : F) (j d n : ℕ) (u P : ℕ → F) → Rises K u → j ⊹ d < n → u (j ⊹ d) ≼ x → ¬ (u (suc (j ⊹ d)) ≼ x)
      → Series K x n d u P ≡ Triangle x d (drop j u) (drop j P)
  unfolding Series
  triangle_is_series x zero d n u P m l h k = triangle_is_series_first x d n u P m l h k
  triangle_is_series x (suc j) d zero u P m l h k = absurd (omega arith)
  triangle_is_series x (suc j) d (suc n) u P m l h k = zero_then K _ _ _ (basis_after K x d u m (le_trans _ _ x (rises_le K u m (suc d) (suc (j ⊹ d)) (omega (arith, plus_le j d))) h))
      ∙ triangle_is_series x j d n (tail u) (tail P) (λ i. m (suc i)) (omega arith) h k
