-- Halves: where a knot stands as often as the degree, the points before it and those after it are splines of their own.
use Rattle.std.proofs.Common.{◌≡◌, ℕ, zero, suc, ◌+◌, ◌<◌, ◌≤◌, sym, refl, ap, ◌∙◌, subst, arith}
use Rattle.fractions.proofs.Rings.{OrderedField}
use Rattle.splines.proofs.Fields.Streams.{◌⊹◌, tail, drop, plus_is}
use Rattle.splines.proofs.Fields.Basis.{Rises, Series, zero_then, basis_after, rises_le, drop_rises}
use Rattle.splines.proofs.Fields.DeBoor.{Round, round_keeps, triangle_is_series}
use Rattle.splines.proofs.Fields.Convexity.{find_span}
use Rattle.splines.proofs.Fields.Indices.{triangle_ext}

module _ (K : OrderedField) where
  open K use {F, ◌≼◌, le_trans}

  -- left half of a split: the same knots up to index p + d, where p = r + d; whatever comes then rises
  pub left_half_keeps : (x : F) (r d n : ℕ) (u w P : ℕ → F) → Rises K u → Rises K w → ((i : ℕ) → i ≤ r + d + d → u i ≡ w i) → 1 ≤ d → r ⊹ d < n
      → u d ≼ x → ¬ (u (suc r ⊹ d) ≼ x) → Series K x (suc (r ⊹ d)) d w P ≡ Series K x n d u P
  left_half_keeps x r d n u w P m m' e g l h k = go (find_span K x d (suc r) u h k)
    where
      go : (j : ℕ) × (j < suc r) × (u (j ⊹ d) ≼ x) × ¬ (u (suc (j ⊹ d)) ≼ x) → Series K x (suc (r ⊹ d)) d w P ≡ Series K x n d u P
      go (j, b, y, z) = triangle_is_series K x j d (suc (r ⊹ d)) w P m' (omega (arith, plus_is j d, plus_is r d))
          (subst (λ a. a ≼ x) (e (j ⊹ d) (omega (arith, plus_is j d))) y) (λ a. z (subst (λ c. c ≼ x) (sym (e (suc (j ⊹ d)) (omega (arith, plus_is j d)))) a))
          ∙ triangle_ext K x d (drop j w) (drop j u) (drop j P) (drop j P) (λ i _ a. sym (e (j ⊹ i) (omega (arith, plus_is j i)))) (λ i _. refl)
          ∙ sym (triangle_is_series K x j d n u P m (omega (arith, plus_is j d, plus_is r d)) y z)

  -- what stands before the span of x is 0
  series_from : (x : F) (p n d : ℕ) (u P : ℕ → F) → Rises K u → u (p ⊹ d) ≼ x → Series K x (p ⊹ n) d u P ≡ Series K x n d (drop p u) (drop p P)
  unfolding Series
  series_from x zero n d u P m h = refl
  series_from x (suc p) n d u P m h = zero_then K _ _ _ (basis_after K x d u m (le_trans _ _ _ (rises_le K u m (suc d) (suc (p ⊹ d)) (omega (arith, plus_is p d))) h))
      ∙ series_from x p n d (tail u) (tail P) (λ j. m (suc j)) h

  -- right half: the points from p on, and the knots from p + 1 on behind one of any value that does not fall
  pub right_half_keeps : (x : F) (p n d : ℕ) (u w P : ℕ → F) → Rises K u → Rises K w → tail w ≡ tail (drop p u) → u (p ⊹ suc d) ≼ x → ¬ (u (p ⊹ suc n) ≼ x)
      → Series K x (suc n) (suc d) w (drop p P) ≡ Series K x (p ⊹ suc n) (suc d) u P
  right_half_keeps x p n d u w P m m' e h k = round_keeps K x n d w (drop p P) m' (subst (λ y. y ≼ x) (sym (at d)) h) (λ y. k (subst (λ z. z ≼ x) (at n) y))
      ∙ ap (λ y. Series K x n d y (Round K x d y (drop p P))) e
      ∙ sym (round_keeps K x n d (drop p u) (drop p P) (drop_rises K p u m) h k)
      ∙ sym (series_from x p (suc n) (suc d) u P m h)
    where
      at : (i : ℕ) → w (suc i) ≡ u (p ⊹ suc i)
      at i = ap (λ f. f i) e
