-- Splines, triangles and insertions by index.
use Rattle.std.proofs.Common.{◌≡◌, ℕ, zero, suc, ◌+◌, ◌<◌, ◌≤◌, [], ◌∷◌, sym, refl, ap, ◌∙◌, ap₂, suc-add, zero-add, arith}
use mathlib.Core.Path.{fun_ext}
use Rattle.fractions.proofs.Rings.{OrderedField, ring_of}
use Rattle.fractions.proofs.Solver.{ν, k0, ◌∔◌, ring}
use Rattle.fractions.proofs.OrderedFields.{sum}
use Rattle.splines.proofs.Fields.Streams.{◌⊹◌, tail, plus_is, plus_suc}
use Rattle.splines.proofs.Fields.Basis.{blend, indicator, Basis, Series}
use Rattle.splines.proofs.Fields.DeBoor.{Round, Triangle}
use Rattle.splines.proofs.Fields.Insertion.{Blends, Points}

module _ (K : OrderedField) where
  open K use {F, ◌⊕◌, ◌⊗◌}

  -- the sum from its first member on
  sum_front : (n : ℕ) (f : ℕ → F) → sum K (suc n) f ≡ f 0 ⊕ sum K n (λ i. f (suc i))
  unfolding sum
  sum_front zero f = ring (ring_of K) (f 0 ∷ []) (k0 ∔ ν 0) (ν 0 ∔ k0) refl
  sum_front (suc n) f =
      ap (λ y. y ⊕ f (suc n)) (sum_front n f) ∙ ring (ring_of K) (f 0 ∷ sum K n (λ i. f (suc i)) ∷ f (suc n) ∷ []) (ν 0 ∔ ν 1 ∔ ν 2) (ν 0 ∔ (ν 1 ∔ ν 2)) refl

  -- the spline as the sum over the indices of its control points
  pub series_is : (x : F) (n d : ℕ) (u P : ℕ → F) → sum K n (λ i. Basis K x d (λ m. u (i + m)) ⊗ P i) ≡ Series K x n d u P
  unfolding Series
  series_is x zero d u P = unfold sum in refl
  series_is x (suc n) d u P =
      sum_front n (λ i. Basis K x d (λ m. u (i + m)) ⊗ P i)
      ∙ ap₂ (λ y z. y ⊗ P 0 ⊕ z) (ap (Basis K x d) (fun_ext (λ m. ap u (zero-add m))))
      (ap (sum K n) (fun_ext (λ i. ap (λ y. y ⊗ P (suc i)) (ap (Basis K x d) (fun_ext (λ m. ap u (suc-add i m)))))) ∙ series_is x n d (tail u) (tail P))

  -- only the d + 2 knots of a basis function count
  pub basis_ext : (x : F) (d : ℕ) (u w : ℕ → F) → ((i : ℕ) → i ≤ suc d → u i ≡ w i) → Basis K x d u ≡ Basis K x d w
  unfolding Basis
  basis_ext x zero u w h = ap₂ (indicator K x) (h 0 (omega arith)) (h 1 (omega arith))
  basis_ext x (suc d) u w h = cc (
    h 0 (omega arith),
    h 1 (omega arith),
    h (suc d) (omega arith),
    h (suc (suc d)) (omega arith),
    basis_ext x d u w (λ i l. h i (omega arith)),
    basis_ext x d (tail u) (tail w) (λ i l. h (suc i) (omega arith)),
  )

  -- only the knots up to n + d and the points below n count
  pub series_ext : (x : F) (n d : ℕ) (u w P Q : ℕ → F) → ((i : ℕ) → i ≤ n + d → u i ≡ w i) → ((i : ℕ) → i < n → P i ≡ Q i) → Series K x n d u P ≡ Series K x n d w Q
  unfolding Series
  series_ext x zero d u w P Q h k = refl
  series_ext x (suc n) d u w P Q h k = ap₂ ◌⊕◌ (ap₂ ◌⊗◌ (basis_ext x d u w (λ i l. h i (omega arith))) (k 0 (omega arith)))
      (series_ext x n d (tail u) (tail w) (tail P) (tail Q) (λ i l. h (suc i) (omega arith)) (λ i l. k (suc i) (omega arith)))

  -- only the knots 1 to 2d and the points 0 to d of the window count
  pub triangle_ext : (x : F) (d : ℕ) (u w P Q : ℕ → F) → ((i : ℕ) → 1 ≤ i → i ≤ d + d → u i ≡ w i) → ((i : ℕ) → i ≤ d → P i ≡ Q i) → Triangle K x d u P ≡ Triangle K x d w Q
  unfolding Triangle
  triangle_ext x zero u w P Q h k = k 0 (omega arith)
  triangle_ext x (suc d) u w P Q h k = triangle_ext x d (tail u) (tail w) (Round K x d (tail u) P) (Round K x d (tail w) Q) (λ i l n. h (suc i) (omega arith) (omega arith)) go
    where
      go : (i : ℕ) → i ≤ d → Round K x d (tail u) P i ≡ Round K x d (tail w) Q i
      go i l = cc (h (suc i) (omega arith) (omega arith), h (suc (i ⊹ suc d)) (omega arith) (omega (arith, plus_is i (suc d))), k i (omega arith), k (suc i) (omega arith))

  -- the triangle by rounds: entry m of round r, counted from the first that the round has
  unfoldable pub Entry : F → ℕ → (ℕ → F) → (ℕ → F) → ℕ → ℕ → F
  Entry x d u P zero m = P m
  Entry x d u P (suc r) m = blend K x (u (suc (r ⊹ m))) (u (suc (m ⊹ d))) (Entry x d u P r m) (Entry x d u P r (suc m))

  -- its first round taken off
  entry_front : (x : F) (d : ℕ) (u P : ℕ → F) (r m : ℕ) → Entry x (suc d) u P (suc r) m ≡ Entry x d (tail u) (Round K x d (tail u) P) r m
  unfolding Entry
  entry_front x d u P zero m = refl
  entry_front x d u P (suc r) m = ap₂ (λ y z. blend K x (u (suc (suc r ⊹ m))) (u (suc (m ⊹ suc d))) y z) (entry_front x d u P r m) (entry_front x d u P r (suc m))
      ∙ ap (λ y. blend K x (u (suc (suc r ⊹ m))) (u (suc y)) (Entry x d (tail u) (Round K x d (tail u) P) r m) (Entry x d (tail u) (Round K x d (tail u) P) r (suc m))) (plus_suc m d)

  pub triangle_is : (x : F) (d : ℕ) (u P : ℕ → F) → Triangle K x d u P ≡ Entry x d u P d 0
  unfolding Triangle
  triangle_is x zero u P = unfold Entry in refl
  triangle_is x (suc d) u P = triangle_is x d (tail u) (Round K x d (tail u) P) ∙ sym (entry_front x d u P d 0)

  -- the inserted points by index
  pub points_low : (t : F) (q d i : ℕ) (u P : ℕ → F) → i ≤ q → Points K q d t u P i ≡ P i
  unfolding Points
  points_low t zero d zero u P h = refl
  points_low t zero d (suc i) u P h = absurd (omega arith)
  points_low t (suc q) d zero u P h = refl
  points_low t (suc q) d (suc i) u P h = points_low t q d i (tail u) (tail P) (omega arith)

  blends_low : (t : F) (c d i : ℕ) (w P : ℕ → F) → i < c → Blends K c d t w P i ≡ blend K t (w i) (w (i ⊹ d)) (P i) (P (suc i))
  unfolding Blends
  blends_low t zero d i w P h = absurd (omega arith)
  blends_low t (suc c) d zero w P h = refl
  blends_low t (suc c) d (suc i) w P h = blends_low t c d i (tail w) (tail P) (omega arith)

  blends_high : (t : F) (c d i : ℕ) (w P : ℕ → F) → c ≤ i → Blends K c d t w P i ≡ P i
  unfolding Blends
  blends_high t zero d i w P h = refl
  blends_high t (suc c) d zero w P h = absurd (omega arith)
  blends_high t (suc c) d (suc i) w P h = blends_high t c d i (tail w) (tail P) (omega arith)

  pub points_middle : (t : F) (q d i : ℕ) (u P : ℕ → F) → q ≤ i → i < q + d → Points K q d t u P (suc i) ≡ blend K t (u (suc i)) (u (suc (i ⊹ d))) (P i) (P (suc i))
  unfolding Points
  points_middle t zero d i u P h k = blends_low t d d i (tail u) P (omega arith)
  points_middle t (suc q) d zero u P h k = absurd (omega arith)
  points_middle t (suc q) d (suc i) u P h k = points_middle t q d i (tail u) (tail P) (omega arith) (omega arith)

  pub points_high : (t : F) (q d i : ℕ) (u P : ℕ → F) → q + d ≤ i → Points K q d t u P (suc i) ≡ P i
  unfolding Points
  points_high t zero d i u P h = blends_high t d d i (tail u) P (omega arith)
  points_high t (suc q) d zero u P h = absurd (omega arith)
  points_high t (suc q) d (suc i) u P h = points_high t q d i (tail u) (tail P) (omega arith)
