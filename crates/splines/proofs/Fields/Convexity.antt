-- What convex combinations keep, the triangle keeps; and no basis function is negative.
use Rattle.std.proofs.Common.{◌≡◌, ℕ, zero, suc, ◌+◌, ◌-◌, ◌<◌, ◌≤◌, [], ◌∷◌, sym, refl, ap, ◌∙◌, subst, arith}
use Rattle.fractions.proofs.Rings.{OrderedField, ring_of}
use Rattle.fractions.proofs.Solver.{ν, k0, k1, ◌∔◌, ◌∗◌, −◌, ◌∸◌, ring_by, fact}
use Rattle.fractions.proofs.OrderedFields.{Near, Kept, near_refl, near_trans, near_kept, sub_nonneg, quotient_nonneg, span_inverse, add_nonneg, one_nonneg, sum}
use Rattle.splines.proofs.Fields.Streams.{◌⊹◌, tail, plus_le}
use Rattle.splines.proofs.Fields.Basis.{Rises, up, down, blend, indicator', Basis, basis_before, basis_after, rises_le}
use Rattle.splines.proofs.Fields.DeBoor.{Round, Triangle}

module _ (K : OrderedField) where
  open K use {F, 𝟘, 𝟙, ◌⊕◌, ◌⊗◌, neg, inv, ◌≼◌, le?, le_total, le_refl, le_trans, mul_nonneg, add_comm}

  infixl 60 ◌⊖◌
  abbrev ◌⊖◌ : F → F → F
  a ⊖ b = a ⊕ neg b

  -- the two weights sum to 1
  pub weights : (x a c : F) → ¬ (c ≼ a) → down K x a c ⊕ up K x a c ≡ 𝟙
  weights x a c h = ring_by (ring_of K) (x ∷ a ∷ c ∷ inv (c ⊖ a) ∷ []) ((ν 2 ∸ ν 0) ∗ ν 3 ∔ (ν 0 ∸ ν 1) ∗ ν 3) k1
      (fact k1 ((ν 2 ∸ ν 1) ∗ ν 3) k1 (span_inverse K a c h) ∷ []) refl

  -- at its start a blend is its first point
  pub blend_at_start : (x a c p q : F) → a ≡ x → ¬ (c ≼ x) → blend K x a c p q ≡ p
  blend_at_start x a c p q e h =
      ap (λ y. blend K x y c p q) e
      ∙ ring_by (ring_of K) (x ∷ c ∷ p ∷ q ∷ inv (c ⊖ x) ∷ []) ((ν 1 ∸ ν 0) ∗ ν 4 ∗ ν 2 ∔ (ν 0 ∸ ν 0) ∗ ν 4 ∗ ν 3) (ν 2)
      (fact (ν 2) ((ν 1 ∸ ν 0) ∗ ν 4) k1 (span_inverse K x c h) ∷ []) refl

  -- inside its span a blend is a convex combination
  pub blend_kept : (R : F → F → Type 0) → Kept K R → (x a c p p' q q' : F) → a ≼ x → ¬ (c ≼ x) → R p p' → R q q' → R (blend K x a c p q) (blend K x a c p' q')
  blend_kept R kept x a c p p' q q' h k =
      kept (down K x a c) (up K x a c) p p' q q' (quotient_nonneg K _ a c (sub_nonneg K x c below) (le_trans _ _ _ h below)) (quotient_nonneg K _ a c (sub_nonneg K a x h) (le_trans _ _ _ h below))
      (weights x a c (λ y. k (le_trans _ _ _ y h)))
    where
      below : x ≼ c
      below = le_total _ _ k

  -- so what such combinations keep passes from the points to the triangle
  pub triangle_kept : (R : F → F → Type 0) → Kept K R → (x : F) (d : ℕ) (u P Q : ℕ → F) → Rises K u → u d ≼ x → ¬ (u (suc d) ≼ x)
      → ((i : ℕ) → i ≤ d → R (P i) (Q i)) → R (Triangle K x d u P) (Triangle K x d u Q)
  unfolding Triangle
  triangle_kept R kept x zero u P Q m h k r = r 0 (omega arith)
  triangle_kept R kept x (suc d) u P Q m h k r =
      triangle_kept R kept x d (tail u) (Round K x d (tail u) P) (Round K x d (tail u) Q) (λ j. m (suc j)) h k (λ i l.
      blend_kept R kept x (u (suc i)) (u (suc (i ⊹ suc d))) (P i) (Q i) (P (suc i)) (Q (suc i)) (le_trans _ _ _ (rises_le K u m (suc i) (suc d) (omega arith)) h)
      (λ y. k (le_trans _ _ _ (rises_le K u m (suc (suc d)) (suc (i ⊹ suc d)) (omega (arith, plus_le i (suc d)))) y)) (r i (omega arith)) (r (suc i) (omega arith)))

  -- A triangle with rounded entries Z beside the exact one with entries X, over the span of knot k: where each entry of round r + 1
  -- is at most e r from the exact blend of the two rounded entries before it, the entries of round r are at most e 0 + .. + e (r - 1)
  -- from the exact ones.
  module _ (d k : ℕ) (x : F) (u : ℕ → F) (Z X : ℕ → ℕ → F) (e : ℕ → F)
      (low : (i : ℕ) → i ≤ k → u i ≼ x) (high : (i : ℕ) → k < i → i ≤ k + d → ¬ (u i ≼ x))
      (base : (i : ℕ) → k ≤ i + d → i ≤ k → Z 0 i ≡ X 0 i)
      (rough : (r i : ℕ) → r < d → k + suc r ≤ i + d → i ≤ k → Near K (e r) (Z (suc r) i) (blend K x (u i) (u (i + d + 1 - suc r)) (Z r (i - 1)) (Z r i)))
      (exact : (r i : ℕ) → X (suc r) i ≡ blend K x (u i) (u (i + d + 1 - suc r)) (X r (i - 1)) (X r i)) where
    pub rounded_triangle : (r i : ℕ) → r ≤ d → k + r ≤ i + d → i ≤ k → Near K (sum K r e) (Z r i) (X r i)
    unfolding sum
    rounded_triangle zero i few from to = subst (λ y. Near K 𝟘 (Z 0 i) y) (base i (omega arith) to) (near_refl K (Z 0 i))
    rounded_triangle (suc r) i few from to =
        let a : F = u i in
        let c : F = u (i + d + 1 - suc r) in
        subst (λ y. Near K y (Z (suc r) i) (X (suc r) i)) (add_comm (e r) (sum K r e))
        (near_trans K (Z (suc r) i) (blend K x a c (Z r (i - 1)) (Z r i)) (X (suc r) i) (e r) (sum K r e) (rough r i (omega arith) from to)
        (subst (λ y. Near K (sum K r e) (blend K x a c (Z r (i - 1)) (Z r i)) y) (sym (exact r i))
        (blend_kept (Near K (sum K r e)) (near_kept K (sum K r e)) x a c (Z r (i - 1)) (X r (i - 1)) (Z r i) (X r i) (low i to) (high (i + d + 1 - suc r) (omega arith) (omega arith))
        (rounded_triangle r (i - 1) (omega arith) (omega arith) (omega arith)) (rounded_triangle r i (omega arith) (omega arith) to))))

  -- the span of a parameter of the domain
  pub find_span : (x : F) (d m : ℕ) (u : ℕ → F) → u d ≼ x → ¬ (u (m ⊹ d) ≼ x) → (j : ℕ) × (j < m) × (u (j ⊹ d) ≼ x) × ¬ (u (suc (j ⊹ d)) ≼ x)
  find_span x d zero u h k = absurd (k h)
  find_span x d (suc m) u h k = go (le? (u (m ⊹ d)) x) (λ y. find_span x d m u h y)
    where
      up_one : (j : ℕ) × (j < m) × (u (j ⊹ d) ≼ x) × ¬ (u (suc (j ⊹ d)) ≼ x) → (j : ℕ) × (j < suc m) × (u (j ⊹ d) ≼ x) × ¬ (u (suc (j ⊹ d)) ≼ x)
      up_one s = let l : s.0 < m = s.1 in (s.0, omega arith, s.2, s.3)

      go : Dec (u (m ⊹ d) ≼ x) → (¬ (u (m ⊹ d) ≼ x) → (j : ℕ) × (j < m) × (u (j ⊹ d) ≼ x) × ¬ (u (suc (j ⊹ d)) ≼ x))
          → (j : ℕ) × (j < suc m) × (u (j ⊹ d) ≼ x) × ¬ (u (suc (j ⊹ d)) ≼ x)
      go (yes y) f = (m, omega arith, y, k)
      go (no y) f = up_one (f y)

  times_zero : (a b : F) → b ≡ 𝟘 → 𝟘 ≼ a ⊗ b
  times_zero a b h = subst (λ y. 𝟘 ≼ y) (ring_by (ring_of K) (a ∷ b ∷ []) k0 (ν 0 ∗ ν 1) (fact (− ν 0) (ν 1) k0 h ∷ []) refl) (le_refl 𝟘)

  indicator_nonneg : {A B : Type 0} (p : Dec A) (q : Dec B) → 𝟘 ≼ indicator' K p q
  indicator_nonneg (no _) q = le_refl 𝟘
  indicator_nonneg (yes _) (yes _) = le_refl 𝟘
  indicator_nonneg (yes _) (no _) = one_nonneg K

  -- no basis function is negative: where a weight would be, the function that it multiplies is 0
  pub basis_nonneg : (x : F) (d : ℕ) (u : ℕ → F) → Rises K u → 𝟘 ≼ Basis K x d u
  unfolding Basis
  basis_nonneg x zero u m = indicator_nonneg (le? (u 0) x) (le? (u 1) x)
  basis_nonneg x (suc d) u m =
      add_nonneg K _ _ (rising (le? (u 0) x) (basis_nonneg x d u m)) (falling (le? (u (suc (suc d))) x) (basis_nonneg x d (tail u) (λ i. m (suc i))))
    where
      rising : Dec (u 0 ≼ x) → 𝟘 ≼ Basis K x d u → 𝟘 ≼ up K x (u 0) (u (suc d)) ⊗ Basis K x d u
      rising (yes h) b = mul_nonneg _ _ (quotient_nonneg K _ _ _ (sub_nonneg K _ _ h) (rises_le K u m 0 (suc d) (omega arith))) b
      rising (no h) b = times_zero _ _ (basis_before K x d u m h)

      falling : Dec (u (suc (suc d)) ≼ x) → 𝟘 ≼ Basis K x d (tail u) → 𝟘 ≼ down K x (u 1) (u (suc (suc d))) ⊗ Basis K x d (tail u)
      falling (yes h) b = times_zero _ _ (basis_after K x d (tail u) (λ i. m (suc i)) h)
      falling (no h) b = mul_nonneg _ _ (quotient_nonneg K _ _ _ (sub_nonneg K _ _ (le_total _ _ h)) (rises_le K u m 1 (suc (suc d)) (omega arith))) b
