-- Raising: a spline without inner knots has one weight in all its triangle (de Casteljau), and is its Bernstein form.
use Rattle.std.proofs.Common.{◌≡◌, ℕ, zero, suc, ◌<◌, ◌≤◌, [], ◌∷◌, sym, refl, ap, ◌∙◌, subst, ap₂, arith}
use mathlib.Core.Path.{fun_ext}
use Rattle.fractions.proofs.Rings.{OrderedField, ring_of}
use Rattle.fractions.proofs.Solver.{ν, k0, k1, ◌∔◌, ◌∗◌, −◌, ◌∸◌, ring, ring_by, fact}
use Rattle.fractions.proofs.OrderedFields.{natural, natural_above}
use Rattle.splines.proofs.Fields.Streams.{◌⊹◌, tail, plus_le}
use Rattle.splines.proofs.Fields.Basis.{Rises, up, down, blend, Series}
use Rattle.splines.proofs.Fields.DeBoor.{Round, Triangle, triangle_is_series}
use Rattle.splines.proofs.Fields.Convexity.{weights}

module _ (K : OrderedField) where
  open K use {F, 𝟘, 𝟙, ◌⊕◌, ◌⊗◌, neg, inv, ◌≼◌, le_total, le_refl, le_trans, mul_inv}

  infixl 60 ◌⊖◌
  abbrev ◌⊖◌ : F → F → F
  a ⊖ b = a ⊕ neg b

  -- the triangle with the weight w throughout
  casteljau : F → ℕ → (ℕ → F) → F
  casteljau w zero P = P 0
  casteljau w (suc d) P = casteljau w d (λ i. (𝟙 ⊖ w) ⊗ P i ⊕ w ⊗ P (suc i))

  casteljau_linear : (w a b : F) (d : ℕ) (P Q : ℕ → F) → casteljau w d (λ i. a ⊗ P i ⊕ b ⊗ Q i) ≡ a ⊗ casteljau w d P ⊕ b ⊗ casteljau w d Q
  unfolding casteljau
  casteljau_linear w a b zero P Q = refl
  casteljau_linear w a b (suc d) P Q = ap (casteljau w d) (fun_ext (λ i. ring (ring_of K) (w ∷ a ∷ b ∷ P i ∷ Q i ∷ P (suc i) ∷ Q (suc i) ∷ [])
      ((k1 ∸ ν 0) ∗ (ν 1 ∗ ν 3 ∔ ν 2 ∗ ν 4) ∔ ν 0 ∗ (ν 1 ∗ ν 5 ∔ ν 2 ∗ ν 6)) (ν 1 ∗ ((k1 ∸ ν 0) ∗ ν 3 ∔ ν 0 ∗ ν 5) ∔ ν 2 ∗ ((k1 ∸ ν 0) ∗ ν 4 ∔ ν 0 ∗ ν 6)) refl))
      ∙ casteljau_linear w a b d (λ i. (𝟙 ⊖ w) ⊗ P i ⊕ w ⊗ P (suc i)) (λ i. (𝟙 ⊖ w) ⊗ Q i ⊕ w ⊗ Q (suc i))

  -- c times the raised points, c being the new degree: linear in the points, and simpler than the points themselves
  times_raised : F → (ℕ → F) → ℕ → F
  times_raised c P zero = c ⊗ P 0
  times_raised c P (suc i) = (c ⊖ natural K (suc i)) ⊗ P (suc i) ⊕ natural K (suc i) ⊗ P i

  times_raised_here : (c : F) (P : ℕ → F) (i : ℕ) → times_raised (c ⊕ 𝟙) P i ≡ 𝟙 ⊗ times_raised c P i ⊕ 𝟙 ⊗ P i
  unfolding times_raised
  times_raised_here c P zero = ring (ring_of K) (c ∷ P 0 ∷ []) ((ν 0 ∔ k1) ∗ ν 1) (k1 ∗ (ν 0 ∗ ν 1) ∔ k1 ∗ ν 1) refl
  times_raised_here c P (suc i) = ring (ring_of K) (c ∷ P i ∷ P (suc i) ∷ natural K (suc i) ∷ []) ((ν 0 ∔ k1 ∸ ν 3) ∗ ν 2 ∔ ν 3 ∗ ν 1) (k1 ∗ ((ν 0 ∸ ν 3) ∗ ν 2 ∔ ν 3 ∗ ν 1) ∔ k1 ∗ ν 2) refl

  times_raised_next : (c : F) (P : ℕ → F) (i : ℕ) → times_raised (c ⊕ 𝟙) P (suc i) ≡ 𝟙 ⊗ times_raised c (tail P) i ⊕ 𝟙 ⊗ P i
  unfolding times_raised natural
  times_raised_next c P zero = ring (ring_of K) (c ∷ P 0 ∷ P 1 ∷ []) ((ν 0 ∔ k1 ∸ (k0 ∔ k1)) ∗ ν 2 ∔ (k0 ∔ k1) ∗ ν 1) (k1 ∗ (ν 0 ∗ ν 2) ∔ k1 ∗ ν 1) refl
  times_raised_next c P (suc i) = ring (ring_of K) (c ∷ P (suc i) ∷ P (suc (suc i)) ∷ natural K i ∷ [])
      ((ν 0 ∔ k1 ∸ (ν 3 ∔ k1 ∔ k1)) ∗ ν 2 ∔ (ν 3 ∔ k1 ∔ k1) ∗ ν 1) (k1 ∗ ((ν 0 ∸ (ν 3 ∔ k1)) ∗ ν 2 ∔ (ν 3 ∔ k1) ∗ ν 1) ∔ k1 ∗ ν 1) refl

  -- so raising keeps the triangle, c times over,
  raised_times : (w : F) (d : ℕ) (P : ℕ → F) → casteljau w (suc d) (times_raised (natural K (suc d)) P) ≡ natural K (suc d) ⊗ casteljau w d P
  unfolding casteljau times_raised natural
  raised_times w zero P = ring (ring_of K) (w ∷ P 0 ∷ P 1 ∷ []) ((k1 ∸ ν 0) ∗ ((k0 ∔ k1) ∗ ν 1) ∔ ν 0 ∗ (((k0 ∔ k1) ∸ (k0 ∔ k1)) ∗ ν 2 ∔ (k0 ∔ k1) ∗ ν 1)) ((k0 ∔ k1) ∗ ν 1) refl
  raised_times w (suc d) P = casteljau_linear w (𝟙 ⊖ w) w (suc d) (times_raised (natural K (suc d) ⊕ 𝟙) P) (tail (times_raised (natural K (suc d) ⊕ 𝟙) P))
      ∙ ap₂ (λ y z. (𝟙 ⊖ w) ⊗ y ⊕ w ⊗ z)
      (ap (casteljau w (suc d)) (fun_ext (times_raised_here (natural K (suc d)) P)) ∙ casteljau_linear w 𝟙 𝟙 (suc d) (times_raised (natural K (suc d)) P) P ∙ ap (λ y. 𝟙 ⊗ y ⊕ 𝟙 ⊗ casteljau w (suc d) P) (raised_times w d P))
      (ap (casteljau w (suc d)) (fun_ext (times_raised_next (natural K (suc d)) P)) ∙ casteljau_linear w 𝟙 𝟙 (suc d) (times_raised (natural K (suc d)) (tail P)) P ∙ ap (λ y. 𝟙 ⊗ y ⊕ 𝟙 ⊗ casteljau w (suc d) P) (raised_times w d (tail P)))
      ∙ ring_by (ring_of K) (w ∷ natural K (suc d) ∷ casteljau w d P ∷ casteljau w d (tail P) ∷ casteljau w (suc d) P ∷ [])
      ((k1 ∸ ν 0) ∗ (k1 ∗ (ν 1 ∗ ν 2) ∔ k1 ∗ ν 4) ∔ ν 0 ∗ (k1 ∗ (ν 1 ∗ ν 3) ∔ k1 ∗ ν 4)) ((ν 1 ∔ k1) ∗ ν 4)
      (fact (− ν 1) (ν 4) ((k1 ∸ ν 0) ∗ ν 2 ∔ ν 0 ∗ ν 3) (casteljau_linear w (𝟙 ⊖ w) w d P (tail P)) ∷ []) refl

  -- the points of a Bernstein form of degree d, raised
  unfoldable pub raised : ℕ → (ℕ → F) → ℕ → F
  raised d P zero = P 0
  raised d P (suc i) = (𝟙 ⊖ natural K (suc i) ⊗ inv (natural K (suc d))) ⊗ P (suc i) ⊕ (natural K (suc i) ⊗ inv (natural K (suc d))) ⊗ P i

  -- and once
  raised_casteljau : (w : F) (d : ℕ) (P : ℕ → F) → casteljau w (suc d) (raised d P) ≡ casteljau w d P
  unfolding raised times_raised
  raised_casteljau w d P = ap (casteljau w (suc d)) (fun_ext same) ∙ casteljau_linear w r 𝟘 (suc d) (times_raised n P) P
      ∙ ring_by (ring_of K) (r ∷ n ∷ casteljau w (suc d) (times_raised n P) ∷ casteljau w (suc d) P ∷ casteljau w d P ∷ []) (ν 0 ∗ ν 2 ∔ k0 ∗ ν 3) (ν 4)
      (fact (ν 0) (ν 2) (ν 1 ∗ ν 4) (raised_times w d P) ∷ fact (ν 4) (ν 1 ∗ ν 0) k1 one ∷ []) refl
    where
      n : F
      n = natural K (suc d)

      r : F
      r = inv n

      one : n ⊗ r ≡ 𝟙
      one = mul_inv n (natural_above K d)

      same : (i : ℕ) → raised d P i ≡ r ⊗ times_raised n P i ⊕ 𝟘 ⊗ P i
      same zero = ring_by (ring_of K) (r ∷ n ∷ P 0 ∷ []) (ν 2) (ν 0 ∗ (ν 1 ∗ ν 2) ∔ k0 ∗ ν 2) (fact (− ν 2) (ν 1 ∗ ν 0) k1 one ∷ []) refl
      same (suc i) = ring_by (ring_of K) (r ∷ n ∷ P i ∷ P (suc i) ∷ natural K (suc i) ∷ []) ((k1 ∸ ν 4 ∗ ν 0) ∗ ν 3 ∔ ν 4 ∗ ν 0 ∗ ν 2)
          (ν 0 ∗ ((ν 1 ∸ ν 4) ∗ ν 3 ∔ ν 4 ∗ ν 2) ∔ k0 ∗ ν 3) (fact (− ν 3) (ν 1 ∗ ν 0) k1 one ∷ []) refl

  -- without inner knots the triangle has one weight
  one_weight : (x a b : F) → ¬ (b ≼ a) → (d : ℕ) (u P Q : ℕ → F) → ((i : ℕ) → i ≤ d → u i ≡ a) → ((i : ℕ) → d < i → u i ≡ b)
      → ((i : ℕ) → i ≤ d → P i ≡ Q i) → Triangle K x d u P ≡ casteljau (up K x a b) d Q
  unfolding Triangle casteljau
  one_weight x a b h zero u P Q l r e = e 0 (omega arith)
  one_weight x a b h (suc d) u P Q l r e = one_weight x a b h d (tail u) (Round K x d (tail u) P) (λ i. (𝟙 ⊖ up K x a b) ⊗ Q i ⊕ up K x a b ⊗ Q (suc i))
      (λ i k. l (suc i) (omega arith)) (λ i k. r (suc i) (omega arith)) go
    where
      go : (i : ℕ) → i ≤ d → Round K x d (tail u) P i ≡ (𝟙 ⊖ up K x a b) ⊗ Q i ⊕ up K x a b ⊗ Q (suc i)
      go i k = ap₂ (λ y z. blend K x y z (P i) (P (suc i))) (l (suc i) (omega arith)) (r (suc (i ⊹ suc d)) (omega (arith, plus_le i (suc d))))
          ∙ ap₂ (blend K x a b) (e i (omega arith)) (e (suc i) (omega arith))
          ∙ ring_by (ring_of K) (down K x a b ∷ up K x a b ∷ Q i ∷ Q (suc i) ∷ []) (ν 0 ∗ ν 2 ∔ ν 1 ∗ ν 3) ((k1 ∸ ν 1) ∗ ν 2 ∔ ν 1 ∗ ν 3) (fact (ν 2) (ν 0 ∔ ν 1) k1 (weights K x a b h) ∷ []) refl

  ends_rise : (a b : F) → a ≼ b → (d : ℕ) (u : ℕ → F) → ((i : ℕ) → i ≤ d → u i ≡ a) → ((i : ℕ) → d < i → u i ≡ b) → Rises K u
  ends_rise a b h zero u l r zero = subst (λ y. y ≼ u 1) (sym (l 0 (omega arith))) (subst (λ y. a ≼ y) (sym (r 1 (omega arith))) h)
  ends_rise a b h zero u l r (suc i) = subst (λ y. u (suc i) ≼ y) (r (suc i) (omega arith) ∙ sym (r (suc (suc i)) (omega arith))) (le_refl (u (suc i)))
  ends_rise a b h (suc d) u l r zero = subst (λ y. u 0 ≼ y) (l 0 (omega arith) ∙ sym (l 1 (omega arith))) (le_refl (u 0))
  ends_rise a b h (suc d) u l r (suc i) = ends_rise a b h d (tail u) (λ i k. l (suc i) (omega arith)) (λ i k. r (suc i) (omega arith)) i

  -- the sum in Bernstein form
  bernstein : (x a b : F) → a ≼ x → ¬ (b ≼ x) → (d : ℕ) (u P : ℕ → F) → ((i : ℕ) → i ≤ d → u i ≡ a) → ((i : ℕ) → d < i → u i ≡ b)
      → Series K x (suc d) d u P ≡ casteljau (up K x a b) d P
  bernstein x a b h k d u P l r = triangle_is_series K x 0 d (suc d) u P (ends_rise a b (le_trans _ _ _ h (le_total _ _ k)) d u l r) (omega arith)
      (subst (λ y. y ≼ x) (sym (l d (omega arith))) h) (λ y. k (subst (λ z. z ≼ x) (r (suc d) (omega arith)) y))
      ∙ one_weight x a b (λ y. k (le_trans _ _ _ y h)) d u P P l r (λ i _. refl)

  -- raising keeps the sum
  pub raising : (x a b : F) → a ≼ x → ¬ (b ≼ x) → (d : ℕ) (u u' P : ℕ → F) → ((i : ℕ) → i ≤ d → u i ≡ a) → ((i : ℕ) → d < i → u i ≡ b)
      → ((i : ℕ) → i ≤ suc d → u' i ≡ a) → ((i : ℕ) → suc d < i → u' i ≡ b) → Series K x (suc (suc d)) (suc d) u' (raised d P) ≡ Series K x (suc d) d u P
  raising x a b h k d u u' P l r l' r' = bernstein x a b h k (suc d) u' (raised d P) l' r' ∙ raised_casteljau (up K x a b) d P ∙ sym (bernstein x a b h k d u P l r)
