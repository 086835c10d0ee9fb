-- The basis functions and their sum, over any ordered field, for streams of knots and control points. A basis function is 0 outside
-- the knots that it stands on, which also covers every quotient whose divisor is 0.
use Rattle.std.proofs.Common.{◌≡◌, ℕ, zero, suc, ◌≤◌, [], ◌∷◌, refl, ap, ◌∙◌, arith}
use Rattle.fractions.proofs.Rings.{OrderedField, ring_of}
use Rattle.fractions.proofs.Solver.{ν, k0, k1, ◌∔◌, ◌∗◌, ring, ring_by, fact}
use Rattle.splines.proofs.Fields.Streams.{tail, drop}

module _ (K : OrderedField) where
  open K use {F, 𝟘, 𝟙, ◌⊕◌, ◌⊗◌, neg, inv, ◌≼◌, le?, le_refl, le_trans}

  infixl 60 ◌⊖◌
  abbrev ◌⊖◌ : F → F → F
  a ⊖ b = a ⊕ neg b

  -- knots that never fall; they may repeat
  abbrev pub Rises : (ℕ → F) → Type 0
  Rises u = (i : ℕ) → u i ≼ u (suc i)

  -- the weights at x on the way from a to c, and the blend of p and q by them
  abbrev pub up : F → F → F → F
  up x a c = (x ⊖ a) ⊗ inv (c ⊖ a)

  abbrev pub down : F → F → F → F
  down x a c = (c ⊖ x) ⊗ inv (c ⊖ a)

  abbrev pub blend : F → F → F → F → F → F
  blend x a c p q = down x a c ⊗ p ⊕ up x a c ⊗ q

  -- 1 where a ≤ x < c, else 0
  abbrev pub indicator' : {A B : Type 0} → Dec A → Dec B → F
  indicator' (no _) _ = 𝟘
  indicator' (yes _) (yes _) = 𝟘
  indicator' (yes _) (no _) = 𝟙

  abbrev pub indicator : F → F → F → F
  indicator x a c = indicator' (le? a x) (le? c x)

  -- the basis function of index 0 over the knots u; the others stand over the tails of u
  unfoldable pub Basis : F → ℕ → (ℕ → F) → F
  Basis x zero u = indicator x (u 0) (u 1)
  Basis x (suc d) u = up x (u 0) (u (suc d)) ⊗ Basis x d u ⊕ down x (u 1) (u (suc (suc d))) ⊗ Basis x d (tail u)

  -- the sum of n basis functions times control points
  unfoldable pub Series : F → ℕ → ℕ → (ℕ → F) → (ℕ → F) → F
  Series x zero d u P = 𝟘
  Series x (suc n) d u P = Basis x d u ⊗ P 0 ⊕ Series x n d (tail u) (tail P)

  pub drop_rises : (n : ℕ) (u : ℕ → F) → Rises u → Rises (drop n u)
  drop_rises zero u m = m
  drop_rises (suc n) u m = drop_rises n (tail u) (λ i. m (suc i))

  pub rises_le : (u : ℕ → F) → Rises u → (i j : ℕ) → i ≤ j → u i ≼ u j
  rises_le u m zero zero h = le_refl (u 0)
  rises_le u m zero (suc j) h = le_trans _ _ _ (rises_le u m zero j (omega arith)) (m j)
  rises_le u m (suc i) zero h = absurd (omega arith)
  rises_le u m (suc i) (suc j) h = rises_le (tail u) (λ k. m (suc k)) i j (omega arith)

  -- sums in which a factor is 0 or 1
  pub zeros : (a b c e : F) → a ≡ 𝟘 → b ≡ 𝟘 → c ⊗ a ⊕ e ⊗ b ≡ 𝟘
  zeros a b c e h k = ring_by (ring_of K) (a ∷ b ∷ c ∷ e ∷ []) (ν 2 ∗ ν 0 ∔ ν 3 ∗ ν 1) k0 (fact (ν 2) (ν 0) k0 h ∷ fact (ν 3) (ν 1) k0 k ∷ []) refl

  pub one_then : (a p b : F) → a ≡ 𝟙 → b ≡ 𝟘 → a ⊗ p ⊕ b ≡ p
  one_then a p b h k = ring_by (ring_of K) (a ∷ p ∷ b ∷ []) (ν 0 ∗ ν 1 ∔ ν 2) (ν 1) (fact (ν 1) (ν 0) k1 h ∷ fact k1 (ν 2) k0 k ∷ []) refl

  pub zero_then : (a p b : F) → a ≡ 𝟘 → a ⊗ p ⊕ b ≡ b
  zero_then a p b h = ring_by (ring_of K) (a ∷ p ∷ b ∷ []) (ν 0 ∗ ν 1 ∔ ν 2) (ν 2) (fact (ν 1) (ν 0) k0 h ∷ []) refl

  pub indicator_low : (x a c : F) → ¬ (a ≼ x) → indicator x a c ≡ 𝟘
  indicator_low x a c h = go (le? a x) (le? c x) h
    where
      go : {A B : Type 0} (p : Dec A) (q : Dec B) → ¬ A → indicator' p q ≡ 𝟘
      go (no _) q h = refl
      go (yes y) q h = absurd (h y)

  pub indicator_high : (x a c : F) → c ≼ x → indicator x a c ≡ 𝟘
  indicator_high x a c h = go (le? a x) (le? c x) h
    where
      go : {A B : Type 0} (p : Dec A) (q : Dec B) → B → indicator' p q ≡ 𝟘
      go (no _) q h = refl
      go (yes y) (yes z) h = refl
      go (yes y) (no z) h = absurd (z h)

  pub indicator_in : (x a c : F) → a ≼ x → ¬ (c ≼ x) → indicator x a c ≡ 𝟙
  indicator_in x a c h k = go (le? a x) (le? c x) h k
    where
      go : {A B : Type 0} (p : Dec A) (q : Dec B) → A → ¬ B → indicator' p q ≡ 𝟙
      go (no y) q h k = absurd (y h)
      go (yes y) (yes z) h k = absurd (k z)
      go (yes y) (no z) h k = refl

  -- a basis function is 0 before its first knot,
  pub basis_before : (x : F) (d : ℕ) (u : ℕ → F) → Rises u → ¬ (u 0 ≼ x) → Basis x d u ≡ 𝟘
  unfolding Basis
  basis_before x zero u m h = indicator_low x (u 0) (u 1) h
  basis_before x (suc d) u m h = zeros _ _ _ _ (basis_before x d u m h) (basis_before x d (tail u) (λ i. m (suc i)) (λ k. h (le_trans (u 0) (u 1) x (m 0) k)))

  -- from its last knot on,
  pub basis_after : (x : F) (d : ℕ) (u : ℕ → F) → Rises u → u (suc d) ≼ x → Basis x d u ≡ 𝟘
  unfolding Basis
  basis_after x zero u m h = indicator_high x (u 0) (u 1) h
  basis_after x (suc d) u m h = zeros _ _ _ _ (basis_after x d u m (le_trans _ _ x (m (suc d)) h)) (basis_after x d (tail u) (λ i. m (suc i)) h)

  -- and everywhere where its knots are all the same
  pub basis_flat : (x : F) (d : ℕ) (u : ℕ → F) → Rises u → u (suc d) ≼ u 0 → Basis x d u ≡ 𝟘
  basis_flat x d u m h = go (le? (u 0) x)
    where
      go : Dec (u 0 ≼ x) → Basis x d u ≡ 𝟘
      go (yes k) = basis_after x d u m (le_trans _ _ x h k)
      go (no k) = basis_before x d u m k

  pub series_before : (x : F) (n d : ℕ) (u P : ℕ → F) → Rises u → ¬ (u 0 ≼ x) → Series x n d u P ≡ 𝟘
  unfolding Series
  series_before x zero d u P m h = refl
  series_before x (suc n) d u P m h = zero_then _ _ _ (basis_before x d u m h) ∙ series_before x n d (tail u) (tail P) (λ i. m (suc i)) (λ k. h (le_trans (u 0) (u 1) x (m 0) k))

  -- the sum is linear in the control points
  pub series_linear : (x a b : F) (n d : ℕ) (u P Q : ℕ → F) → Series x n d u (λ i. a ⊗ P i ⊕ b ⊗ Q i) ≡ a ⊗ Series x n d u P ⊕ b ⊗ Series x n d u Q
  unfolding Series
  series_linear x a b zero d u P Q = ring (ring_of K) (a ∷ b ∷ []) k0 (ν 0 ∗ k0 ∔ ν 1 ∗ k0) refl
  series_linear x a b (suc n) d u P Q =
      ap (λ y. Basis x d u ⊗ (a ⊗ P 0 ⊕ b ⊗ Q 0) ⊕ y) (series_linear x a b n d (tail u) (tail P) (tail Q))
      ∙ ring (ring_of K) (Basis x d u ∷ a ∷ b ∷ P 0 ∷ Q 0 ∷ Series x n d (tail u) (tail P) ∷ Series x n d (tail u) (tail Q) ∷ [])
      (ν 0 ∗ (ν 1 ∗ ν 3 ∔ ν 2 ∗ ν 4) ∔ (ν 1 ∗ ν 5 ∔ ν 2 ∗ ν 6)) (ν 1 ∗ (ν 0 ∗ ν 3 ∔ ν 5) ∔ ν 2 ∗ (ν 0 ∗ ν 4 ∔ ν 6)) refl
