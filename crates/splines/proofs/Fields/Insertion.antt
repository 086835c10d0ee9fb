-- Insertion: a round of the triangle over the longer knot list is the insertion of a round over the old one; so it keeps the sum at
-- every parameter of the domain, by induction on the degree.
use Rattle.std.proofs.Common.{◌≡◌, ℕ, zero, suc, ◌<◌, ◌≤◌, [], ◌∷◌, sym, refl, ap, ◌∙◌, subst, ap₂, arith}
use Rattle.fractions.proofs.Rings.{OrderedField, ring_of}
use Rattle.fractions.proofs.Solver.{Expr, ν, k0, k1, ◌∔◌, ◌∗◌, −◌, ◌∸◌, ring, ring_by, fact}
use Rattle.fractions.proofs.OrderedFields.{span_inverse}
use Rattle.splines.proofs.Fields.Streams.{◌⊹◌, tail, drop, cons, plus_zero, plus_suc, plus_le}
use Rattle.splines.proofs.Fields.Basis.{Rises, blend, indicator, indicator', Basis, Series, basis_flat, rises_le}
use Rattle.splines.proofs.Fields.DeBoor.{Round, round_keeps}

module _ (K : OrderedField) where
  open K use {F, 𝟘, 𝟙, ◌⊕◌, ◌⊗◌, neg, inv, ◌≼◌, le?, le_total, le_trans, add_zero}

  infixl 60 ◌⊖◌
  abbrev ◌⊖◌ : F → F → F
  a ⊖ b = a ⊕ neg b

  -- the knot t put at index q + d
  unfoldable pub Knots : ℕ → ℕ → F → (ℕ → F) → ℕ → F
  Knots zero zero t u = cons t u
  Knots zero (suc d) t u = cons (u 0) (Knots zero d t (tail u))
  Knots (suc q) d t u = cons (u 0) (Knots q d t (tail u))

  -- c points blended at t, then the points as they are
  unfoldable pub Blends : ℕ → ℕ → F → (ℕ → F) → (ℕ → F) → ℕ → F
  Blends zero d t w P = P
  Blends (suc c) d t w P = cons (blend K t (w 0) (w d) (P 0) (P 1)) (Blends c d t (tail w) (tail P))

  -- t inserted behind the knot of index q + d: points 0 to q stay, d are blended, the rest move up by one
  unfoldable pub Points : ℕ → ℕ → F → (ℕ → F) → (ℕ → F) → ℕ → F
  Points zero d t u P = cons (P 0) (Blends d d t (tail u) P)
  Points (suc q) d t u P = cons (P 0) (Points q d t (tail u) (tail P))

  -- where x is blended after t was inserted: in the first span that t cuts,
  blend_at_left : (x t a c p q : F) → (t ⊖ a) ⊗ inv (t ⊖ a) ≡ 𝟙 → (c ⊖ a) ⊗ inv (c ⊖ a) ≡ 𝟙 → blend K x a t p (blend K t a c p q) ≡ blend K x a c p q
  blend_at_left x t a c p q f g = ring_by (ring_of K) (x ∷ t ∷ a ∷ c ∷ p ∷ q ∷ inv (t ⊖ a) ∷ inv (c ⊖ a) ∷ [])
      ((ν 1 ∸ ν 0) ∗ ν 6 ∗ ν 4 ∔ (ν 0 ∸ ν 2) ∗ ν 6 ∗ ((ν 3 ∸ ν 1) ∗ ν 7 ∗ ν 4 ∔ (ν 1 ∸ ν 2) ∗ ν 7 ∗ ν 5))
      ((ν 3 ∸ ν 0) ∗ ν 7 ∗ ν 4 ∔ (ν 0 ∸ ν 2) ∗ ν 7 ∗ ν 5)
      (fact ((ν 0 ∸ ν 2) ∗ ν 7 ∗ ν 5 ∔ (ν 3 ∸ ν 0) ∗ ν 7 ∗ ν 4) ((ν 1 ∸ ν 2) ∗ ν 6) k1 f
      ∷ fact (− ((ν 1 ∸ ν 0) ∗ ν 6 ∗ ν 4)) ((ν 3 ∸ ν 2) ∗ ν 7) k1 g ∷ []) refl

  -- in the last one,
  blend_at_right : (x t a c p q : F) → (c ⊖ t) ⊗ inv (c ⊖ t) ≡ 𝟙 → (c ⊖ a) ⊗ inv (c ⊖ a) ≡ 𝟙 → blend K x t c (blend K t a c p q) q ≡ blend K x a c p q
  blend_at_right x t a c p q f g = ring_by (ring_of K) (x ∷ t ∷ a ∷ c ∷ p ∷ q ∷ inv (c ⊖ t) ∷ inv (c ⊖ a) ∷ [])
      ((ν 3 ∸ ν 0) ∗ ν 6 ∗ ((ν 3 ∸ ν 1) ∗ ν 7 ∗ ν 4 ∔ (ν 1 ∸ ν 2) ∗ ν 7 ∗ ν 5) ∔ (ν 0 ∸ ν 1) ∗ ν 6 ∗ ν 5)
      ((ν 3 ∸ ν 0) ∗ ν 7 ∗ ν 4 ∔ (ν 0 ∸ ν 2) ∗ ν 7 ∗ ν 5)
      (fact ((ν 3 ∸ ν 0) ∗ ν 7 ∗ ν 4 ∔ (ν 0 ∸ ν 2) ∗ ν 7 ∗ ν 5) ((ν 3 ∸ ν 1) ∗ ν 6) k1 f
      ∷ fact (− ((ν 0 ∸ ν 1) ∗ ν 6 ∗ ν 5)) ((ν 3 ∸ ν 2) ∗ ν 7) k1 g ∷ []) refl

  -- and between them, where it does not matter which of x and t is blended first
  blend_across : (x t a b c e p q r : F) → (c ⊖ a) ⊗ inv (c ⊖ a) ≡ 𝟙 → (e ⊖ b) ⊗ inv (e ⊖ b) ≡ 𝟙
      → blend K x b c (blend K t a c p q) (blend K t b e q r) ≡ blend K t b c (blend K x a c p q) (blend K x b e q r)
  blend_across x t a b c e p q r f g = ring_by (ring_of K) (x ∷ t ∷ a ∷ b ∷ c ∷ e ∷ p ∷ q ∷ r ∷ inv (c ⊖ b) ∷ inv (c ⊖ a) ∷ inv (e ⊖ b) ∷ [])
      (side (ν 0) (ν 1)) (side (ν 1) (ν 0))
      (fact (ν 9 ∗ ν 7 ∗ (ν 1 ∸ ν 0)) ((ν 4 ∸ ν 2) ∗ ν 10) k1 f ∷ fact (− (ν 9 ∗ ν 7 ∗ (ν 1 ∸ ν 0))) ((ν 5 ∸ ν 3) ∗ ν 11) k1 g ∷ []) refl
    where
      side : Expr → Expr → Expr
      side x t = (ν 4 ∸ x) ∗ ν 9 ∗ ((ν 4 ∸ t) ∗ ν 10 ∗ ν 6 ∔ (t ∸ ν 2) ∗ ν 10 ∗ ν 7)
          ∔ (x ∸ ν 3) ∗ ν 9 ∗ ((ν 5 ∸ t) ∗ ν 11 ∗ ν 7 ∔ (t ∸ ν 3) ∗ ν 11 ∗ ν 8)

  -- points that count alike, since where they differ the basis function is 0
  abbrev Alike : F → ℕ → (ℕ → F) → (ℕ → F) → (ℕ → F) → Type 0
  Alike x d w P Q = (i : ℕ) → Basis K x d (drop i w) ⊗ P i ≡ Basis K x d (drop i w) ⊗ Q i

  series_cong : (x : F) (n d : ℕ) (w P Q : ℕ → F) → Alike x d w P Q → Series K x n d w P ≡ Series K x n d w Q
  unfolding Series
  series_cong x zero d w P Q h = refl
  series_cong x (suc n) d w P Q h = ap₂ ◌⊕◌ (h 0) (series_cong x n d (tail w) (tail P) (tail Q) (λ i. h (suc i)))

  -- to count alike it is enough to agree where the knots of the basis function are not all the same
  wide : (x : F) (d : ℕ) (w : ℕ → F) → Rises K w → (c : F) → w (suc d) ≡ c → (f : F → F) (q : F) → (¬ (c ≼ w 0) → f c ≡ q)
      → Basis K x d w ⊗ f (w (suc d)) ≡ Basis K x d w ⊗ q
  wide x d w m c e f q h = go (le? c (w 0))
    where
      go : Dec (c ≼ w 0) → Basis K x d w ⊗ f (w (suc d)) ≡ Basis K x d w ⊗ q
      go (no k) = ap (λ y. Basis K x d w ⊗ y) (ap f e ∙ h k)
      go (yes k) = ring_by (ring_of K) (Basis K x d w ∷ f (w (suc d)) ∷ q ∷ []) (ν 0 ∗ ν 1) (ν 0 ∗ ν 2)
          (fact (ν 1 ∸ ν 2) (ν 0) k0 (basis_flat K x d w m (subst (λ y. y ≼ w 0) (sym e) k)) ∷ []) refl

  -- the knots by index
  pub knots_below : (t : F) (q d i : ℕ) (u : ℕ → F) → i < q ⊹ d → Knots q d t u i ≡ u i
  unfolding Knots
  knots_below t zero zero i u h = absurd (omega arith)
  knots_below t zero (suc d) zero u h = refl
  knots_below t zero (suc d) (suc i) u h = knots_below t zero d i (tail u) (omega arith)
  knots_below t (suc q) d zero u h = refl
  knots_below t (suc q) d (suc i) u h = knots_below t q d i (tail u) (omega arith)

  pub knots_at : (t : F) (q d : ℕ) (u : ℕ → F) → Knots q d t u (q ⊹ d) ≡ t
  unfolding Knots
  knots_at t zero zero u = refl
  knots_at t zero (suc d) u = knots_at t zero d (tail u)
  knots_at t (suc q) d u = knots_at t q d (tail u)

  pub knots_above : (t : F) (q d i : ℕ) (u : ℕ → F) → q ⊹ d ≤ i → Knots q d t u (suc i) ≡ u i
  unfolding Knots
  knots_above t zero zero i u h = refl
  knots_above t zero (suc d) zero u h = absurd (omega arith)
  knots_above t zero (suc d) (suc i) u h = knots_above t zero d i (tail u) (omega arith)
  knots_above t (suc q) d zero u h = absurd (omega arith)
  knots_above t (suc q) d (suc i) u h = knots_above t q d i (tail u) (omega arith)

  knots_head : (t : F) (q d : ℕ) (u : ℕ → F) (a : F) → a ≼ t → a ≼ u 0 → a ≼ Knots q d t u 0
  unfolding Knots
  knots_head t zero zero u a h k = h
  knots_head t zero (suc d) u a h k = k
  knots_head t (suc q) d u a h k = k

  pub knots_rise : (t : F) (q d : ℕ) (u : ℕ → F) → Rises K u → ((i : ℕ) → i < q ⊹ d → u i ≼ t) → t ≼ u (q ⊹ d) → Rises K (Knots q d t u)
  unfolding Knots
  knots_rise t zero zero u m l h zero = h
  knots_rise t zero zero u m l h (suc i) = m i
  knots_rise t zero (suc d) u m l h zero = knots_head t zero d (tail u) (u 0) (l 0 (omega arith)) (m 0)
  knots_rise t zero (suc d) u m l h (suc i) = knots_rise t zero d (tail u) (λ j. m (suc j)) (λ j k. l (suc j) (omega arith)) h i
  knots_rise t (suc q) d u m l h zero = knots_head t q d (tail u) (u 0) (l 0 (omega arith)) (m 0)
  knots_rise t (suc q) d u m l h (suc i) = knots_rise t q d (tail u) (λ j. m (suc j)) (λ j k. l (suc j) (omega arith)) h i

  points_head : (t : F) (q d : ℕ) (u P : ℕ → F) → Points q d t u P 0 ≡ P 0
  unfolding Points
  points_head t zero d u P = refl
  points_head t (suc q) d u P = refl

  -- a round over the longer knots, of the points that t has blended
  middle : (x t : F) (c d : ℕ) (w P : ℕ → F) → c ≤ d → Rises K w → ((i : ℕ) → i ≤ c → w i ≼ t) → t ≼ w (suc c)
      → Alike x d (Knots 0 c t (tail w)) (Round K x d (Knots 0 c t (tail w)) (Blends (suc c) (suc d) t w P)) (Blends c d t (tail w) (Round K x d w P))
  unfolding Knots Blends
  middle x t zero d w P g m l h zero = wide x d (cons t (tail w)) (knots_rise t 0 0 (tail w) (λ j. m (suc j)) (λ i k. absurd (omega arith)) h)
      (w (suc d)) refl (λ y. blend K x t y (blend K t (w 0) (w (suc d)) (P 0) (P 1)) (P 1)) _
      (λ k. blend_at_right x t (w 0) (w (suc d)) (P 0) (P 1) (span_inverse K _ _ k) (span_inverse K _ _ (λ j. k (le_trans _ _ _ j (l 0 (omega arith))))))
  middle x t zero d w P g m l h (suc i) = refl
  middle x t (suc c) zero w P g m l h i = absurd (omega arith)
  middle x t (suc c) (suc d) w P g m l h zero = wide x (suc d) (Knots 0 (suc c) t (tail w))
      (knots_rise t 0 (suc c) (tail w) (λ j. m (suc j)) (λ i k. l (suc i) (omega arith)) h)
      (w (suc (suc d))) (knots_above t 0 c d (tail (tail w)) (omega arith))
      (λ y. blend K x (w 1) y (blend K t (w 0) (w (suc (suc d))) (P 0) (P 1)) (blend K t (w 1) (w (suc (suc (suc d)))) (P 1) (P 2))) _
      (λ k. blend_across x t (w 0) (w 1) (w (suc (suc d))) (w (suc (suc (suc d)))) (P 0) (P 1) (P 2)
      (span_inverse K _ _ (λ j. k (le_trans _ _ _ j (m 0)))) (span_inverse K _ _ (λ j. k (le_trans _ _ _ (m (suc (suc d))) j))))
  middle x t (suc c) (suc d) w P g m l h (suc i) = middle x t c (suc d) (tail w) (tail P) (omega arith) (λ j. m (suc j)) (λ j k. l (suc j) (omega arith)) h i

  -- a round after an insertion is an insertion after a round
  commute : (x t : F) (q d : ℕ) (u P : ℕ → F) → Rises K u → ((i : ℕ) → i < suc (q ⊹ suc d) → u i ≼ t) → t ≼ u (suc (q ⊹ suc d))
      → Alike x d (Knots q (suc d) t (tail u)) (Round K x d (Knots q (suc d) t (tail u)) (Points q (suc d) t u P)) (Points q d t (tail u) (Round K x d (tail u) P))
  unfolding Knots Points Blends
  commute x t zero d u P m l h zero = wide x d (Knots 0 (suc d) t (tail u)) (knots_rise t 0 (suc d) (tail u) (λ j. m (suc j)) (λ i k. l (suc i) (omega arith)) h)
      t (knots_at t 0 d (tail (tail u))) (λ y. blend K x (u 1) y (P 0) (blend K t (u 1) (u (suc (suc d))) (P 0) (P 1))) _
      (λ k. blend_at_left x t (u 1) (u (suc (suc d))) (P 0) (P 1) (span_inverse K _ _ k) (span_inverse K _ _ (λ j. k (le_trans _ _ _ h j))))
  commute x t zero d u P m l h (suc i) = middle x t d d (tail u) P (omega arith) (λ j. m (suc j)) (λ j k. l (suc j) (omega arith)) h i
  commute x t (suc q) d u P m l h zero = ap (λ y. Basis K x d (Knots (suc q) (suc d) t (tail u)) ⊗ y)
      (ap₂ (λ y z. blend K x (u 1) y (P 0) z) (knots_below t q (suc d) d (tail (tail u)) (omega (arith, plus_le q (suc d)))) (points_head t q (suc d) (tail u) (tail P)))
  commute x t (suc q) d u P m l h (suc i) = commute x t q d (tail u) (tail P) (λ j. m (suc j)) (λ j k. l (suc j) (omega arith)) h i

  knots_swap : (t : F) (q d : ℕ) (u : ℕ → F) → Knots q (suc d) t u ≡ Knots (suc q) d t u
  unfolding Knots
  knots_swap t zero d u = refl
  knots_swap t (suc q) d u = ap (cons (u 0)) (knots_swap t q d (tail u))

  indicator_split : (x a t c : F) → a ≼ t → t ≼ c → indicator K x a t ⊕ indicator K x t c ≡ indicator K x a c
  indicator_split x a t c h k = go (le? a x) (le? t x) (le? c x) (le_trans a t x h) (le_trans t c x k)
    where
      go : {A B C : Type 0} (p : Dec A) (q : Dec B) (r : Dec C) → (B → A) → (C → B) → indicator' K p q ⊕ indicator' K q r ≡ indicator' K p r
      go (no p) (no q) r f g = add_zero 𝟘
      go (no p) (yes q) r f g = absurd (p (f q))
      go (yes p) (no q) (no r) f g = add_zero 𝟙
      go (yes p) (no q) (yes r) f g = absurd (q (g r))
      go (yes p) (yes q) (no r) f g = ring (ring_of K) [] (k0 ∔ k1) k1 refl
      go (yes p) (yes q) (yes r) f g = add_zero 𝟘

  -- of degree 0 an insertion cuts one indicator in two
  insert_degree_0 : (x t : F) (q n : ℕ) (u P : ℕ → F) → Rises K u → u (q ⊹ 0) ≼ t → t ≼ u (suc (q ⊹ 0)) → q < n
      → Series K x (suc n) 0 (Knots (suc q) 0 t u) (Points q 0 t u P) ≡ Series K x n 0 u P
  unfolding Series Basis Knots Points Blends
  insert_degree_0 x t q zero u P m a b l = absurd (omega arith)
  insert_degree_0 x t zero (suc n) u P m a b l = ring_by (ring_of K) (indicator K x (u 0) t ∷ indicator K x t (u 1) ∷ indicator K x (u 0) (u 1) ∷ P 0 ∷ Series K x n 0 (tail u) (tail P) ∷ [])
      (ν 0 ∗ ν 3 ∔ (ν 1 ∗ ν 3 ∔ ν 4)) (ν 2 ∗ ν 3 ∔ ν 4) (fact (ν 3) (ν 0 ∔ ν 1) (ν 2) (indicator_split x (u 0) t (u 1) a b) ∷ []) refl
  insert_degree_0 x t (suc q) (suc n) u P m a b l = ap (λ y. indicator K x (u 0) (u 1) ⊗ P 0 ⊕ y) (insert_degree_0 x t q n (tail u) (tail P) (λ j. m (suc j)) a b (omega arith))

  -- insertion keeps the sum at every parameter of the domain
  pub insertion : (x t : F) (d q n : ℕ) (u P : ℕ → F) → Rises K u → u (q ⊹ d) ≼ t → ¬ (u (suc (q ⊹ d)) ≼ t) → q ⊹ d < n → u d ≼ x → ¬ (u n ≼ x)
      → Series K x (suc n) d (Knots (suc q) d t u) (Points q d t u P) ≡ Series K x n d u P
  unfolding Knots
  insertion x t zero q n u P m a b l g k = insert_degree_0 x t q n u P m a (le_total _ _ b) (rw (plus_zero q) at l)
  insertion x t (suc d) q zero u P m a b l g k = absurd (omega arith)
  insertion x t (suc d) q (suc n) u P m a b l g k =
      round_keeps K x (suc n) d (Knots (suc q) (suc d) t u) (Points q (suc d) t u P) (knots_rise t (suc q) (suc d) u m below t≼)
      (subst (λ y. y ≼ x) (sym (knots_below t (suc q) (suc d) (suc d) u (omega (arith, plus_le q (suc d))))) g)
      (λ y. k (subst (λ z. z ≼ x) (knots_above t (suc q) (suc d) (suc n) u l) y))
      ∙ series_cong x (suc n) d (Knots q (suc d) t (tail u)) _ _ (commute x t q d u P m below t≼)
      ∙ ap (λ y. Series K x (suc n) d y (Points q d t (tail u) (Round K x d (tail u) P))) (knots_swap t q d (tail u))
      ∙ insertion x t d q n (tail u) (Round K x d (tail u) P) (λ j. m (suc j)) (rw (plus_suc q d) at a) (rw (plus_suc q d) at b) (omega (arith, plus_suc q d)) g k
      ∙ sym (round_keeps K x n d u P m g k)
    where
      t≼ : t ≼ u (suc (q ⊹ suc d))
      t≼ = le_total _ _ b

      below : (i : ℕ) → i < suc (q ⊹ suc d) → u i ≼ t
      below i h = le_trans _ _ _ (rises_le K u m i (q ⊹ suc d) (omega arith)) a
