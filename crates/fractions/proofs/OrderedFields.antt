-- The order of an ordered field: differences, closeness, and what convex combinations keep.
use mathlib.Core.Path.{◌≡◌, refl, subst}
use mathlib.Core.List.{[], ◌∷◌}
use Prim.Native.Nat.{ℕ, zero, suc}
use Rattle.fractions.proofs.Rings.{OrderedField, ring_of}
use Rattle.fractions.proofs.Solver.{ν, k0, k1, ◌∔◌, ◌∗◌, −◌, ◌∸◌, ring, ring_by, fact}

module _ (K : OrderedField) where
  open K use {F, 𝟘, 𝟙, ◌⊕◌, ◌⊗◌, neg, inv, ◌≼◌, le_total, le_refl, le_trans, add_mono, mul_nonneg, inv_nonneg, mul_inv, add_neg, one_above}

  infixl 60 ◌⊖◌
  abbrev pub ◌⊖◌ : F → F → F
  a ⊖ b = a ⊕ neg b

  pub sub_nonneg : (a b : F) → a ≼ b → 𝟘 ≼ b ⊖ a
  sub_nonneg a b h = subst (λ y. y ≼ b ⊖ a) (add_neg a) (add_mono a b (neg a) h)

  pub nonneg_sub : (a b : F) → 𝟘 ≼ b ⊖ a → a ≼ b
  nonneg_sub a b h =
      subst (λ y. y ≼ b) (ring (ring_of K) (a ∷ []) (k0 ∔ ν 0) (ν 0) refl)
      (subst (λ y. 𝟘 ⊕ a ≼ y) (ring (ring_of K) (a ∷ b ∷ []) (ν 1 ∸ ν 0 ∔ ν 0) (ν 1) refl) (add_mono 𝟘 (b ⊖ a) a h))

  pub add_nonneg : (a b : F) → 𝟘 ≼ a → 𝟘 ≼ b → 𝟘 ≼ a ⊕ b
  add_nonneg a b h k = le_trans _ _ _ k (subst (λ y. y ≼ a ⊕ b) (ring (ring_of K) (b ∷ []) (k0 ∔ ν 0) (ν 0) refl) (add_mono 𝟘 a b h))

  -- a number taken to the other side
  pub le_less : (a b e : F) → a ≼ b ⊕ e → a ⊖ b ≼ e
  le_less a b e h = subst (λ y. a ⊖ b ≼ y) (ring (ring_of K) (b ∷ e ∷ []) (ν 0 ∔ ν 1 ∸ ν 0) (ν 1) refl) (add_mono _ _ (neg b) h)

  pub le_more : (a b e : F) → a ⊖ b ≼ e → a ≼ b ⊕ e
  le_more a b e h =
      subst (λ y. y ≼ b ⊕ e) (ring (ring_of K) (a ∷ b ∷ []) (ν 0 ∸ ν 1 ∔ ν 1) (ν 0) refl)
      (subst (λ y. a ⊖ b ⊕ b ≼ y) (ring (ring_of K) (b ∷ e ∷ []) (ν 1 ∔ ν 0) (ν 0 ∔ ν 1) refl) (add_mono _ _ b h))

  pub one_nonneg : 𝟘 ≼ 𝟙
  one_nonneg = le_total _ _ one_above

  -- a number over the length of a span
  pub quotient_nonneg : (a b c : F) → 𝟘 ≼ a → b ≼ c → 𝟘 ≼ a ⊗ inv (c ⊖ b)
  quotient_nonneg a b c h k = mul_nonneg _ _ h (inv_nonneg _ (sub_nonneg b c k))

  -- a span of some length has an inverse length
  pub span_inverse : (a c : F) → ¬ (c ≼ a) → (c ⊖ a) ⊗ inv (c ⊖ a) ≡ 𝟙
  span_inverse a c h = mul_inv (c ⊖ a) (λ e. h (subst (λ y. y ≼ a) (same e) (le_refl a)))
    where
      same : c ⊖ a ≡ 𝟘 → a ≡ c
      same e = ring_by (ring_of K) (a ∷ c ∷ []) (ν 0) (ν 1) (fact (− k1) (ν 1 ∸ ν 0) k0 e ∷ []) refl

  -- at most e apart
  abbrev pub Near : F → F → F → Type 0
  Near e p q = (p ≼ q ⊕ e) × (q ≼ p ⊕ e)

  pub near_refl : (a : F) → Near 𝟘 a a
  near_refl a = (same, same)
    where
      same : a ≼ a ⊕ 𝟘
      same = subst (λ y. a ≼ y) (ring (ring_of K) (a ∷ []) (ν 0) (ν 0 ∔ k0) refl) (le_refl a)

  le_add : (a b c e f : F) → a ≼ b ⊕ e → b ≼ c ⊕ f → a ≼ c ⊕ (e ⊕ f)
  le_add a b c e f h k =
      le_trans _ _ _ h (subst (λ y. b ⊕ e ≼ y) (ring (ring_of K) (c ∷ f ∷ e ∷ []) (ν 0 ∔ ν 1 ∔ ν 2) (ν 0 ∔ (ν 2 ∔ ν 1)) refl) (add_mono _ _ e k))

  pub near_trans : (a b c e f : F) → Near e a b → Near f b c → Near (e ⊕ f) a c
  near_trans a b c e f h k =
      (le_add a b c e f h.0 k.0, subst (λ y. c ≼ a ⊕ y) (ring (ring_of K) (f ∷ e ∷ []) (ν 0 ∔ ν 1) (ν 1 ∔ ν 0) refl) (le_add c b a f e k.1 h.1))

  -- A relation is kept where it passes from two pairs to their convex combinations.
  abbrev pub Kept : (F → F → Type 0) → Type 0
  Kept R = (a b p p' q q' : F) → 𝟘 ≼ a → 𝟘 ≼ b → a ⊕ b ≡ 𝟙 → R p p' → R q q' → R (a ⊗ p ⊕ b ⊗ q) (a ⊗ p' ⊕ b ⊗ q')

  pub at_most_above_kept : (e : F) → Kept (λ p q. p ≼ q ⊕ e)
  at_most_above_kept e a b p p' q q' ha hb h k l =
      nonneg_sub _ _ (subst (λ y. 𝟘 ≼ y) same (add_nonneg _ _ (mul_nonneg _ _ ha (sub_nonneg _ _ k)) (mul_nonneg _ _ hb (sub_nonneg _ _ l))))
    where
      same : a ⊗ (p' ⊕ e ⊖ p) ⊕ b ⊗ (q' ⊕ e ⊖ q) ≡ (a ⊗ p' ⊕ b ⊗ q' ⊕ e) ⊖ (a ⊗ p ⊕ b ⊗ q)
      same =
          ring_by (ring_of K) (a ∷ b ∷ p ∷ p' ∷ q ∷ q' ∷ e ∷ []) (ν 0 ∗ (ν 3 ∔ ν 6 ∸ ν 2) ∔ ν 1 ∗ (ν 5 ∔ ν 6 ∸ ν 4))
          ((ν 0 ∗ ν 3 ∔ ν 1 ∗ ν 5 ∔ ν 6) ∸ (ν 0 ∗ ν 2 ∔ ν 1 ∗ ν 4)) (fact (ν 6) (ν 0 ∔ ν 1) k1 h ∷ []) refl

  pub near_kept : (e : F) → Kept (Near e)
  near_kept e a b p p' q q' ha hb h k l =
      (at_most_above_kept e a b p p' q q' ha hb h k.0 l.0, at_most_above_kept e a b p' p q' q ha hb h k.1 l.1)

  pub below_kept : (top : F) → Kept (λ p _. p ≼ top)
  below_kept top a b p p' q q' ha hb h k l =
      nonneg_sub _ _ (subst (λ y. 𝟘 ≼ y) same (add_nonneg _ _ (mul_nonneg _ _ ha (sub_nonneg _ _ k)) (mul_nonneg _ _ hb (sub_nonneg _ _ l))))
    where
      same : a ⊗ (top ⊖ p) ⊕ b ⊗ (top ⊖ q) ≡ top ⊖ (a ⊗ p ⊕ b ⊗ q)
      same =
          ring_by (ring_of K) (a ∷ b ∷ p ∷ q ∷ top ∷ []) (ν 0 ∗ (ν 4 ∸ ν 2) ∔ ν 1 ∗ (ν 4 ∸ ν 3)) (ν 4 ∸ (ν 0 ∗ ν 2 ∔ ν 1 ∗ ν 3))
          (fact (ν 4) (ν 0 ∔ ν 1) k1 h ∷ []) refl

  pub above_kept : (bottom : F) → Kept (λ p _. bottom ≼ p)
  above_kept bottom a b p p' q q' ha hb h k l =
      nonneg_sub _ _ (subst (λ y. 𝟘 ≼ y) same (add_nonneg _ _ (mul_nonneg _ _ ha (sub_nonneg _ _ k)) (mul_nonneg _ _ hb (sub_nonneg _ _ l))))
    where
      same : a ⊗ (p ⊖ bottom) ⊕ b ⊗ (q ⊖ bottom) ≡ (a ⊗ p ⊕ b ⊗ q) ⊖ bottom
      same =
          ring_by (ring_of K) (a ∷ b ∷ p ∷ q ∷ bottom ∷ []) (ν 0 ∗ (ν 2 ∸ ν 4) ∔ ν 1 ∗ (ν 3 ∸ ν 4)) ((ν 0 ∗ ν 2 ∔ ν 1 ∗ ν 3) ∸ ν 4)
          (fact (− ν 4) (ν 0 ∔ ν 1) k1 h ∷ []) refl

  pub one_kept : Kept (λ p _. p ≡ 𝟙)
  one_kept a b p p' q q' ha hb h k l =
      ring_by (ring_of K) (a ∷ b ∷ p ∷ q ∷ []) (ν 0 ∗ ν 2 ∔ ν 1 ∗ ν 3) k1 (fact (ν 0) (ν 2) k1 k ∷ fact (ν 1) (ν 3) k1 l ∷ fact k1 (ν 0 ∔ ν 1) k1 h ∷ []) refl

  -- whole numbers from 0 up
  unfoldable pub natural : ℕ → F
  natural zero = 𝟘
  natural (suc n) = natural n ⊕ 𝟙

  pub natural_nonneg : (n : ℕ) → 𝟘 ≼ natural n
  unfolding natural
  natural_nonneg zero = le_refl 𝟘
  natural_nonneg (suc n) = add_nonneg _ _ (natural_nonneg n) one_nonneg

  pub natural_above : (n : ℕ) → ¬ (natural (suc n) ≡ 𝟘)
  unfolding natural
  natural_above n e =
      one_above (subst (λ y. 𝟙 ≼ y) e (subst (λ y. y ≼ natural n ⊕ 𝟙) (ring (ring_of K) [] (k0 ∔ k1) k1 refl) (add_mono _ _ 𝟙 (natural_nonneg n))))

  -- f 0 + f 1 + .. + f (n - 1)
  unfoldable pub sum : ℕ → (ℕ → F) → F
  sum zero f = 𝟘
  sum (suc n) f = sum n f ⊕ f n
