-- The box of points holds each of them, and has one at either end.
use Rattle.std.proofs.Common.{◌≡◌, ℕ, zero, suc, ◌<◌, ◌≤◌, ◌⊎◌, List, [], ◌∷◌, length, get_or, ℤ, ◌≤ℤ◌, sym, refl, ◌∙◌, inl, inr, ⊎_elim, arith}
use borrow.Author.Differences.{ints}
use lib.Signed.{lt_z}
use Rattle.std.specs.Int.{int_min, int_max}
use Rattle.std.proofs.lemmas.Int.{clamps}
use Rattle.std.proofs.lemmas.Bool.{cases_cond}
use Rattle.points.specs.Boxes.{coordinate_of, picked, least, greatest, BoxFitsItsPoints}

module _ (pick : ℤ → ℤ → ℤ) (c : ℕ) where
  -- what is picked is related to every point, where each pick is related to its two
  module _ (R : ℤ → ℤ → Type 0) (same : (x : ℤ) → R x x) (trans : (x y z : ℤ) → R x y → R y z → R x z) (left : (x y : ℤ) → R (pick x y) x)
      (right : (x y : ℤ) → R (pick x y) y) where
    related : (ps : List (List ℤ)) (i : ℕ) → i < length ps → R (picked pick c ps) (coordinate_of c (get_or ps i []))
    related [] i h = absurd (omega arith)
    related (p ∷ []) zero h = same _
    related (p ∷ []) (suc i) h = absurd (omega arith)
    related (p ∷ (q ∷ ps)) zero h = left _ _
    related (p ∷ (q ∷ ps)) (suc i) h = trans _ _ _ (right (coordinate_of c p) (picked pick c (q ∷ ps))) (related (q ∷ ps) i (omega arith))

  -- and it is that of some point, where each pick is one of its two
  attained : ((x y : ℤ) → (pick x y ≡ x) ⊎ (pick x y ≡ y)) → (ps : List (List ℤ)) → 1 ≤ length ps
      → (i : ℕ) × (i < length ps) × (coordinate_of c (get_or ps i []) ≡ picked pick c ps)
  attained either [] h = absurd (omega arith)
  attained either (p ∷ []) h = (0, omega arith, refl)
  attained either (p ∷ (q ∷ ps)) h = go (attained either (q ∷ ps) (omega arith)) (either (coordinate_of c p) (picked pick c (q ∷ ps)))
    where
      whole : List (List ℤ)
      whole = p ∷ (q ∷ ps)

      go : (i : ℕ) × (i < length (q ∷ ps)) × (coordinate_of c (get_or (q ∷ ps) i []) ≡ picked pick c (q ∷ ps))
          → (picked pick c whole ≡ coordinate_of c p) ⊎ (picked pick c whole ≡ picked pick c (q ∷ ps))
          → (i : ℕ) × (i < length whole) × (coordinate_of c (get_or whole i []) ≡ picked pick c whole)
      go s (inl e) = (0, omega arith, sym e)
      go s (inr e) = let l : s.0 < length (q ∷ ps) = s.1 in (suc s.0, omega arith, s.2 ∙ sym e)

pub not_below_least : (c : ℕ) (ps : List (List ℤ)) (i : ℕ) → i < length ps → least c ps ≤ℤ coordinate_of c (get_or ps i [])
not_below_least c =
    related int_min c (λ x y. x ≤ℤ y) (λ x. omega (arith, ints)) (λ x y z h k. omega (arith, ints)) (λ x y. omega (arith, ints, clamps)) (λ x y. omega (arith, ints, clamps))

pub not_above_greatest : (c : ℕ) (ps : List (List ℤ)) (i : ℕ) → i < length ps → coordinate_of c (get_or ps i []) ≤ℤ greatest c ps
not_above_greatest c =
    related int_max c (λ x y. y ≤ℤ x) (λ x. omega (arith, ints)) (λ x y z h k. omega (arith, ints)) (λ x y. omega (arith, ints, clamps)) (λ x y. omega (arith, ints, clamps))

pub box_fits_its_points : BoxFitsItsPoints
box_fits_its_points c ps some = record {
  holds = λ i h. (not_below_least c ps i h, not_above_greatest c ps i h);
  lowest = attained int_min c (λ x y. ⊎_elim inr inl (cases_cond (lt_z y x) y x _ refl)) ps some;
  highest = attained int_max c (λ x y. cases_cond (lt_z y x) x y _ refl) ps some;
}
