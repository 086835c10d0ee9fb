-- The laws of bands: every record tells one, and blends and flips of bands are bands.
use Rattle.std.specs.Prelude.{◌≡◌, ℕ, true, List, [], ◌∷◌, ℤ, pos, neg_ℤ, int_le, slice_index_or}
use Rattle.std.proofs.Common.{subst}
use Rattle.std.specs.Int.{int_min, int_max}
use Rattle.grid.specs.Blend.{IsRatio}
use Rattle.grid.proofs.Blends as blends
use Rattle.grid.proofs.Orders.{at_most, from_test, least_greatest, opposites}
use Rattle.points.specs.Lists.{IsPoint, blend_point, negated, flipped}
use Rattle.points.proofs.Shapes.{rebuilt}
use Rattle.kinds.specs.Bands.{rising}

pub rises : (x y : ℤ) → int_le (int_min x y) (int_max x y) ≡ true
rises x y = at_most _ _ (least_greatest x y)

-- a blend of two bands is a band: it never falls as its two rise
pub rising_blend : (a b : ℕ) (xs ys : List ℤ) → IsRatio a b → IsPoint 2 rising xs → IsPoint 2 rising ys → rising (blend_point a b xs ys) ≡ true
rising_blend a b xs ys r p q =
    subst (λ v. rising (blend_point a b v ys) ≡ true) (rebuilt 2 xs p.long)
    (subst (λ v. rising (blend_point a b (slice_index_or xs 0 (pos 0) ∷ (slice_index_or xs 1 (pos 0) ∷ [])) v) ≡ true) (rebuilt 2 ys q.long)
    (at_most _ _ (blends.rises _ _ _ _ a b r (from_test _ _ p.passed) (from_test _ _ q.passed))))

-- and so is a flipped one
pub rising_flip : (xs : List ℤ) → IsPoint 2 rising xs → rising (flipped (negated 1 ∷ (negated 0 ∷ [])) xs) ≡ true
rising_flip xs p =
    let x = slice_index_or xs 0 (pos 0) in
    let y = slice_index_or xs 1 (pos 0) in
    at_most (neg_ℤ y) (neg_ℤ x) (opposites x y (from_test x y p.passed))
