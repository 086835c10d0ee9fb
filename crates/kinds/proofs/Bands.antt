-- Bands: two numbers told lesser first.
use Rattle.std.specs.Prelude.{◌≡◌, ℕ, [], ◌∷◌, ℤ, ◌≤ℤ◌}
use Rattle.std.proofs.Common.{arith}
use Rattle.std.specs.Int.{int_min, int_max}
use Rattle.std.proofs.lemmas.Int.{clamps, ints}
use Rattle.grid.specs.Blend.{IsRatio, blended}
use Rattle.grid.proofs.Blends as blends
use Rattle.grid.proofs.Orders.{least_greatest}

-- two numbers in order are told as they are
pub in_order : (x y : ℤ) → x ≤ℤ y → int_min x y ∷ (int_max x y ∷ []) ≡ x ∷ (y ∷ [])
in_order x y h =
    let a : int_min x y ≡ x = omega (arith, ints, clamps) in
    let b : int_max x y ≡ y = omega (arith, ints, clamps) in
    rw (a, b)

-- the blends of the lesser and of the greater ends come in order
pub blend_in_order : (l h l' h' : ℤ) (a b : ℕ) → IsRatio a b → blended (int_min l h) (int_min l' h') a b ≤ℤ blended (int_max l h) (int_max l' h') a b
blend_in_order l h l' h' a b r = blends.rises _ _ _ _ a b r (least_greatest l h) (least_greatest l' h')
