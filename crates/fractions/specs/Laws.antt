-- That fractions are an ordered field: the laws of equality, of sums and products, of the order and of the distance, with whole numbers among them.
use Rattle.std.specs.Prelude.{ℕ, ℤ, pos, ◌+ℤ◌, ◌*ℤ◌, ◌≤ℤ◌}
use Rattle.fractions.specs.Fractions.{Fraction, ◌≈◌, ◌≤F◌, ◌<F◌, zero_f, one_f, ◌+F◌, ◌*F◌, neg_f, inv_f, whole, halves, distance}

-- equal fractions can stand for one another
pub record EqualityLaws : Type 0 where
  pub reflexive : (x : Fraction) → x ≈ x
  pub symmetric : (x y : Fraction) → x ≈ y → y ≈ x
  pub transitive : (x y z : Fraction) → x ≈ y → y ≈ z → x ≈ z
  pub in_sums : (x y v w : Fraction) → x ≈ y → v ≈ w → (x +F v) ≈ (y +F w)
  pub in_products : (x y v w : Fraction) → x ≈ y → v ≈ w → (x *F v) ≈ (y *F w)
  pub in_negatives : (x y : Fraction) → x ≈ y → neg_f x ≈ neg_f y
  pub in_inverses : (x y : Fraction) → x ≈ y → inv_f x ≈ inv_f y
  pub in_order : (x y v w : Fraction) → x ≈ y → v ≈ w → x ≤F v → y ≤F w

pub record FieldLaws : Type 0 where
  pub sum_associates : (x y z : Fraction) → (x +F y) +F z ≈ x +F (y +F z)
  pub sum_commutes : (x y : Fraction) → x +F y ≈ y +F x
  pub sum_zero : (x : Fraction) → x +F zero_f ≈ x
  pub sum_negative : (x : Fraction) → x +F neg_f x ≈ zero_f
  pub product_associates : (x y z : Fraction) → (x *F y) *F z ≈ x *F (y *F z)
  pub product_commutes : (x y : Fraction) → x *F y ≈ y *F x
  pub product_one : (x : Fraction) → x *F one_f ≈ x
  pub distributes : (x y z : Fraction) → x *F (y +F z) ≈ x *F y +F x *F z
  pub product_inverse : (x : Fraction) → ¬ (x ≈ zero_f) → x *F inv_f x ≈ one_f
  pub inverse_zero : (x : Fraction) → x ≈ zero_f → inv_f x ≈ zero_f

pub record OrderLaws : Type 0 where
  pub reflexive : (x : Fraction) → x ≤F x
  pub antisymmetric : (x y : Fraction) → x ≤F y → y ≤F x → x ≈ y
  pub transitive : (x y z : Fraction) → x ≤F y → y ≤F z → x ≤F z
  -- of any two, one is at most the other: below means that the other is not at most it
  pub total : (x y : Fraction) → x <F y → x ≤F y
  pub zero_below_one : zero_f <F one_f
  pub in_sums : (x y z : Fraction) → x ≤F y → x +F z ≤F y +F z
  pub products_not_negative : (x y : Fraction) → zero_f ≤F x → zero_f ≤F y → zero_f ≤F x *F y

-- whole numbers are among them, with their sums, products and order
pub record EmbeddingLaws : Type 0 where
  pub of_sums : (a b : ℤ) → whole (a +ℤ b) ≈ whole a +F whole b
  pub of_products : (a b : ℤ) → whole (a *ℤ b) ≈ whole a *F whole b
  pub of_order : (a b : ℤ) → a ≤ℤ b → whole a ≤F whole b
  pub to_order : (a b : ℤ) → whole a ≤F whole b → a ≤ℤ b
  -- and two times n halves are n
  pub of_halves : (n : ℕ) → halves n +F halves n ≈ whole (pos n)

-- the distance is at most e exactly where neither passes the other by more than e
pub record DistanceLaws : Type 0 where
  pub bounds : (x y e : Fraction) → distance x y ≤F e → (x ≤F y +F e) × (y ≤F x +F e)
  pub bounded : (x y e : Fraction) → x ≤F y +F e → y ≤F x +F e → distance x y ≤F e

pub record IsOrderedField : Type 0 where
  pub equality : EqualityLaws
  pub field : FieldLaws
  pub order : OrderLaws
  pub distances : DistanceLaws
  pub wholes : EmbeddingLaws
