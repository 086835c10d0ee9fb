-- Fractions are an ordered field, since their quotient is.
use mathlib.Core.Path.{refl, sym, ◌∙◌, ap, ap₂, subst}
use lib.IntN.{pos, ◌+ℤ◌, ◌*ℤ◌}
use Rattle.fractions.specs.Fractions.{zero_f, one_f, ◌+F◌, ◌*F◌, neg_f, inv_f, whole, halves}
use Rattle.fractions.specs.Laws.{EqualityLaws, FieldLaws, OrderLaws, DistanceLaws, EmbeddingLaws, IsOrderedField}
use Rattle.fractions.proofs.Wholes.{of_add, of_mul, whole_le, le_whole, two_halves}
use Rattle.fractions.proofs.Bridge.{same, identified, le_to, lt_to, le_from, lt_from, near_from, near_to}
use Rattle.fractions.proofs.Quotient.{mk, ◌⊕◌, ◌⊗◌, neg, inv, ◌≼◌, add_assoc, add_comm, add_zero, add_neg, mul_assoc, mul_comm, mul_one, distrib, mul_inv, le_refl, le_trans, le_total, add_mono, mul_nonneg, one_above, le_antisym, inv_zero}

equality : EqualityLaws
equality = record {
  reflexive = λ x. same x x refl;
  symmetric = λ x y h. same y x (sym (identified x y h));
  transitive = λ x y z h k. same x z (identified x y h ∙ identified y z k);
  in_sums = λ x y v w h k. same (x +F v) (y +F w) (ap₂ ◌⊕◌ (identified x y h) (identified v w k));
  in_products = λ x y v w h k. same (x *F v) (y *F w) (ap₂ ◌⊗◌ (identified x y h) (identified v w k));
  in_negatives = λ x y h. same (neg_f x) (neg_f y) (ap neg (identified x y h));
  in_inverses = λ x y h. same (inv_f x) (inv_f y) (ap inv (identified x y h));
  in_order = λ x y v w h k l. le_from y w (subst (λ a. a ≼ mk w) (identified x y h) (subst (λ a. mk x ≼ a) (identified v w k) (le_to x v l)));
}

field : FieldLaws
field = record {
  sum_associates = λ x y z. same ((x +F y) +F z) (x +F (y +F z)) (add_assoc (mk x) (mk y) (mk z));
  sum_commutes = λ x y. same (x +F y) (y +F x) (add_comm (mk x) (mk y));
  sum_zero = λ x. same (x +F zero_f) x (add_zero (mk x));
  sum_negative = λ x. same (x +F neg_f x) zero_f (add_neg (mk x));
  product_associates = λ x y z. same ((x *F y) *F z) (x *F (y *F z)) (mul_assoc (mk x) (mk y) (mk z));
  product_commutes = λ x y. same (x *F y) (y *F x) (mul_comm (mk x) (mk y));
  product_one = λ x. same (x *F one_f) x (mul_one (mk x));
  distributes = λ x y z. same (x *F (y +F z)) (x *F y +F x *F z) (distrib (mk x) (mk y) (mk z));
  product_inverse = λ x h. same (x *F inv_f x) one_f (mul_inv (mk x) (λ e. h (same x zero_f e)));
  inverse_zero = λ x h. same (inv_f x) zero_f (ap inv (identified x zero_f h) ∙ inv_zero);
}

order : OrderLaws
order = record {
  reflexive = λ x. le_from x x (le_refl (mk x));
  antisymmetric = λ x y h k. same x y (le_antisym (mk x) (mk y) (le_to x y h) (le_to y x k));
  transitive = λ x y z h k. le_from x z (le_trans (mk x) (mk y) (mk z) (le_to x y h) (le_to y z k));
  total = λ x y h. le_from x y (le_total (mk y) (mk x) (lt_to x y h));
  zero_below_one = lt_from zero_f one_f one_above;
  in_sums = λ x y z h. le_from (x +F z) (y +F z) (add_mono (mk x) (mk y) (mk z) (le_to x y h));
  products_not_negative = λ x y h k. le_from zero_f (x *F y) (mul_nonneg (mk x) (mk y) (le_to zero_f x h) (le_to zero_f y k));
}

distances : DistanceLaws
distances = record {
  bounds = λ x y e h. let near = near_to x y e h in (le_from x (y +F e) near.0, le_from y (x +F e) near.1);
  bounded = λ x y e h k. near_from x y e (le_to x (y +F e) h, le_to y (x +F e) k);
}

wholes : EmbeddingLaws
wholes = record {
  of_sums = λ a b. same (whole (a +ℤ b)) (whole a +F whole b) (of_add a b);
  of_products = λ a b. same (whole (a *ℤ b)) (whole a *F whole b) (of_mul a b);
  of_order = whole_le;
  to_order = le_whole;
  of_halves = λ n. same (halves n +F halves n) (whole (pos n)) (two_halves n);
}

pub ordered_field : IsOrderedField
ordered_field = record { equality = equality; field = field; order = order; distances = distances; wholes = wholes }
