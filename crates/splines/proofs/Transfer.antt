-- Splines of fractions, as splines in the quotient of fractions. Only the first n + d + 1 knots and the first n control points
-- count, so knots that rise that far can be held at the last of them and then rise for ever.
use Rattle.std.proofs.Common.{◌≡◌, ℕ, zero, suc, ◌+◌, ◌-◌, ◌<◌, ◌≤◌, min, Bool, true, false, cond, not, ◌&&◌, sym, refl, ap, ◌∙◌, subst, ap₂, arith}
use native.Mathlib.Decide.{dec_lt}
use mathlib.Core.Path.{fun_ext}
use Rattle.fractions.specs.Fractions.{Fraction, at_most, zero_f, one_f, ◌*F◌}
use Rattle.fractions.proofs.Quotient.{Q, mk, quotient_field, ◌⊕◌, ◌⊗◌, ◌≼◌, le_refl}
use Rattle.fractions.proofs.Bridge.{le_to, lt_to, sum_to}
use Rattle.fractions.proofs.OrderedFields.{sum}
use Rattle.splines.specs.Splines.{basis, Spline, value_at, blend_at, triangle, Nondecreasing}
use Rattle.splines.proofs.Fields.Streams.{◌⊹◌, drop, plus_is}
use Rattle.splines.proofs.Fields.Basis.{Rises, up, down, blend, indicator, indicator_low, indicator_high, indicator_in, Basis, Series}
use Rattle.splines.proofs.Fields.Indices.{series_is, series_ext, Entry}

abbrev pub taken : (ℕ → Fraction) → ℕ → Q
taken u i = mk (u i)

indicator_to : (x a c : Fraction) → mk (cond (at_most a x && not (at_most c x)) one_f zero_f) ≡ indicator quotient_field (mk x) (mk a) (mk c)
indicator_to x a c = go (at_most a x) (at_most c x) refl refl
  where
    go : (b e : Bool) → at_most a x ≡ b → at_most c x ≡ e → mk (cond (b && not e) one_f zero_f) ≡ indicator quotient_field (mk x) (mk a) (mk c)
    go false e h k = sym (indicator_low quotient_field (mk x) (mk a) (mk c) (lt_to x a h))
    go true true h k = sym (indicator_high quotient_field (mk x) (mk a) (mk c) (le_to c x k))
    go true false h k = sym (indicator_in quotient_field (mk x) (mk a) (mk c) (le_to a x h) (lt_to x c k))

pub basis_to : (u : ℕ → Fraction) (d i : ℕ) (x : Fraction) → mk (basis u d i x) ≡ Basis quotient_field (mk x) d (λ m. taken u (i + m))
unfolding basis Basis
basis_to u zero i x = indicator_to x (u i) (u (i + 1)) ∙ ap (λ j. indicator quotient_field (mk x) (taken u j) (taken u (i + 1))) (omega arith)
basis_to u (suc d) i x =
    ap₂ (λ a e. sum_of (taken u a) (taken u e) (mk (basis u d i x)) (mk (basis u d (i + 1) x))) (omega arith) (omega arith)
    ∙ ap₂ (sum_of (taken u (i + 0)) (taken u (i + suc (suc d)))) (basis_to u d i x)
    (basis_to u d (i + 1) x ∙ ap (Basis quotient_field (mk x) d) (fun_ext (λ m. ap (taken u) (omega arith))))
  where
    sum_of : Q → Q → Q → Q → Q
    sum_of a e y z = up quotient_field (mk x) a (taken u (i + suc d)) ⊗ y ⊕ down quotient_field (mk x) (taken u (i + 1)) e ⊗ z

pub value_to : (s : Spline) (x : Fraction) (v R : ℕ → Q) → ((i : ℕ) → i ≤ s.count + s.degree → taken s.knots i ≡ v i)
    → ((i : ℕ) → i < s.count → taken s.points i ≡ R i) → mk (value_at s x) ≡ Series quotient_field (mk x) s.count s.degree v R
unfolding value_at
value_to s x v R h k =
    sum_to s.count (λ i. basis s.knots s.degree i x *F s.points i)
    ∙ ap (sum quotient_field s.count) (fun_ext (λ i. ap (λ y. y ⊗ taken s.points i) (basis_to s.knots s.degree i x)))
    ∙ series_is quotient_field (mk x) s.count s.degree (taken s.knots) (taken s.points)
    ∙ series_ext quotient_field (mk x) s.count s.degree (taken s.knots) v (taken s.points) R h k

pub blend_to : (a c x p q : Fraction) → mk (blend_at a c x p q) ≡ blend quotient_field (mk x) (mk a) (mk c) (mk p) (mk q)
unfolding blend_at
blend_to a c x p q = refl

-- entry j + r + m of round r is entry m of that round over what stands from j on
pub triangle_to : (s : Spline) (j : ℕ) (x : Fraction) (r m : ℕ)
    → mk (triangle s x r (j + r + m)) ≡ Entry quotient_field (mk x) s.degree (drop j (taken s.knots)) (drop j (taken s.points)) r m
unfolding triangle Entry
triangle_to s j x zero m = ap (taken s.points) (omega (arith, plus_is j m))
triangle_to s j x (suc r) m =
    let d : ℕ = s.degree in
    let u : ℕ → Fraction = s.knots in
    let i : ℕ = j + suc r + m in
    let low : i ≡ j ⊹ suc (r ⊹ m) = omega (arith, plus_is j (suc (r ⊹ m)), plus_is r m) in
    let high : i + d + 1 - suc r ≡ j ⊹ suc (m ⊹ d) = omega (arith, plus_is j (suc (m ⊹ d)), plus_is m d) in
    let before : i - 1 ≡ j + r + m = omega arith in
    let here : i ≡ j + r + suc m = omega arith in
    blend_to (u i) (u (i + d + 1 - suc r)) x (triangle s x r (i - 1)) (triangle s x r i)
    ∙ ap₂ (λ a b. blend quotient_field (mk x) (taken u a) (taken u b) (mk (triangle s x r (i - 1))) (mk (triangle s x r i))) low high
    ∙ ap₂ (blend quotient_field (mk x) (taken u (j ⊹ suc (r ⊹ m))) (taken u (j ⊹ suc (m ⊹ d)))) (ap (λ a. mk (triangle s x r a)) before ∙ triangle_to s j x r m)
    (ap (λ a. mk (triangle s x r a)) here ∙ triangle_to s j x r (suc m))

-- the knots of a spline, held at the last that counts
module _ (s : Spline) where
  pub held : ℕ → Q
  held i = taken s.knots (min i (s.count + s.degree))

  pub held_is : (i : ℕ) → i ≤ s.count + s.degree → taken s.knots i ≡ held i
  unfolding held
  held_is i h = ap (taken s.knots) (omega arith)

  pub held_rises : Nondecreasing s → Rises quotient_field held
  unfolding held
  held_rises rising i = go (dec_lt i (s.count + s.degree))
    where
      u : ℕ → Fraction
      u = s.knots

      go : Dec (i < s.count + s.degree) → held i ≼ held (suc i)
      go (yes l) = subst (λ j. taken u j ≼ held (suc i)) (omega arith) (subst (λ j. taken u i ≼ taken u j) (omega arith) (le_to (u i) (u (i + 1)) (rising i l)))
      go (no l) = subst (λ j. held i ≼ taken u j) (omega arith) (le_refl (held i))
