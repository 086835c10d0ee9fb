-- Degree raising in splines of fractions.
use Rattle.std.proofs.Common.{◌≡◌, ℕ, zero, suc, ◌+◌, ◌<◌, ◌≤◌, cond, leb, [], ◌∷◌, pos, sym, refl, ap, ◌∙◌, ap₂, arith}
use native.Mathlib.Decide.{dec_le}
use Rattle.fractions.specs.Fractions.{Fraction, whole, ◌≈◌, ◌≤F◌, ◌<F◌}
use Rattle.fractions.proofs.Solver.{ν, k0, k1, ◌∔◌, ◌∗◌, ◌∸◌, ring, ring_by, fact}
use Rattle.fractions.proofs.OrderedFields.{natural, natural_above}
use Rattle.fractions.proofs.Quotient.{Q, mk, quotient_ring, quotient_field, ◌⊕◌, ◌⊗◌, neg, inv, 𝟘, 𝟙, mul_inv}
use Rattle.fractions.proofs.Bridge.{same, identified, le_to, lt_to, same_sym, le_same, lt_same}
use Rattle.fractions.proofs.Wholes.{of, of_natural}
use Rattle.splines.specs.Splines.{Spline, value_at, blend_at, Domain}
use Rattle.splines.specs.Edits.{raised_knots, raised_points, raised}
use Rattle.splines.specs.Theorems.{SameCurve, WithoutInnerKnots, RaisingKeepsTheCurve}
use Rattle.splines.proofs.Fields.Basis.{blend, Series}
use Rattle.splines.proofs.Fields.Raising.{raised as Raised, raising}
use Rattle.splines.proofs.Transfer.{taken, value_to, blend_to}
use Rattle.splines.proofs.Insertion.{chosen, passed_over}

-- a knot list of two values
ends : ℕ → Q → Q → ℕ → Q
ends d a b i = cond (leb i d) a b

ends_low : (d : ℕ) (a b : Q) (i : ℕ) → i ≤ d → ends d a b i ≡ a
unfolding ends
ends_low d a b i h = chosen i d a b h

ends_high : (d : ℕ) (a b : Q) (i : ℕ) → d < i → ends d a b i ≡ b
unfolding ends
ends_high d a b i h = passed_over i d a b h

points_are : (d : ℕ) (P : ℕ → Fraction) (i : ℕ) → i < d + 2 → taken (raised_points d P) i ≡ Raised quotient_field d (taken P) i
unfolding raised_points Raised natural
points_are d P zero h = refl
points_are d P (suc i) h = go (dec_le (suc i) d)
  where
    n : Q
    n = natural quotient_field (suc i)

    c : Q
    c = natural quotient_field (suc d)

    unit : c ⊗ inv c ≡ 𝟙
    unit = mul_inv c (natural_above quotient_field d)

    less_zero : c ⊕ neg 𝟘 ≡ c
    less_zero = ring quotient_ring (c ∷ []) (ν 0 ∸ k0) (ν 0) refl

    mixed : Fraction
    mixed = blend_at (whole (pos 0)) (whole (pos (d + 1))) (whole (pos (suc i))) (P (suc i)) (P i)

    mixed_is : mk mixed ≡ blend quotient_field n 𝟘 c (taken P (suc i)) (taken P i)
    mixed_is =
        blend_to (whole (pos 0)) (whole (pos (d + 1))) (whole (pos (suc i))) (P (suc i)) (P i)
        ∙ ap (λ a. blend quotient_field (of (pos (suc i))) a (of (pos (d + 1))) (taken P (suc i)) (taken P i)) (of_natural 0)
        ∙ ap₂ (λ x b. blend quotient_field x 𝟘 b (taken P (suc i)) (taken P i)) (of_natural (suc i)) (ap (λ m. of (pos m)) (omega arith) ∙ of_natural (suc d))

    go : Dec (suc i ≤ d) → taken (raised_points d P) (suc i) ≡ Raised quotient_field d (taken P) (suc i)
    go (yes a) =
        ap mk (chosen (suc i) d mixed (P i) a) ∙ mixed_is
        ∙ ap (λ y. ((c ⊕ neg n) ⊗ y) ⊗ taken P (suc i) ⊕ ((n ⊕ neg 𝟘) ⊗ y) ⊗ taken P i) (ap inv less_zero)
        ∙ ring_by quotient_ring (c ∷ n ∷ inv c ∷ taken P (suc i) ∷ taken P i ∷ []) ((ν 0 ∸ ν 1) ∗ ν 2 ∗ ν 3 ∔ (ν 1 ∸ k0) ∗ ν 2 ∗ ν 4)
        ((k1 ∸ ν 1 ∗ ν 2) ∗ ν 3 ∔ ν 1 ∗ ν 2 ∗ ν 4) (fact (ν 3) (ν 0 ∗ ν 2) k1 unit ∷ []) refl
    go (no a) =
        let last : i ≡ d = omega arith in
        ap mk (passed_over (suc i) d mixed (P i) (omega arith))
        ∙ ring_by quotient_ring (c ∷ inv c ∷ taken P (suc i) ∷ taken P i ∷ []) (ν 3) ((k1 ∸ ν 0 ∗ ν 1) ∗ ν 2 ∔ ν 0 ∗ ν 1 ∗ ν 3) (fact (ν 2 ∸ ν 3) (ν 0 ∗ ν 1) k1 unit ∷ []) refl
        ∙ ap (λ j. (𝟙 ⊕ neg (natural quotient_field (suc j) ⊗ inv c)) ⊗ taken P (suc i) ⊕ (natural quotient_field (suc j) ⊗ inv c) ⊗ taken P i) (sym last)

module _ (s : Spline) (plain : WithoutInnerKnots s) where
  abbrev d : ℕ
  d = s.degree

  abbrev a : Q
  a = mk (s.knots 0)

  abbrev b : Q
  b = mk (s.knots (d + d + 1))

  knots_are : (i : ℕ) → i ≤ s.count + d → taken s.knots i ≡ ends d a b i
  knots_are i h = go (dec_le i d)
    where
      go : Dec (i ≤ d) → taken s.knots i ≡ ends d a b i
      go (yes l) = identified (s.knots i) (s.knots 0) (plain.first i l) ∙ sym (ends_low d a b i l)
      go (no l) = identified (s.knots i) (s.knots (d + d + 1)) (plain.last i (omega arith) (omega (arith, plain.points))) ∙ sym (ends_high d a b i (omega arith))

  raised_knots_are : (i : ℕ) → i ≤ s.count + 1 + (d + 1) → taken (raised_knots d s.knots) i ≡ ends (suc d) a b i
  unfolding raised_knots
  raised_knots_are zero h = sym (ends_low (suc d) a b 0 (omega arith))
  raised_knots_are (suc i) h = go (dec_le i d) (dec_le i (d + d + 1))
    where
      u : ℕ → Fraction
      u = s.knots

      go : Dec (i ≤ d) → Dec (i ≤ d + d + 1) → taken (raised_knots d u) (suc i) ≡ ends (suc d) a b (suc i)
      go (yes l) m =
          ap mk (chosen i (d + d + 1) (u i) (u (d + d + 1)) (omega arith)) ∙ identified (u i) (u 0) (plain.first i l) ∙ sym (ends_low (suc d) a b (suc i) (omega arith))
      go (no l) (yes m) =
          ap mk (chosen i (d + d + 1) (u i) (u (d + d + 1)) m) ∙ identified (u i) (u (d + d + 1)) (plain.last i (omega arith) m) ∙ sym (ends_high (suc d) a b (suc i) (omega arith))
      go (no l) (no m) = ap mk (passed_over i (d + d + 1) (u i) (u (d + d + 1)) (omega arith)) ∙ sym (ends_high (suc d) a b (suc i) (omega arith))

  value_kept : (x : Fraction) → s.knots 0 ≤F x → x <F s.knots (d + d + 1) → mk (value_at (raised s) x) ≡ mk (value_at s x)
  value_kept x low high =
      let count = plain.points in
      let more : s.count + 1 ≡ suc (suc d) = omega arith in
      let same_count : s.count ≡ suc d = omega arith in
      let up : d + 1 ≡ suc d = omega arith in
      value_to (raised s) x (ends (suc d) a b) (Raised quotient_field d (taken s.points)) raised_knots_are (λ i h. points_are d s.points i (omega arith))
      ∙ ap₂ (λ n e. Series quotient_field (mk x) n e (ends (suc d) a b) (Raised quotient_field d (taken s.points))) more up
      ∙ raising quotient_field (mk x) a b (le_to (s.knots 0) x low) (lt_to x (s.knots (d + d + 1)) high) d (ends d a b) (ends (suc d) a b) (taken s.points) (ends_low d a b) (ends_high d a b)
      (ends_low (suc d) a b) (ends_high (suc d) a b)
      ∙ ap (λ n. Series quotient_field (mk x) n d (ends d a b) (taken s.points)) (sym same_count) ∙ sym (value_to s x (ends d a b) (taken s.points) knots_are (λ i _. refl))

  -- the first and the last knot are the ends of both domains
  start_is : s.knots d ≈ s.knots 0
  start_is = plain.first d (omega arith)

  end_is : s.knots s.count ≈ s.knots (d + d + 1)
  end_is = let count = plain.points in plain.last s.count (omega arith) (omega arith)

  raised_start_is : raised_knots d s.knots (d + 1) ≈ s.knots 0
  raised_start_is = same (raised_knots d s.knots (d + 1)) (s.knots 0) (raised_knots_are (d + 1) (omega arith) ∙ ends_low (suc d) a b (d + 1) (omega arith))

  raised_end_is : raised_knots d s.knots (s.count + 1) ≈ s.knots (d + d + 1)
  raised_end_is =
      let count = plain.points in
      same (raised_knots d s.knots (s.count + 1)) (s.knots (d + d + 1)) (raised_knots_are (s.count + 1) (omega arith) ∙ ends_high (suc d) a b (s.count + 1) (omega arith))

  kept : SameCurve (raised s) s
  kept =
      let low : (x : Fraction) → Domain (raised s) x → s.knots 0 ≤F x = λ x h. le_same x (raised_knots d s.knots (d + 1)) (s.knots 0) raised_start_is h.start in
      let high : (x : Fraction) → Domain (raised s) x → x <F s.knots (d + d + 1) =
      λ x h. lt_same x (raised_knots d s.knots (s.count + 1)) (s.knots (d + d + 1)) raised_end_is h.end in
      record {
        into = λ x h. record {
          start = le_same x (s.knots 0) (s.knots d) (same_sym (s.knots d) (s.knots 0) start_is) (low x h);
          end = lt_same x (s.knots (d + d + 1)) (s.knots s.count) (same_sym (s.knots s.count) (s.knots (d + d + 1)) end_is) (high x h);
        };
        back = λ x h. record {
          start = le_same x (s.knots 0) (raised_knots d s.knots (d + 1)) (same_sym (raised_knots d s.knots (d + 1)) (s.knots 0) raised_start_is)
              (le_same x (s.knots d) (s.knots 0) start_is h.start);
          end = lt_same x (s.knots (d + d + 1)) (raised_knots d s.knots (s.count + 1)) (same_sym (raised_knots d s.knots (s.count + 1)) (s.knots (d + d + 1)) raised_end_is)
              (lt_same x (s.knots s.count) (s.knots (d + d + 1)) end_is h.end);
        };
        value = λ x h. same (value_at (raised s) x) (value_at s x) (value_kept x (low x h) (high x h));
      }

  -- its knots are again two values
  raised_plain : WithoutInnerKnots (raised s)
  raised_plain =
      let count = plain.points in
      record {
        points = omega arith;
        first = λ i h.
            same (raised_knots d s.knots i) (raised_knots d s.knots 0)
            (raised_knots_are i (omega arith) ∙ ends_low (suc d) a b i (omega arith) ∙ sym (ends_low (suc d) a b 0 (omega arith)) ∙ sym (raised_knots_are 0 (omega arith)));
        last = λ i h l.
            let top : ℕ = d + 1 + (d + 1) + 1 in
            same (raised_knots d s.knots i) (raised_knots d s.knots top)
            (raised_knots_are i (omega arith) ∙ ends_high (suc d) a b i (omega arith) ∙ sym (ends_high (suc d) a b top (omega arith)) ∙ sym (raised_knots_are top (omega arith)));
      }

pub raising_keeps_the_curve : RaisingKeepsTheCurve
raising_keeps_the_curve s plain = record { plain = raised_plain s plain; curve = kept s plain }
