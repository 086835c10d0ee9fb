-- The exact spline in a span, and what follows on the whole domain: de Boor, full knots, bounds, closeness; and what holds at every parameter.
use Rattle.std.proofs.Common.{◌≡◌, ℕ, zero, suc, ◌+◌, ◌-◌, ◌<◌, ◌≤◌, sym, refl, ap, ◌∙◌, subst, ap₂, arith}
use native.Mathlib.Decide.{dec_lt}
use mathlib.Core.Path.{fun_ext}
use Rattle.fractions.specs.Fractions.{Fraction, zero_f, one_f, ◌+F◌, ◌*F◌, sum_f}
use Rattle.fractions.proofs.Quotient.{Q, mk, quotient_field, ◌⊕◌, ◌⊗◌, ◌≼◌, 𝟘, 𝟙, mul_one, le_trans}
use Rattle.fractions.proofs.Bridge.{same, identified, le_to, lt_to, le_from, lt_from, near_to, near_from, sum_to}
use Rattle.fractions.proofs.OrderedFields.{Near, Kept, near_kept, above_kept, below_kept, one_kept, sum}
use Rattle.splines.specs.Splines.{basis, Spline, value_at, triangle, Nondecreasing, Domain, Span}
use Rattle.splines.specs.Theorems.{with_points, with_knots, OnlyItsOwnKnotsAndPointsCount, SplineIsLinearInItsPoints, DomainIsMadeOfSpans, TriangleGivesTheSpline, FullKnotGivesItsPoint, BasisIsNotNegative, BasisSumsToOne, SplineLiesBetweenItsPoints, SplineLiesBetweenGoverningPoints, ClosePointsHaveCloseSplines}
use Rattle.splines.proofs.Fields.Streams.{◌⊹◌, drop, plus_is, plus_suc}
use Rattle.splines.proofs.Fields.Basis.{Rises, Basis, Series, series_linear, rises_le, drop_rises}
use Rattle.splines.proofs.Fields.DeBoor.{Triangle, triangle_is_series}
use Rattle.splines.proofs.Fields.Convexity.{blend_at_start, triangle_kept, find_span, basis_nonneg}
use Rattle.splines.proofs.Fields.Indices.{basis_ext, triangle_ext, triangle_is}
use Rattle.splines.proofs.Transfer.{taken, basis_to, value_to, blend_to, triangle_to, held, held_is, held_rises}

module _ (s : Spline) (rising : Nondecreasing s) where
  abbrev n : ℕ
  n = s.count

  abbrev d : ℕ
  d = s.degree

  abbrev u : ℕ → Fraction
  u = s.knots

  -- its value at x, with other control points
  abbrev at : (ℕ → Fraction) → Fraction → Fraction
  at P x = value_at (with_points s P) x

  abbrev knots : ℕ → Q
  knots = held s

  rises : Rises quotient_field knots
  rises = held_rises s rising

  module _ (k : ℕ) (x : Fraction) (span : Span s k x) where
    start : ℕ
    start = k - d

    up_to : start ⊹ d ≡ k
    unfolding start
    up_to = let h = span.deep in omega (arith, plus_is (k - d) d)

    low : knots (start ⊹ d) ≼ mk x
    low = let h = span.within in subst (λ y. y ≼ mk x) (held_is s k (omega arith) ∙ ap knots (sym up_to)) (le_to (u k) x span.low)

    high : ¬ (knots (suc (start ⊹ d)) ≼ mk x)
    high l =
        let h = span.within in
        let next : suc (start ⊹ d) ≡ k + 1 = omega (arith, up_to) in
        lt_to x (u (k + 1)) span.high (subst (λ y. y ≼ mk x) (ap knots next ∙ sym (held_is s (k + 1) (omega arith))) l)

    within : start ⊹ d < n
    within = let h = span.within in omega (arith, up_to)

    reads_triangle : (P : ℕ → Fraction) → mk (at P x) ≡ Triangle quotient_field (mk x) d (drop start knots) (drop start (taken P))
    reads_triangle P =
        value_to (with_points s P) x knots (taken P) (held_is s) (λ i _. refl) ∙ triangle_is_series quotient_field (mk x) start d n knots (taken P) rises within low high

    pub in_the_span : mk (value_at s x) ≡ mk (triangle s x d k)
    in_the_span =
        reads_triangle s.points
        ∙ triangle_ext quotient_field (mk x) d (drop start knots) (drop start (taken u)) (drop start (taken s.points)) (drop start (taken s.points))
        (λ i _ h. let w = within in sym (held_is s (start ⊹ i) (omega (arith, plus_is start i, plus_is start d)))) (λ i _. refl)
        ∙ triangle_is quotient_field (mk x) d (drop start (taken u)) (drop start (taken s.points))
        ∙ sym (triangle_to s start x d 0) ∙ ap (λ i. mk (triangle s x d i)) (omega (arith, up_to, plus_is start d))

    -- what convex combinations keep passes from the governing control points to the spline
    pub governed : (R : Q → Q → Type 0) → Kept quotient_field R → (P S : ℕ → Fraction) → ((i : ℕ) → k ≤ i + d → i ≤ k → R (mk (P i)) (mk (S i)))
        → R (mk (at P x)) (mk (at S x))
    governed R c P S h =
        subst (λ y. R y (mk (at S x))) (sym (reads_triangle P))
        (subst (λ y. R (Triangle quotient_field (mk x) d (drop start knots) (drop start (taken P))) y) (sym (reads_triangle S))
        (triangle_kept quotient_field R c (mk x) d (drop start knots) (drop start (taken P)) (drop start (taken S)) (drop_rises quotient_field start knots rises)
        low (λ y. high (subst (λ i. knots i ≼ mk x) (plus_suc start d) y))
        (λ i l. h (start ⊹ i) (omega (arith, up_to, plus_is start i, plus_is start d)) (omega (arith, up_to, plus_is start i, plus_is start d)))))

  -- what convex combinations keep holds on the whole domain, every parameter of which has a span
  module _ (x : Fraction) (domain : Domain s x) where
    at_start : knots d ≼ mk x
    at_start = subst (λ y. y ≼ mk x) (held_is s d (omega arith)) (le_to (u d) x domain.start)

    at_end : ¬ (knots n ≼ mk x)
    at_end l = lt_to x (u n) domain.end (subst (λ y. y ≼ mk x) (sym (held_is s n (omega arith))) l)

    pub enough : d < n
    enough = go (dec_lt d n)
      where
        go : Dec (d < n) → d < n
        go (yes h) = h
        go (no h) = absurd (at_end (le_trans (knots n) (knots d) (mk x) (rises_le quotient_field knots rises n d (omega arith)) at_start))

    pub spanned : (k : ℕ) × Span s k x
    spanned = go (find_span quotient_field (mk x) d (n - d) knots at_start (λ l. at_end (subst (λ j. knots j ≼ mk x) last l)))
      where
        last : (n - d) ⊹ d ≡ n
        last = let h = enough in omega (arith, plus_is (n - d) d)

        go : (j : ℕ) × (j < n - d) × (knots (j ⊹ d) ≼ mk x) × ¬ (knots (suc (j ⊹ d)) ≼ mk x) → (k : ℕ) × Span s k x
        go (j, l, after, before) =
            let k : ℕ = j ⊹ d in
            let here : k < n = omega (arith, plus_is j d) in (
              k,
              record {
                deep = omega (arith, plus_is j d);
                within = here;
                low = le_from (u k) x (subst (λ y. y ≼ mk x) (sym (held_is s k (omega arith))) after);
                high = lt_from x (u (k + 1)) (λ y. before (subst (λ z. z ≼ mk x) (held_is s (k + 1) (omega arith) ∙ ap knots (omega arith)) y));
              },
            )

    pub everywhere : (R : Q → Q → Type 0) → Kept quotient_field R → (P S : ℕ → Fraction) → ((i : ℕ) → i < n → R (mk (P i)) (mk (S i)))
        → R (mk (at P x)) (mk (at S x))
    everywhere R c P S h = governed spanned.0 x spanned.1 R c P S (λ i _ l. let w = spanned.1.within in h i (omega arith))

pub only_its_own_knots_and_points_count : OnlyItsOwnKnotsAndPointsCount
only_its_own_knots_and_points_count s u P x h k =
    same (value_at s x) (value_at (with_knots s u P) x) (value_to s x (taken u) (taken P) (λ i l. identified (s.knots i) (u i) (h i l)) (λ i l. identified (s.points i) (P i) (k i l))
    ∙ sym (value_to (with_knots s u P) x (taken u) (taken P) (λ i _. refl) (λ i _. refl)))

pub spline_is_linear_in_its_points : SplineIsLinearInItsPoints
spline_is_linear_in_its_points s a b P S x =
    same (value_at (with_points s (λ i. a *F P i +F b *F S i)) x) (a *F value_at (with_points s P) x +F b *F value_at (with_points s S) x)
    (of_polygon (λ i. a *F P i +F b *F S i)
    ∙ series_linear quotient_field (mk x) (mk a) (mk b) s.count s.degree (taken s.knots) (taken P) (taken S)
    ∙ ap₂ (λ y z. mk a ⊗ y ⊕ mk b ⊗ z) (sym (of_polygon P)) (sym (of_polygon S)))
  where
    of_polygon : (R : ℕ → Fraction) → mk (value_at (with_points s R) x) ≡ Series quotient_field (mk x) s.count s.degree (taken s.knots) (taken R)
    of_polygon R = value_to (with_points s R) x (taken s.knots) (taken R) (λ i _. refl) (λ i _. refl)

pub domain_is_made_of_spans : DomainIsMadeOfSpans
domain_is_made_of_spans s x ordered domain = spanned s ordered x domain

pub triangle_gives_the_spline : TriangleGivesTheSpline
triangle_gives_the_spline s k x rising span = same (value_at s x) (triangle s x s.degree k) (in_the_span s rising k x span)

pub full_knot_gives_its_point : FullKnotGivesItsPoint
unfolding triangle
full_knot_gives_its_point s k x ordered span full =
    same (value_at s x) (s.points (k - d)) (in_the_span s ordered k x span ∙ ap (λ i. mk (triangle s x d i)) last ∙ edge d (omega arith))
  where
    d : ℕ
    d = s.degree

    last : k ≡ k - d + d
    last = let deep = span.deep in omega arith

    -- the first entry of every round is the same point
    edge : (r : ℕ) → r ≤ d → mk (triangle s x r (k - d + r)) ≡ mk (s.points (k - d))
    edge zero h = ap (λ i. mk (s.points i)) (omega arith)
    edge (suc r) h =
        let deep = span.deep in
        let i : ℕ = k - d + suc r in
        let top : i + d + 1 - suc r ≡ k + 1 = omega arith in
        let before : i - 1 ≡ k - d + r = omega arith in
        blend_to (s.knots i) (s.knots (i + d + 1 - suc r)) x (triangle s x r (i - 1)) (triangle s x r i)
        ∙ blend_at_start quotient_field (mk x) (mk (s.knots i)) (mk (s.knots (i + d + 1 - suc r))) (mk (triangle s x r (i - 1))) (mk (triangle s x r i))
        (identified (s.knots i) x (full i (omega arith) (omega arith))) (λ l. lt_to x (s.knots (k + 1)) span.high (subst (λ j. mk (s.knots j) ≼ mk x) top l))
        ∙ ap (λ j. mk (triangle s x r j)) before ∙ edge r (omega arith)

pub basis_is_not_negative : BasisIsNotNegative
basis_is_not_negative s i x rising h =
    le_from zero_f (basis s.knots d i x) (subst (λ y. 𝟘 ≼ y) (sym is) (basis_nonneg quotient_field (mk x) d (drop i v) (drop_rises quotient_field i v (held_rises s rising))))
  where
    d : ℕ
    d = s.degree

    v : ℕ → Q
    v = held s

    is : mk (basis s.knots d i x) ≡ Basis quotient_field (mk x) d (drop i v)
    is =
        basis_to s.knots d i x
        ∙ basis_ext quotient_field (mk x) d (λ m. taken s.knots (i + m)) (drop i v) (λ m l. held_is s (i + m) (omega arith) ∙ ap v (omega (arith, plus_is i m)))

pub basis_sums_to_one : BasisSumsToOne
unfolding value_at
basis_sums_to_one s x rising domain =
    same (sum_f s.count function) one_f (sum_to s.count function ∙ ap (sum quotient_field s.count) (fun_ext (λ i. sym (mul_one (mk (function i)))))
    ∙ sym (sum_to s.count (λ i. function i *F one_f)) ∙ all_one)
  where
    function : ℕ → Fraction
    function i = basis s.knots s.degree i x

    all_one : mk (sum_f s.count (λ i. function i *F one_f)) ≡ 𝟙
    all_one = everywhere s rising x domain (λ p _. p ≡ 𝟙) (one_kept quotient_field) (λ _. one_f) (λ _. one_f) (λ i _. refl)

pub spline_lies_between_its_points : SplineLiesBetweenItsPoints
spline_lies_between_its_points s x low high rising domain h =
    let P : ℕ → Fraction = s.points in (
      le_from low (value_at s x) (everywhere s rising x domain (λ p _. mk low ≼ p) (above_kept quotient_field (mk low)) P P (λ i l. le_to low (P i) (h i l).0)),
      le_from (value_at s x) high (everywhere s rising x domain (λ p _. p ≼ mk high) (below_kept quotient_field (mk high)) P P (λ i l. le_to (P i) high (h i l).1)),
    )

pub spline_lies_between_governing_points : SplineLiesBetweenGoverningPoints
spline_lies_between_governing_points s k x low high rising span h =
    let P : ℕ → Fraction = s.points in (
      le_from low (value_at s x) (governed s rising k x span (λ p _. mk low ≼ p) (above_kept quotient_field (mk low)) P P (λ i a b. le_to low (P i) (h i a b).0)),
      le_from (value_at s x) high (governed s rising k x span (λ p _. p ≼ mk high) (below_kept quotient_field (mk high)) P P (λ i a b. le_to (P i) high (h i a b).1)),
    )

pub close_points_have_close_splines : ClosePointsHaveCloseSplines
close_points_have_close_splines s P x e rising domain h =
    near_from (value_at s x) (value_at (with_points s P) x) e
    (everywhere s rising x domain (Near quotient_field (mk e)) (near_kept quotient_field (mk e)) s.points P (λ i l. near_to (s.points i) (P i) e (h i l)))
