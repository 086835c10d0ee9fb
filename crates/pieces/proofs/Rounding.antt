-- How far rounding takes a reading: half a step for each inexact round, and never out of the box. All that is used of a blend are
-- its laws.
use Rattle.std.proofs.Common.{◌≡◌, ℕ, zero, suc, ◌+◌, ◌-◌, ◌*◌, ◌<◌, ◌≤◌, Bool, true, false, cond, List, [], map, length, get_or, ℤ, pos, ◌-ℤ◌, ◌*ℤ◌, nat_abs, ◌≤ℤ◌, sym, refl, ap, ◌∙◌, subst, arith}
use borrow.Author.Differences.{ints}
use Rattle.std.proofs.lemmas.Int.{clamps}
use Rattle.fractions.specs.Fractions.{◌/suc◌, ◌≤F◌, whole, distance, halves}
use Rattle.fractions.proofs.Quotient.{Q, mk, quotient_field, ◌⊕◌}
use Rattle.fractions.proofs.OrderedFields.{Near, near_refl, sum}
use Rattle.fractions.proofs.Bridge.{le_to, lt_to, near_from}
use Rattle.fractions.proofs.Wholes.{of, whole_le, whole_lt, rounded_near, rounded_exact, halves_add, halves_none}
use Rattle.splines.specs.Splines.{value_at, triangle}
use Rattle.splines.proofs.Fields.Basis.{blend}
use Rattle.splines.proofs.Transfer.{blend_to}
use Rattle.splines.proofs.Grid.{whole_blend}
use Rattle.splines.proofs.Fields.Convexity.{rounded_triangle}
use Rattle.splines.proofs.Spans.{in_the_span}
use Rattle.grid.specs.Blend.{IsRatio, weighted, blended, inexact, BlendLaw}
use Rattle.grid.specs.Search.{any_where}
use Rattle.grid.proofs.Blends.{lawful}
use Rattle.grid.proofs.Searches.{any_none}
use Rattle.points.specs.Boxes.{coordinate_of}
use Rattle.points.proofs.Boxing.{not_below_least, not_above_greatest}
use Rattle.points.proofs.Coordinates.{blend_coordinate, blend_length, exact_coordinate}
use Rattle.knots.specs.Lawful.{Lawful}
use Rattle.knots.specs.Spans.{Span}
use Rattle.pieces.specs.Curves.{curve, KeepsToCurve}
use Rattle.pieces.proofs.AsSplines.{at_most, lawful_pieces_are_splines}
use lib.ListN.{length-map}
use Rattle.pieces.specs.Triangle.{entry, inexact_entry, inexact_rounds, de_boor}
use Rattle.pieces.proofs.Rows.{told_widths}
use Rattle.pieces.proofs.Windows.{knot_low, knot_high}

-- one blend of coordinates beside the exact one: at most half a step apart, and not at all where it is exact
rounded_blend : (a x c : ℕ) (p q : ℤ) (rough : Bool) → a ≤ x → x < c → IsRatio (x - a) (c - a) → (rough ≡ false → inexact p q (x - a) (c - a) ≡ false)
    → Near quotient_field (mk (halves (cond rough 1 0))) (of (blended p q (x - a) (c - a))) (blend quotient_field (of (pos x)) (of (pos a)) (of (pos c)) (of p) (of q))
rounded_blend a x c p q rough h k ratio exactly =
    subst (Near quotient_field (mk (halves (cond rough 1 0))) (of z)) (sym (whole_blend a x c p q h k)) (go rough exactly)
  where
    z : ℤ
    z = blended p q (x - a) (c - a)

    law : BlendLaw p q (x - a) (c - a) (blended p q (x - a) (c - a)) (inexact p q (x - a) (c - a))
    law = lawful p q (x - a) (c - a) ratio

    length_is : c - a ≡ suc (c - a - 1)
    length_is = omega arith

    go : (rough : Bool) → (rough ≡ false → inexact p q (x - a) (c - a) ≡ false)
        → Near quotient_field (mk (halves (cond rough 1 0))) (of z) (mk (weighted p q (x - a) (c - a) /suc (c - a - 1)))
    go true f = rounded_near z (weighted p q (x - a) (c - a)) (c - a - 1) (subst (λ n. nat_abs (weighted p q (x - a) (c - a) -ℤ (pos n *ℤ z)) * 2 ≤ n) length_is law.near)
    go false f =
        subst (Near quotient_field (mk (halves 0)) (of z)) (rounded_exact z (weighted p q (x - a) (c - a)) (c - a - 1) (law.exact (f refl) ∙ ap (λ n. pos n *ℤ z) length_is))
        (subst (λ e. Near quotient_field e (of z) (of z)) (sym halves_none) (near_refl quotient_field (of z)))

module _ (d : ℕ) (ks : List ℕ) (ps : List (List ℤ)) (u k width : ℕ) (law : Lawful d (length ps) ks) (span : Span d (length ps) ks u k)
    (wide : (i : ℕ) → i < length ps → length (get_or ps i []) ≡ width) where
  -- the ratio of the blend at entry i of round r + 1
  ratio : (r i : ℕ) → r < d → k + suc r ≤ i + d → i ≤ k → IsRatio (u - get_or ks i 0) (get_or ks (i + d + 1 - suc r) 0 - get_or ks i 0)
  ratio r i few from to =
      let a = knot_low law span i to in
      let b = knot_high law span (i + d + 1 - suc r) (omega arith) (omega arith) in
      let l = law.long in
      let w = span.within in
      let t = law.ranged (i + d + 1 - suc r) (omega arith) in
      record { part = omega arith; some = omega arith; most = omega arith }

  entry_width : (r i : ℕ) → r ≤ d → k + r ≤ i + d → i ≤ k → length (entry d ks ps u r i) ≡ width
  entry_width zero i few from to = let w = span.within in wide i (omega arith)
  entry_width (suc r) i few from to =
      let x = entry_width r (i - 1) (omega arith) (omega arith) (omega arith) in
      let y = entry_width r i (omega arith) (omega arith) to in
      blend_length _ _ (ratio r i (omega arith) from to) (entry d ks ps u r (i - 1)) (entry d ks ps u r i) (x ∙ sym y) ∙ x

  -- the two entries of a blend are as wide
  same_widths : (r i : ℕ) → r < d → k + suc r ≤ i + d → i ≤ k → length (entry d ks ps u r (i - 1)) ≡ length (entry d ks ps u r i)
  same_widths r i few from to = entry_width r (i - 1) (omega arith) (omega arith) (omega arith) ∙ sym (entry_width r i (omega arith) (omega arith) to)

  -- a round counts once at most
  few_rounds : (r : ℕ) → inexact_rounds d ks ps u k r ≤ r
  few_rounds zero = omega arith
  few_rounds (suc r) =
      let before = few_rounds r in
      let once : (b : Bool) → cond b 1 0 ≤ 1 = elim [ true ↦ omega arith | false ↦ omega arith ] in
      let this = once (any_where (inexact_entry d ks ps u r) (k - d + suc r) (d - r)) in
      omega arith

  module _ (c : ℕ) where
    value : ℕ → ℕ → ℤ
    value r i = coordinate_of c (entry d ks ps u r i)

    -- the coordinate of an entry is the blend of those of the two before it
    value_is : (r i : ℕ) → r < d → k + suc r ≤ i + d → i ≤ k
        → value (suc r) i ≡ blended (value r (i - 1)) (value r i) (u - get_or ks i 0) (get_or ks (i + d + 1 - suc r) 0 - get_or ks i 0)
    unfolding value
    value_is r i few from to =
        blend_coordinate _ _ (ratio r i few from to) c (entry d ks ps u r (i - 1)) (entry d ks ps u r i) (same_widths r i few from to)

    -- so it lies within any bounds of the control points that govern u
    bounded : (lo hi : ℤ) → ((i : ℕ) → k ≤ i + d → i ≤ k → (lo ≤ℤ value 0 i) × (value 0 i ≤ℤ hi))
        → (r i : ℕ) → r ≤ d → k + r ≤ i + d → i ≤ k → (lo ≤ℤ value r i) × (value r i ≤ℤ hi)
    bounded lo hi h zero i few from to = h i (omega arith) to
    bounded lo hi h (suc r) i few from to =
        let p = bounded lo hi h r (i - 1) (omega arith) (omega arith) (omega arith) in
        let q = bounded lo hi h r i (omega arith) (omega arith) to in
        let s = ratio r i (omega arith) from to in
        let e = value_is r i (omega arith) from to in
        let law = lawful (value r (i - 1)) (value r i) _ _ s in
        (omega (arith, ints, clamps), omega (arith, ints, clamps))

    -- the rounds that hold an inexact blend, as half steps
    found : ℕ → Bool
    found r = any_where (inexact_entry d ks ps u r) (k - d + suc r) (d - r)

    allowed : (r : ℕ) → sum quotient_field r (λ q. mk (halves (cond (found q) 1 0))) ≡ mk (halves (inexact_rounds d ks ps u k r))
    unfolding sum found
    allowed zero = sym halves_none
    allowed (suc r) = ap (λ y. y ⊕ mk (halves (cond (found r) 1 0))) (allowed r) ∙ sym (halves_add (inexact_rounds d ks ps u k r) (cond (found r) 1 0))

    rough : (r i : ℕ) → r < d → k + suc r ≤ i + d → i ≤ k
        → Near quotient_field (mk (halves (cond (found r) 1 0))) (of (value (suc r) i))
        (blend quotient_field (of (pos u)) (of (pos (get_or ks i 0))) (of (pos (get_or ks (i + d + 1 - suc r) 0))) (of (value r (i - 1))) (of (value r i)))
    unfolding found value
    rough r i few from to =
        let deep = span.deep in
        rw (value_is r i few from to)
        (rounded_blend (get_or ks i 0) u (get_or ks (i + d + 1 - suc r) 0) (value r (i - 1)) (value r i) (found r) (knot_low law span i to) (knot_high law span (i + d + 1 - suc r) (omega arith) (omega arith))
        (ratio r i few from to)
        (λ none. exact_coordinate _ _ (ratio r i few from to) c (entry d ks ps u r (i - 1)) (entry d ks ps u r i) (same_widths r i few from to)
        (any_none (inexact_entry d ks ps u r) (k - d + suc r) (d - r) i none (omega arith) (omega arith))))

    exact_entry : ℕ → ℕ → Q
    exact_entry r i = mk (triangle (curve d ks ps c) (whole (pos u)) r i)

    exact_first : (i : ℕ) → of (value 0 i) ≡ exact_entry 0 i
    unfolding value exact_entry triangle
    exact_first i = refl

    exact_is : (r i : ℕ)
        → exact_entry (suc r) i ≡ blend quotient_field (of (pos u)) (of (pos (get_or ks i 0))) (of (pos (get_or ks (i + d + 1 - suc r) 0))) (exact_entry r (i - 1)) (exact_entry r i)
    unfolding exact_entry triangle
    exact_is r i = blend_to _ _ _ _ _

    entries_near : (r i : ℕ) → r ≤ d → k + r ≤ i + d → i ≤ k
        → Near quotient_field (sum quotient_field r (λ q. mk (halves (cond (found q) 1 0)))) (of (value r i)) (exact_entry r i)
    entries_near =
        rounded_triangle quotient_field d k (of (pos u)) (λ i. of (pos (get_or ks i 0))) (λ r i. of (value r i)) exact_entry (λ q. mk (halves (cond (found q) 1 0)))
        (λ i h. le_to (whole (pos (get_or ks i 0))) (whole (pos u)) (whole_le (pos (get_or ks i 0)) (pos u) (at_most (knot_low law span i h))))
        (λ i h g. lt_to (whole (pos u)) (whole (pos (get_or ks i 0))) (whole_lt u (get_or ks i 0) (knot_high law span i h g))) (λ i _ _. exact_first i) rough exact_is

    -- the last exact entry is the exact spline
    curve_is : exact_entry d k ≡ mk (value_at (curve d ks ps c) (whole (pos u)))
    unfolding exact_entry
    curve_is =
        let piece = lawful_pieces_are_splines d ks ps c law in
        sym (in_the_span (curve d ks ps c) piece.ordered k (whole (pos u)) (piece.span u k span))

    reading_near : distance (whole (coordinate_of c (entry d ks ps u d k))) (value_at (curve d ks ps c) (whole (pos u))) ≤F halves (inexact_rounds d ks ps u k d)
    unfolding value
    reading_near =
        near_from (whole (value d k)) (value_at (curve d ks ps c) (whole (pos u))) (halves (inexact_rounds d ks ps u k d))
        (subst (λ e. Near quotient_field e (of (value d k)) (mk (value_at (curve d ks ps c) (whole (pos u))))) (allowed d)
        (subst (Near quotient_field (sum quotient_field d (λ q. mk (halves (cond (found q) 1 0)))) (of (value d k))) curve_is (entries_near d k (omega arith) (omega arith) (omega arith))))

  -- what the triangle gives keeps to the exact spline, and to the box
  pub triangle_keeps : KeepsToCurve d ks ps (pos u) (entry d ks ps u d k) (inexact_rounds d ks ps u k d)
  unfolding value
  triangle_keeps = record {
    few = few_rounds d;
    near = reading_near;
    inside = λ c.
        let w = span.within in
        bounded c _ _ (λ i _ h. (not_below_least c ps i (omega arith), not_above_greatest c ps i (omega arith))) d k (omega arith) (omega arith) (omega arith);
  }

-- and so does what it gives over points that tell lists of one length
pub told_keeps : {X : Type 0} (told : X → List ℤ) (width : ℕ) → ((x : X) → length (told x) ≡ width) → (d count : ℕ) (ks : List ℕ) (xs : List X) (u k : ℕ)
    → length xs ≡ count → Lawful d count ks → Span d count ks u k
    → KeepsToCurve d ks (map told xs) (pos u) (de_boor d ks (map told xs) u k).0 (de_boor d ks (map told xs) u k).1
unfolding de_boor
told_keeps told width wide d count ks xs u k counted law span =
    let same : count ≡ length (map told xs) = sym (length-map xs told ∙ counted) in
    triangle_keeps d ks (map told xs) u k width (subst (λ m. Lawful d m ks) same law) (subst (λ m. Span d m ks u k) same span)
    (λ i h. told_widths told width wide xs i (omega (arith, length-map xs told)))
