-- A lawful piece is a spline in each coordinate, with the same domain, and meets what the theorems on splines ask.
use Rattle.std.proofs.Common.{◌≡◌, ℕ, suc, ◌+◌, ◌-◌, ◌<◌, ◌≤◌, true, ltb, leb, List, length, get_or, ℤ, pos, negsuc, ◌*ℤ◌, ◌≤ℤ◌, sym, ap, ◌∙◌, subst, ⊎_elim, true≢false, arith}
use borrow.Author.Differences.{ints}
use native.Mathlib.Decide.{dec_le, ℕ_discrete}
use Rattle.std.proofs.lemmas.Bool.{cases_lt, and_parts, and_from, leb-true, le-leb, ltb-true, lt-ltb}
use Rattle.fractions.specs.Fractions.{divisor, ◌≈◌, ◌<F◌, whole}
use Rattle.fractions.proofs.Wholes.{whole_le, whole_lt, le_whole, lt_whole}
use Rattle.splines.specs.Splines.{Nondecreasing, Domain}
use Rattle.splines.specs.Splines as spline
use Rattle.splines.specs.Theorems.{SplitKeeps, WithoutInnerKnots}
use Rattle.splines.proofs.Insertion.{insertion_keeps_the_curve}
use Rattle.splines.proofs.Splitting.{splitting_keeps_the_curve}
use Rattle.splines.proofs.Raising.{raising_keeps_the_curve}
use Rattle.knots.specs.Lawful.{Lawful, first_knot, last_knot, times}
use Rattle.knots.specs.Spans.{in_domain, Span}
use Rattle.knots.proofs.Lawfuls.{times_within, lawful_first, lawful_last}
use Rattle.pieces.specs.Curves.{curve, LawfulPiecesAreSplines}

pub at_most : {a b : ℕ} → a ≤ b → pos a ≤ℤ pos b
at_most h = omega (arith, ints)

module _ (d : ℕ) (ks : List ℕ) (ps : List (List ℤ)) (c : ℕ) (law : Lawful d (length ps) ks) where
  ordered : Nondecreasing (curve d ks ps c)
  ordered i h =
      let l = law.long in
      whole_le (pos (get_or ks i 0)) (pos (get_or ks (i + 1) 0)) (at_most (law.rises i (i + 1) (omega arith) (omega arith)))

  first_is : get_or ks d 0 ≡ first_knot ks
  first_is = lawful_first d (length ps) ks law d (omega arith)

  last_is : get_or ks (length ps) 0 ≡ last_knot ks
  last_is = let l = law.long in lawful_last d (length ps) ks law (length ps) (omega arith) (omega arith)

  into : (u : ℤ) → in_domain ks u ≡ true → Domain (curve d ks ps c) (whole u)
  into (pos u) h =
      let both = and_parts (leb (first_knot ks) u) (ltb u (last_knot ks)) h in
      let a = leb-true (first_knot ks) u both.0 in
      let b = ltb-true u (last_knot ks) both.1 in
      record {
        start = whole_le (pos (get_or ks d 0)) (pos u) (at_most (omega (arith, first_is)));
        end = whole_lt u (get_or ks (length ps) 0) (omega (arith, last_is));
      }
  into (negsuc u) h = absurd (true≢false (sym h))

  back : (u : ℤ) → Domain (curve d ks ps c) (whole u) → in_domain ks u ≡ true
  back (pos u) h =
      let a = le_whole (pos (get_or ks d 0)) (pos u) h.start in
      let b = lt_whole u (get_or ks (length ps) 0) h.end in
      and_from (leb (first_knot ks) u) (ltb u (last_knot ks)) (le-leb (first_knot ks) u (omega (arith, ints, first_is))) (lt-ltb u (last_knot ks) (omega (arith, last_is)))
  back (negsuc u) h = let a = le_whole (pos (get_or ks d 0)) (negsuc u) h.start in absurd (omega (arith, ints))

  span : (u k : ℕ) → Span d (length ps) ks u k → spline.Span (curve d ks ps c) k (whole (pos u))
  span u k s =
      let next : suc k ≡ k + 1 = omega arith in
      record {
        deep = s.deep;
        within = s.within;
        low = whole_le (pos (get_or ks k 0)) (pos u) (at_most s.low);
        high = subst (λ i. whole (pos u) <F whole (pos (get_or ks i 0))) next (whole_lt u (get_or ks (suc k) 0) s.high);
      }

  -- where u stands, up to its span's index k, among the knots
  module _ (u k : ℕ) (s : Span d (length ps) ks u k) (inside : first_knot ks < u) where
    k_within : suc k < length ks
    k_within = let l = law.long in let w = s.within in omega arith

    -- u is not the last knot
    before_last : u < last_knot ks
    before_last =
        let h = s.high in
        let w = s.within in
        let l = law.long in
        let r = law.rises (suc k) (length ps) (omega arith) (omega arith) in
        omega (arith, last_is)

    not_after : (j : ℕ) → j < length ks → get_or ks j 0 ≡ u → j ≤ k
    not_after j h e = go (dec_le j k)
      where
        go : Dec (j ≤ k) → j ≤ k
        go (yes a) = a
        go (no a) = let r = law.rises (suc k) j (omega arith) h in let g = s.high in absurd (omega arith)

    -- u is an inner value, or no knot at all
    seldom : times u ks ≤ d
    seldom = go (ℕ_discrete (get_or ks k 0) u)
      where
        go : Dec (get_or ks k 0 ≡ u) → times u ks ≤ d
        go (yes e) =
            let w = k_within in
            subst (λ n. times n ks ≤ d) e (law.inner k (omega arith) (λ f. absurd (omega arith)) (λ f. let b = before_last in absurd (omega arith)))
        go (no e) =
            let none = times_within u ks 0 0 (omega arith) (λ j h f.
            let a = not_after j h f in
            let r = law.rises j k a (let w = k_within in omega arith) in
            let g = s.low in
            absurd (omega arith)) in
            omega arith

    -- all its places lie together, just up to k: were one of them another value, there would be too few
    stands : (i : ℕ) → i ≤ k → k < i + times u ks → (curve d ks ps c).knots i ≈ whole (pos u)
    stands i h g = go (ℕ_discrete (get_or ks i 0) u)
      where
        go : Dec (get_or ks i 0 ≡ u) → whole (pos (get_or ks i 0)) ≈ whole (pos u)
        go (yes e) = ap (λ n. pos n *ℤ divisor 0) e
        go (no e) =
            let w = k_within in
            let top = s.low in
            let r = law.rises i k h (omega arith) in
            let few = times_within u ks (suc i) (suc k) (omega arith) (λ j l f.
            let a = not_after j l f in
            (⊎_elim (λ (b : i < j). b) (λ (b : j ≤ i). let t = law.rises j i b (omega arith) in absurd (omega arith)) (cases_lt i j), omega arith)) in
            absurd (omega arith)

    splits : (times u ks ≤ d) × SplitKeeps (curve d ks ps c) k (d - times u ks) (whole (pos u))
    splits = (
      seldom,
      splitting_keeps_the_curve (curve d ks ps c) k (times u ks) (whole (pos u)) law.degree.0 ordered (span u k s)
          (whole_lt (get_or ks d 0) u (omega (arith, first_is))) seldom stands,
    )

  -- with no more control points than d + 1 the two end values are all the knots
  plain : length ps ≡ d + 1 → WithoutInnerKnots (curve d ks ps c)
  plain e =
      let l = law.long in
      let top = lawful_last d (length ps) ks law (d + d + 1) (omega arith) (omega arith) in
      record {
        points = e;
        first = λ i h. ap (λ n. pos n *ℤ divisor 0) (lawful_first d (length ps) ks law i h);
        last = λ i h g. ap (λ n. pos n *ℤ divisor 0) (lawful_last d (length ps) ks law i (omega arith) (omega arith) ∙ sym top);
      }

pub lawful_pieces_are_splines : LawfulPiecesAreSplines
lawful_pieces_are_splines d ks ps c law =
    let rises = ordered d ks ps c law in
    record {
      ordered = rises;
      start = ap (λ n. whole (pos n)) (first_is d ks ps c law);
      end = ap (λ n. whole (pos n)) (last_is d ks ps c law);
      into = into d ks ps c law;
      back = back d ks ps c law;
      span = span d ks ps c law;
      inserts = λ u k s. insertion_keeps_the_curve (curve d ks ps c) k (whole (pos u)) rises (span d ks ps c law u k s);
      splits = splits d ks ps c law;
      raises = λ e. raising_keeps_the_curve (curve d ks ps c) (plain d ks ps c law e);
    }
