-- A split: one knot inserted until it stands as often as the degree, then two halves.
use Rattle.std.proofs.Common.{◌≡◌, ℕ, zero, suc, ◌+◌, ◌-◌, ◌<◌, ◌≤◌, sym, refl, ap, ◌∙◌, subst, arith}
use native.Mathlib.Decide.{dec_le, dec_lt}
use Rattle.fractions.specs.Fractions.{Fraction, ◌≈◌, ◌≤F◌, ◌<F◌}
use Rattle.fractions.proofs.Quotient.{Q, mk, quotient_field, ◌≼◌, le_refl, le_trans}
use Rattle.fractions.proofs.Bridge.{same, identified, le_to, lt_to, le_from, same_sym, le_same, lt_same, lt_le, le_le, lt_le_lt}
use Rattle.splines.specs.Splines.{Spline, value_at, Nondecreasing, Domain, Span}
use Rattle.splines.specs.Edits.{inserted_knots, inserted, inserted_times, left_knots, left_half, right_knots, right_half}
use Rattle.splines.specs.Theorems.{SameCurve, Between, PartOf, SplittingKeepsTheCurve}
use Rattle.splines.proofs.Fields.Streams.{◌⊹◌, tail, drop, cons, plus_is}
use Rattle.splines.proofs.Fields.Basis.{Rises, Series, rises_le}
use Rattle.splines.proofs.Fields.Halves.{left_half_keeps, right_half_keeps}
use Rattle.splines.proofs.Transfer.{taken, value_to, held, held_is, held_rises}
use Rattle.splines.proofs.Insertion.{inserted_before, inserted_here, inserted_behind, chosen, passed_over, insertion_keeps_the_curve}

same_curve_refl : (s : Spline) → SameCurve s s
same_curve_refl s = record { into = λ x h. h; back = λ x h. h; value = λ x h. same (value_at s x) (value_at s x) refl }

same_curve_trans : (a b c : Spline) → SameCurve a b → SameCurve b c → SameCurve a c
same_curve_trans a b c f g = record {
  into = λ x h. g.into x (f.into x h);
  back = λ x h. f.back x (g.back x h);
  value = λ x h.
      same (value_at a x) (value_at c x) (identified (value_at a x) (value_at b x) (f.value x h) ∙ identified (value_at b x) (value_at c x) (g.value x (f.into x h)));
}

-- after m insertions: degree and number of points, and the knots by index
module _ (k : ℕ) (t : Fraction) (s : Spline) where
  degree_is : (m : ℕ) → (inserted_times m k t s).degree ≡ s.degree
  unfolding inserted_times
  degree_is zero = refl
  degree_is (suc m) = degree_is m

  count_is : (m : ℕ) → (inserted_times m k t s).count ≡ s.count + m
  unfolding inserted_times
  count_is zero = omega arith
  count_is (suc m) = omega (arith, count_is m)

  before : (m i : ℕ) → i ≤ k → (inserted_times m k t s).knots i ≡ s.knots i
  unfolding inserted_times
  before zero i h = refl
  before (suc m) i h = inserted_before (k + m) t (inserted_times m k t s).knots i (omega arith) ∙ before m i h

  here : (m i : ℕ) → k < i → i ≤ k + m → (inserted_times m k t s).knots i ≡ t
  unfolding inserted_times
  here zero i h l = absurd (omega arith)
  here (suc m) i h l = go (dec_le i (k + m)) (here m i h)
    where
      go : Dec (i ≤ k + m) → (i ≤ k + m → (inserted_times m k t s).knots i ≡ t) → inserted_knots (k + m) t (inserted_times m k t s).knots i ≡ t
      go (yes a) f = inserted_before (k + m) t (inserted_times m k t s).knots i a ∙ f a
      go (no a) f = inserted_here (k + m) t (inserted_times m k t s).knots i (omega arith)

  behind : (m i : ℕ) → k + m < i → (inserted_times m k t s).knots i ≡ s.knots (i - m)
  unfolding inserted_times
  behind zero i h = ap s.knots (omega arith)
  behind (suc m) i h = inserted_behind (k + m) t (inserted_times m k t s).knots i (omega arith) ∙ behind m (i - 1) (omega arith) ∙ ap s.knots (omega arith)

  -- k + m is then the last knot at most t, the knots never fall, and the curve is the same
  record Grown (m : ℕ) : Type 0 where
    ordered : Nondecreasing (inserted_times m k t s)
    span : Span (inserted_times m k t s) (k + m) t
    curve : SameCurve (inserted_times m k t s) s

  grown : Nondecreasing s → Span s k t → (m : ℕ) → Grown m
  unfolding inserted_times
  grown ordered span zero =
      let none : k ≡ k + 0 = omega arith in
      record { ordered = ordered; span = subst (λ j. Span s j t) none span; curve = same_curve_refl s }
  grown ordered span (suc m) =
      let before = grown ordered span m in
      let kept = insertion_keeps_the_curve (inserted_times m k t s) (k + m) t before.ordered before.span in
      let next : k + m + 1 ≡ k + suc m = omega arith in
      record {
        ordered = kept.ordered;
        span = subst (λ j. Span (inserted (k + m) t (inserted_times m k t s)) j t) next kept.span;
        curve = same_curve_trans _ _ _ kept.curve before.curve;
      }

-- The halves, where t stands as often as the degree, up to knot l, and lies strictly inside the domain.
module _ (s : Spline) (l : ℕ) (t : Fraction) (rising : Nondecreasing s) (span : Span s l t) (stands : (i : ℕ) → i ≤ l → l < i + s.degree → s.knots i ≈ t)
    (inside : s.knots s.degree <F t) (some : 1 ≤ s.degree) where
  abbrev n : ℕ
  n = s.count

  abbrev d : ℕ
  d = s.degree

  abbrev u : ℕ → Fraction
  u = s.knots

  abbrev v : ℕ → Q
  v = held s

  v_rises : Rises quotient_field v
  v_rises = held_rises s rising

  v_stands : (i : ℕ) → i ≤ l → l < i + d → v i ≡ mk t
  v_stands i h g = let w = span.within in sym (held_is s i (omega arith)) ∙ identified (u i) t (stands i h g)

  -- so the left half has more points than its degree
  enough : d + d ≤ l
  enough = go (dec_le (d + d) l)
    where
      deep : d ≤ l
      deep = span.deep

      go : Dec (d + d ≤ l) → d + d ≤ l
      go (yes h) = h
      go (no h) =
          absurd (lt_to (u d) t inside (subst (λ y. y ≼ taken u d) (v_stands (l - d + 1) (omega arith) (omega arith))
          (subst (λ y. v (l - d + 1) ≼ y) (sym (held_is s d (omega arith))) (rises_le quotient_field v v_rises (l - d + 1) d (omega arith)))))

  -- t is not above the end of the domain
  before_end : t ≤F u n
  before_end =
      let w = span.within in
      le_le t (u (l + 1)) (u n) (lt_le t (u (l + 1)) span.high)
      (le_from (u (l + 1)) (u n) (subst (λ y. y ≼ taken u n) (sym (held_is s (l + 1) (omega arith))) (subst (λ y. v (l + 1) ≼ y) (sym (held_is s n (omega arith)))
      (rises_le quotient_field v v_rises (l + 1) n (omega arith)))))

  left_rises : Rises quotient_field (taken (left_knots l t u))
  unfolding left_knots
  left_rises i = go (dec_lt i l) (dec_le i l)
    where
      w : l < n
      w = span.within

      to : (a b : Fraction) → left_knots l t u i ≡ a → left_knots l t u (suc i) ≡ b → mk a ≼ mk b → taken (left_knots l t u) i ≼ taken (left_knots l t u) (suc i)
      to a b e f h = subst (λ y. mk y ≼ taken (left_knots l t u) (suc i)) (sym e) (subst (λ y. mk a ≼ mk y) (sym f) h)

      go : Dec (i < l) → Dec (i ≤ l) → taken (left_knots l t u) i ≼ taken (left_knots l t u) (suc i)
      go (yes a) b =
          to (u i) (u (suc i)) (chosen i l (u i) t (omega arith)) (chosen (suc i) l (u (suc i)) t (omega arith))
          (subst (λ j. taken u i ≼ taken u j) (omega arith) (le_to (u i) (u (i + 1)) (rising i (omega arith))))
      go (no a) (yes b) =
          to (u i) t (chosen i l (u i) t b) (passed_over (suc i) l (u (suc i)) t (omega arith)) (subst (λ j. taken u j ≼ mk t) (omega arith) (le_to (u l) t span.low))
      go (no a) (no b) = to t t (passed_over i l (u i) t (omega arith)) (passed_over (suc i) l (u (suc i)) t (omega arith)) (le_refl (mk t))

  left_value : (x : Fraction) → u d ≤F x → x <F t → mk (value_at (left_half l t s) x) ≡ mk (value_at s x)
  unfolding left_knots
  left_value x h k =
      let w = span.within in
      let e = enough in
      let r : ℕ = l - d - d in
      let size : l - d + 1 ≡ suc (r ⊹ d) = omega (arith, plus_is r d) in
      let top : suc r ⊹ d ≡ l - d + 1 = omega (arith, plus_is r d) in
      value_to (left_half l t s) x (taken (left_knots l t u)) (taken s.points) (λ i _. refl) (λ i _. refl)
      ∙ ap (λ j. Series quotient_field (mk x) j d (taken (left_knots l t u)) (taken s.points)) size
      ∙ left_half_keeps quotient_field (mk x) r d n v (taken (left_knots l t u)) (taken s.points) v_rises left_rises
      (λ i g. sym (held_is s i (omega arith)) ∙ ap mk (sym (chosen i l (u i) t (omega arith)))) some (omega (arith, plus_is r d))
      (subst (λ y. y ≼ mk x) (held_is s d (omega arith)) (le_to (u d) x h))
      (λ y. lt_to x t k (subst (λ z. z ≼ mk x) (ap v top ∙ v_stands (l - d + 1) (omega arith) (omega arith)) y))
      ∙ sym (value_to s x v (taken s.points) (held_is s) (λ i _. refl))

  left_ordered : Nondecreasing (left_half l t s)
  left_ordered i h =
      le_from (left_knots l t u i) (left_knots l t u (i + 1)) (subst (λ j. taken (left_knots l t u) i ≼ taken (left_knots l t u) j) (omega arith) (left_rises i))

  left_start : left_knots l t u d ≡ u d
  unfolding left_knots
  left_start = chosen d l (u d) t span.deep

  left_end : left_knots l t u (l - d + 1) ≈ t
  unfolding left_knots
  left_end =
      let deep = span.deep in
      subst (λ y. y ≈ t) (sym (chosen (l - d + 1) l (u (l - d + 1)) t (omega arith))) (stands (l - d + 1) (omega arith) (omega arith))

  left_part : PartOf s (left_half l t s) (u d) t
  left_part =
      let into : (x : Fraction) → Domain (left_half l t s) x → Between (u d) t x =
      λ x h. record { from = subst (λ y. y ≤F x) left_start h.start; to = lt_same x (left_knots l t u (l - d + 1)) t left_end h.end } in
      record {
        ordered = left_ordered;
        into = into;
        back = λ x h. record {
          start = subst (λ y. y ≤F x) (sym left_start) h.from;
          end = lt_same x t (left_knots l t u (l - d + 1)) (same_sym (left_knots l t u (l - d + 1)) t left_end) h.to;
        };
        value = λ x h. let b = into x h in same (value_at (left_half l t s) x) (value_at s x) (left_value x b.from b.to);
      }

  -- the knots of the right half, in the quotient
  knots_of_right : ℕ → Q
  knots_of_right = cons (mk t) (tail (drop (l - d) v))

  right_rises : Rises quotient_field knots_of_right
  unfolding knots_of_right
  right_rises zero =
      let deep = span.deep in
      let first : l - d + 1 ≡ (l - d) ⊹ 1 = omega (arith, plus_is (l - d) 1) in
      subst (λ y. mk t ≼ y) (sym (v_stands (l - d + 1) (omega arith) (omega arith)) ∙ ap v first) (le_refl (mk t))
  right_rises (suc i) = subst (λ j. v ((l - d) ⊹ suc i) ≼ v j) (omega (arith, plus_is (l - d) (suc i), plus_is (l - d) (suc (suc i)))) (v_rises ((l - d) ⊹ suc i))

  right_is : (i : ℕ) → i ≤ n - (l - d) + d → taken (right_knots d l t u) i ≡ knots_of_right i
  unfolding right_knots knots_of_right
  right_is zero h = refl
  right_is (suc i) h =
      let w = span.within in
      let deep = span.deep in
      held_is s (l - d + suc i) (omega arith) ∙ ap v (sym (plus_is (l - d) (suc i)))

  right_value : (x : Fraction) → t ≤F x → x <F u n → mk (value_at (right_half l t s) x) ≡ mk (value_at s x)
  unfolding knots_of_right
  right_value x h k =
      let w = span.within in
      let deep = span.deep in
      let p : ℕ = l - d in
      let rest : ℕ = n - p - 1 in
      let e : ℕ = d - 1 in
      let degree : d ≡ suc e = omega arith in
      let size : n - p ≡ suc rest = omega arith in
      let all : p ⊹ suc rest ≡ n = omega (arith, plus_is p (suc rest)) in
      let last : p ⊹ suc e ≡ l = omega (arith, plus_is p (suc e)) in
      value_to (right_half l t s) x knots_of_right (drop p (taken s.points)) right_is (λ i _. ap (taken s.points) (sym (plus_is p i)))
      ∙ ap (λ j. Series quotient_field (mk x) j d knots_of_right (drop p (taken s.points))) size
      ∙ ap (λ j. Series quotient_field (mk x) (suc rest) j knots_of_right (drop p (taken s.points))) degree
      ∙ right_half_keeps quotient_field (mk x) p rest e v knots_of_right (taken s.points) v_rises right_rises refl
      (le_trans (v (p ⊹ suc e)) (mk t) (mk x) (subst (λ y. y ≼ mk t) (held_is s l (omega arith) ∙ ap v (sym last)) (le_to (u l) t span.low)) (le_to t x h))
      (λ y. lt_to x (u n) k (subst (λ z. z ≼ mk x) (ap v all ∙ sym (held_is s n (omega arith))) y))
      ∙ ap (λ j. Series quotient_field (mk x) (p ⊹ suc rest) j v (taken s.points)) (sym degree)
      ∙ ap (λ j. Series quotient_field (mk x) j d v (taken s.points)) all ∙ sym (value_to s x v (taken s.points) (held_is s) (λ i _. refl))

  right_ordered : Nondecreasing (right_half l t s)
  right_ordered i h =
      let next : suc i ≡ i + 1 = omega arith in
      le_from (right_knots d l t u i) (right_knots d l t u (i + 1)) (subst (λ y. y ≼ taken (right_knots d l t u) (i + 1)) (sym (right_is i (omega arith)))
      (subst (λ y. knots_of_right i ≼ y) (ap knots_of_right next ∙ sym (right_is (i + 1) (omega arith))) (right_rises i)))

  right_after : (i : ℕ) → 1 ≤ i → right_knots d l t u i ≡ u (l - d + i)
  unfolding right_knots
  right_after zero h = absurd (omega arith)
  right_after (suc i) h = refl

  right_start : right_knots d l t u d ≈ t
  right_start =
      let deep = span.deep in
      let last : l - d + d ≡ l = omega arith in
      subst (λ y. y ≈ t) (sym (right_after d some ∙ ap u last)) (stands l (omega arith) (omega arith))

  right_end : right_knots d l t u (n - (l - d)) ≡ u n
  right_end =
      let w = span.within in
      right_after (n - (l - d)) (omega arith) ∙ ap u (omega arith)

  right_part : PartOf s (right_half l t s) t (u n)
  right_part =
      let into : (x : Fraction) → Domain (right_half l t s) x → Between t (u n) x =
      λ x h. record { from = le_same x (right_knots d l t u d) t right_start h.start; to = subst (λ y. x <F y) right_end h.end } in
      record {
        ordered = right_ordered;
        into = into;
        back = λ x h. record {
          start = le_same x t (right_knots d l t u d) (same_sym (right_knots d l t u d) t right_start) h.from;
          end = subst (λ y. x <F y) (sym right_end) h.to;
        };
        value = λ x h. let b = into x h in same (value_at (right_half l t s) x) (value_at s x) (right_value x b.from b.to);
      }

-- a part of a curve is a part of any other that is the same
part_of_same : (s s' part : Spline) (a a' b b' : Fraction) → a ≡ a' → b ≡ b' → SameCurve s s' → ((x : Fraction) → Between a b x → Domain s x) → PartOf s part a b → PartOf s' part a' b'
part_of_same s s' part a a' b b' e f same-curve within h = record {
  ordered = h.ordered;
  into = λ x g. let y = h.into x g in record { from = subst (λ z. z ≤F x) e y.from; to = subst (λ z. x <F z) f y.to };
  back = λ x g. h.back x (record { from = subst (λ z. z ≤F x) (sym e) g.from; to = subst (λ z. x <F z) (sym f) g.to });
  value = λ x g.
      same (value_at part x) (value_at s' x) (identified (value_at part x) (value_at s x) (h.value x g)
      ∙ identified (value_at s x) (value_at s' x) (same-curve.value x (within x (h.into x g))));
}

pub splitting_keeps_the_curve : SplittingKeepsTheCurve
splitting_keeps_the_curve s k n t some ordered span inside few stands =
    let w = span.within in
    let deep = span.deep in
    let first : σ.knots σ.degree ≡ s.knots s.degree = ap σ.knots (degree_is k t s m) ∙ before k t s m s.degree deep in
    let drop-m : s.count + m - m ≡ s.count = omega arith in
    let last : σ.knots σ.count ≡ s.knots s.count =
    ap σ.knots (count_is k t s m) ∙ behind k t s m (s.count + m) (omega arith) ∙ ap s.knots drop-m in
    let now = grown k t s ordered span m in
    let inside' : σ.knots σ.degree <F t = subst (λ y. y <F t) (sym first) inside in
    let some' : 1 ≤ σ.degree = omega (arith, degree_is k t s m) in
    record {
      left = part_of_same σ s (left_half (k + m) t σ) (σ.knots σ.degree) (s.knots s.degree) t t first refl now.curve
          (λ x h. record { start = h.from; end = lt_le_lt x t (σ.knots σ.count) h.to (before_end σ (k + m) t now.ordered now.span all inside' some') })
          (left_part σ (k + m) t now.ordered now.span all inside' some');
      right = part_of_same σ s (right_half (k + m) t σ) t t (σ.knots σ.count) (s.knots s.count) refl last now.curve
          (λ x h. record { start = le_le (σ.knots σ.degree) t x (lt_le (σ.knots σ.degree) t inside') h.from; end = h.to })
          (right_part σ (k + m) t now.ordered now.span all inside' some');
    }
  where
    m : ℕ
    m = s.degree - n

    σ : Spline
    σ = inserted_times m k t s

    -- t now stands as often as the degree
    all : (i : ℕ) → i ≤ k + m → k + m < i + σ.degree → σ.knots i ≈ t
    all i h g = go (dec_le i k)
      where
        go : Dec (i ≤ k) → σ.knots i ≈ t
        go (yes a) = subst (λ y. y ≈ t) (sym (before k t s m i a)) (stands i a (omega (arith, degree_is k t s m)))
        go (no a) = subst (λ y. y ≈ t) (sym (here k t s m i (omega arith) h)) (same t t refl)
