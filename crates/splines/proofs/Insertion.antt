-- Insertion of a knot in splines of fractions.
use Rattle.std.proofs.Common.{◌≡◌, ℕ, zero, suc, ◌+◌, ◌-◌, ◌<◌, ◌≤◌, cond, leb, sym, refl, ap, ◌∙◌, subst, ap₂, arith}
use native.Mathlib.Decide.{dec_le, dec_lt}
use Rattle.std.proofs.lemmas.Bool.{le-leb, lt-leb}
use Rattle.fractions.specs.Fractions.{Fraction, ◌≤F◌, ◌<F◌}
use Rattle.fractions.proofs.Quotient.{Q, mk, quotient_field, ◌≼◌, le_refl}
use Rattle.fractions.proofs.Bridge.{same, le_to, lt_to, le_from, lt_le}
use Rattle.splines.specs.Splines.{Spline, value_at, blend_at, Nondecreasing, Domain, Span}
use Rattle.splines.specs.Edits.{inserted_knots, inserted_points, inserted}
use Rattle.splines.specs.Theorems.{SameCurve, InsertionKeepsTheCurve}
use Rattle.splines.proofs.Fields.Streams.{◌⊹◌, plus_is}
use Rattle.splines.proofs.Fields.Basis.{blend, Series}
use Rattle.splines.proofs.Fields.Insertion.{Knots, Points, knots_below, knots_at, knots_above, insertion}
use Rattle.splines.proofs.Fields.Indices.{points_low, points_middle, points_high}
use Rattle.splines.proofs.Transfer.{taken, value_to, blend_to, held, held_is, held_rises}

-- a choice by an order that holds, and by one that does not
pub chosen : {A : Type 0} (a b : ℕ) (y z : A) → a ≤ b → cond (leb a b) y z ≡ y
chosen a b y z h = ap (λ t. cond t y z) (le-leb a b h)

pub passed_over : {A : Type 0} (a b : ℕ) (y z : A) → b < a → cond (leb a b) y z ≡ z
passed_over a b y z h = ap (λ t. cond t y z) (lt-leb a b h)

-- the knots after an insertion, by index
pub inserted_before : (k : ℕ) (t : Fraction) (u : ℕ → Fraction) (i : ℕ) → i ≤ k → inserted_knots k t u i ≡ u i
unfolding inserted_knots
inserted_before k t u i h = chosen i k (u i) _ h

pub inserted_here : (k : ℕ) (t : Fraction) (u : ℕ → Fraction) (i : ℕ) → i ≡ k + 1 → inserted_knots k t u i ≡ t
unfolding inserted_knots
inserted_here k t u i h = passed_over i k (u i) _ (omega arith) ∙ chosen i (k + 1) t _ (omega arith)

pub inserted_behind : (k : ℕ) (t : Fraction) (u : ℕ → Fraction) (i : ℕ) → k + 1 < i → inserted_knots k t u i ≡ u (i - 1)
unfolding inserted_knots
inserted_behind k t u i h = passed_over i k (u i) _ (omega arith) ∙ passed_over i (k + 1) t _ h

-- knots that never fall do not fall with t among them
inserted_ordered : (s : Spline) (k : ℕ) (t : Fraction) → Nondecreasing s → Span s k t → Nondecreasing (inserted k t s)
inserted_ordered s k t ordered span i h = go (dec_lt i k) (dec_le i k) (dec_le i (k + 1))
  where
    u : ℕ → Fraction
    u = s.knots

    w : k < s.count
    w = span.within

    to : (a b : Fraction) → inserted_knots k t u i ≡ a → inserted_knots k t u (i + 1) ≡ b → a ≤F b → inserted_knots k t u i ≤F inserted_knots k t u (i + 1)
    to a b e f l = subst (λ y. y ≤F inserted_knots k t u (i + 1)) (sym e) (subst (λ y. a ≤F y) (sym f) l)

    go : Dec (i < k) → Dec (i ≤ k) → Dec (i ≤ k + 1) → inserted_knots k t u i ≤F inserted_knots k t u (i + 1)
    go (yes a) b c = to (u i) (u (i + 1)) (inserted_before k t u i (omega arith)) (inserted_before k t u (i + 1) (omega arith)) (ordered i (omega arith))
    go (no a) (yes b) c =
        let e : k ≡ i = omega arith in
        to (u i) t (inserted_before k t u i b) (inserted_here k t u (i + 1) (omega arith)) (subst (λ j. u j ≤F t) e span.low)
    go (no a) (no b) (yes c) =
        let e : k + 1 ≡ i = omega arith in
        let f : i + 1 - 1 ≡ i = omega arith in
        to t (u i) (inserted_here k t u i (omega arith)) (inserted_behind k t u (i + 1) (omega arith) ∙ ap u f) (subst (λ j. t ≤F u j) e (lt_le t (u (k + 1)) span.high))
    go (no a) (no b) (no c) =
        let e : i - 1 + 1 ≡ i + 1 - 1 = omega arith in
        to (u (i - 1)) (u (i + 1 - 1)) (inserted_behind k t u i (omega arith)) (inserted_behind k t u (i + 1) (omega arith))
        (subst (λ j. u (i - 1) ≤F u j) e (ordered (i - 1) (omega arith)))

module _ (s : Spline) (k : ℕ) (t : Fraction) (rising : Nondecreasing s) (span : Span s k t) where
  abbrev n : ℕ
  n = s.count

  abbrev d : ℕ
  d = s.degree

  abbrev u : ℕ → Fraction
  u = s.knots

  abbrev P : ℕ → Fraction
  P = s.points

  q : ℕ
  q = k - d

  abbrev v : ℕ → Q
  v = held s

  back : q + d ≡ k
  unfolding q
  back = let h = span.deep in omega arith

  knots_are : (i : ℕ) → i ≤ n + 1 + d → taken (inserted_knots k t u) i ≡ Knots quotient_field (suc q) d (mk t) v i
  knots_are i h = go (dec_le i k) (dec_le i (k + 1))
    where
      go : Dec (i ≤ k) → Dec (i ≤ k + 1) → taken (inserted_knots k t u) i ≡ Knots quotient_field (suc q) d (mk t) v i
      go (yes a) b =
          let w = span.within in
          ap mk (inserted_before k t u i a) ∙ held_is s i (omega arith) ∙ sym (knots_below quotient_field (mk t) (suc q) d i v (omega (arith, back, plus_is q d)))
      go (no a) (yes b) =
          ap mk (inserted_here k t u i (omega arith))
          ∙ sym (subst (λ j. Knots quotient_field (suc q) d (mk t) v j ≡ mk t) (omega (arith, back, plus_is q d)) (knots_at quotient_field (mk t) (suc q) d v))
      go (no a) (no b) =
          ap mk (inserted_behind k t u i (omega arith)) ∙ held_is s (i - 1) (omega arith)
          ∙ sym (subst (λ j. Knots quotient_field (suc q) d (mk t) v j ≡ v (i - 1)) (omega arith) (knots_above quotient_field (mk t) (suc q) d (i - 1) v (omega (arith, back, plus_is q d))))

  points_are : (i : ℕ) → i < n + 1 → taken (inserted_points d k t u P) i ≡ Points quotient_field q d (mk t) v (taken P) i
  unfolding inserted_points q
  points_are zero h = ap mk (chosen 0 (k - d) (P 0) _ (omega arith)) ∙ sym (points_low quotient_field (mk t) q d 0 v (taken P) (omega arith))
  points_are (suc i) h = go (dec_le (suc i) (k - d)) (dec_le (suc i) k)
    where
      down : suc i - 1 ≡ i
      down = omega arith

      w : k < n
      w = span.within

      mixed : Fraction
      mixed = blend_at (u (suc i)) (u (suc i + d)) t (P (suc i - 1)) (P (suc i))

      go : Dec (suc i ≤ k - d) → Dec (suc i ≤ k) → taken (inserted_points d k t u P) (suc i) ≡ Points quotient_field q d (mk t) v (taken P) (suc i)
      go (yes a) b = ap mk (chosen (suc i) (k - d) (P (suc i)) _ a) ∙ sym (points_low quotient_field (mk t) q d (suc i) v (taken P) a)
      go (no a) (yes b) =
          ap mk (passed_over (suc i) (k - d) (P (suc i)) _ (omega arith) ∙ chosen (suc i) k mixed _ b)
          ∙ blend_to (u (suc i)) (u (suc i + d)) t (P (suc i - 1)) (P (suc i))
          ∙ ap₂ (λ a c. blend quotient_field (mk t) a c (taken P (suc i - 1)) (taken P (suc i))) (held_is s (suc i) (omega arith)) (held_is s (suc i + d) (omega arith) ∙ ap v (omega (arith, plus_is i d)))
          ∙ ap (λ j. blend quotient_field (mk t) (v (suc i)) (v (suc (i ⊹ d))) (taken P j) (taken P (suc i))) down
          ∙ sym (points_middle quotient_field (mk t) q d i v (taken P) (omega arith) (omega (arith, back)))
      go (no a) (no b) =
          ap mk (passed_over (suc i) (k - d) (P (suc i)) _ (omega arith) ∙ passed_over (suc i) k mixed _ (omega arith)) ∙ ap (taken P) down
          ∙ sym (points_high quotient_field (mk t) q d i v (taken P) (omega (arith, back)))

  value_kept : (x : Fraction) → Domain s x → mk (value_at (inserted k t s) x) ≡ mk (value_at s x)
  value_kept x domain =
      let w = span.within in
      let more : n + 1 ≡ suc n = omega arith in
      let at : q ⊹ d ≡ k = omega (arith, back, plus_is q d) in
      let next : suc (q ⊹ d) ≡ k + 1 = omega (arith, at) in
      value_to (inserted k t s) x (Knots quotient_field (suc q) d (mk t) v) (Points quotient_field q d (mk t) v (taken P)) knots_are points_are
      ∙ ap (λ j. Series quotient_field (mk x) j d (Knots quotient_field (suc q) d (mk t) v) (Points quotient_field q d (mk t) v (taken P))) more
      ∙ insertion quotient_field (mk x) (mk t) d q n v (taken P) (held_rises s rising)
      (subst (λ y. y ≼ mk t) (held_is s k (omega arith) ∙ ap v (sym at)) (le_to (u k) t span.low))
      (λ l. lt_to t (u (k + 1)) span.high (subst (λ y. y ≼ mk t) (ap v next ∙ sym (held_is s (k + 1) (omega arith))) l)) (omega (arith, at))
      (subst (λ y. y ≼ mk x) (held_is s d (omega arith)) (le_to (u d) x domain.start))
      (λ l. lt_to x (u n) domain.end (subst (λ y. y ≼ mk x) (sym (held_is s n (omega arith))) l))
      ∙ sym (value_to s x v (taken P) (held_is s) (λ i _. refl))

  -- neither end of the domain moves
  start_is : inserted_knots k t u d ≡ u d
  start_is = inserted_before k t u d span.deep

  end_is : inserted_knots k t u (n + 1) ≡ u n
  end_is = let w = span.within in inserted_behind k t u (n + 1) (omega arith) ∙ ap u (omega arith)

  kept : SameCurve (inserted k t s) s
  kept =
      let into : (x : Fraction) → Domain (inserted k t s) x → Domain s x =
      λ x domain. record { start = subst (λ y. y ≤F x) start_is domain.start; end = subst (λ y. x <F y) end_is domain.end } in
      record {
        into = into;
        back = λ x domain. record { start = subst (λ y. y ≤F x) (sym start_is) domain.start; end = subst (λ y. x <F y) (sym end_is) domain.end };
        value = λ x domain. same (value_at (inserted k t s) x) (value_at s x) (value_kept x (into x domain));
      }

  -- t itself is now the last knot that is at most t
  span_after : Span (inserted k t s) (k + 1) t
  span_after =
      let w = span.within in
      let deep = span.deep in
      let back_one : k + 1 + 1 - 1 ≡ k + 1 = omega arith in
      record {
        deep = omega arith;
        within = omega arith;
        low = subst (λ y. y ≤F t) (sym (inserted_here k t u (k + 1) refl)) (le_from t t (le_refl (mk t)));
        high = subst (λ y. t <F y) (sym (inserted_behind k t u (k + 1 + 1) (omega arith) ∙ ap u back_one)) span.high;
      }

pub insertion_keeps_the_curve : InsertionKeepsTheCurve
insertion_keeps_the_curve s k t ordered span = record {
  ordered = inserted_ordered s k t ordered span;
  span = span_after s k t ordered span;
  curve = kept s k t ordered span;
}
