-- What a lawful degree, count and knot list is known by.
use Rattle.std.proofs.Common.{◌≡◌, ℕ, zero, suc, ◌+◌, ◌-◌, ◌^◌, ◌<◌, ◌≤◌, true, cond, not, eqb, ltb, ◌≢◌, List, [], ◌∷◌, map, length, get_or, ℤ, pos, nat_abs, None, sym, refl, ap, ◌∙◌, subst, ⊎_elim, add-zero, arith}
use Rattle.std.proofs.lemmas.List.{length-map, get_or-map}
use Rattle.std.proofs.lemmas.List.Sums.{sum_by-cons}
use Rattle.std.proofs.lemmas.Bool.Decides.{nat_tests}
use Rattle.std.proofs.lemmas.Bool.{cases_eq, cases_lt, not-false, not_from_true, eqb-true, ltb-false, le-ltb, eq-eqb}
use Rattle.grid.proofs.Searches.{none_where, first_none}
use Rattle.refusals.specs.declared.piece.PieceFault.TheVariants.{Degree, Count, KnotCount, KnotRange, KnotFalls, KnotRepeats}
use Rattle.refusals.proofs.Orders.{unless_passed, at_passed, unless_passes, at_passes}
use Rattle.knots.specs.Lawful.{is_degree, is_count, is_knot, times, first_knot, last_knot, repeats_well, first_outside, first_fall, first_ill_repeated, disorder, piece_refusal, Lawful, RefusesTheUnlawful}

-- a value that stands only at indices from a on and below b stands at most b - a times
pub times_within : (x : ℕ) (ks : List ℕ) (a b : ℕ) → a ≤ b → ((k : ℕ) → k < length ks → get_or ks k 0 ≡ x → (a ≤ k) × (k < b)) → times x ks ≤ b - a
times_within x [] a b l h = omega arith
times_within x (k ∷ ks) a b l h =
    let more = sum_by-cons (λ j. cond (eqb j x) 1 0) k ks in
    let here = h 0 (omega arith) in
    let rest = times_within x ks (a - 1) (b - 1) (omega arith) (λ i q s. let w = h (suc i) (omega arith) s in (omega arith, omega arith)) in
    grind (arith, nat_tests)

-- so one that no index from j on holds stands at most j times
pub times_before : (x : ℕ) (ks : List ℕ) (j : ℕ) → ((k : ℕ) → j ≤ k → k < length ks → get_or ks k 0 ≡ x → ⊥) → times x ks ≤ j
times_before x ks j h =
    let few = times_within x ks 0 j (omega arith) (λ k q s. (omega arith, ⊎_elim (λ l. l) (λ l. absurd (h k l q s)) (cases_lt k j))) in
    omega arith

-- and one that no index below j holds at most as often as there are others
pub times_after : (x : ℕ) (ks : List ℕ) (j : ℕ) → ((k : ℕ) → k < j → k < length ks → get_or ks k 0 ≡ x → ⊥) → times x ks ≤ length ks - j
times_after x ks j h =
    ⊎_elim
    (λ (past : length ks < j).
    let none = times_within x ks 0 0 (omega arith) (λ k q s. absurd (h k (omega arith) q s)) in
    omega arith)
    (λ (g : j ≤ length ks). times_within x ks j (length ks) g (λ k q s. (⊎_elim (λ l. absurd (h k l q s)) (λ l. l) (cases_lt k j), q)))
    (cases_lt (length ks) j)

-- magnitudes of whole numbers from 0 up are those numbers
pub magnitudes : (ks : List ℕ) → map nat_abs (map pos ks) ≡ ks
magnitudes [] = refl
magnitudes (k ∷ ks) = ap (λ l. k ∷ l) (magnitudes ks)

-- what each cause leaves where it does not hold
pub record Passed (degree : ℤ) (count : ℕ) (knots : List ℤ) : Type 0 where
  pub degree_good : is_degree degree ≡ true
  pub count_good : is_count (nat_abs degree) count ≡ true
  pub length_is : length knots ≡ count + nat_abs degree + 1
  pub none_outside : first_outside knots ≡ None
  pub none_falls : first_fall (map nat_abs knots) ≡ None
  pub none_ill_repeated : first_ill_repeated (nat_abs degree) (map nat_abs knots) ≡ None

pub passed : (degree : ℤ) (count : ℕ) (knots : List ℤ) → piece_refusal degree count knots ≡ None → Passed degree count knots
passed degree count knots e =
    let a = unless_passed (is_degree degree) Degree _ e in
    let b = unless_passed (is_count (nat_abs degree) count) Count _ a.1 in
    let l = unless_passed (eqb (length knots) (count + nat_abs degree + 1)) KnotCount _ b.1 in
    let o = at_passed (first_outside knots) KnotRange _ l.1 in
    let f = at_passed (first_fall (map nat_abs knots)) KnotFalls _ o.1 in
    let r = at_passed (first_ill_repeated (nat_abs degree) (map nat_abs knots)) (λ _. KnotRepeats) _ f.1 in
    record {
      degree_good = a.0;
      count_good = b.0;
      length_is = eqb-true _ _ l.0;
      none_outside = o.0;
      none_falls = f.0;
      none_ill_repeated = r.0;
    }

-- what nothing refuses is lawful
module _ (d count : ℕ) (ks : List ℕ) (unrefused : piece_refusal (pos d) count (map pos ks) ≡ None) where
  none : Passed (pos d) count (map pos ks)
  none = passed (pos d) count (map pos ks) unrefused

  degree_of : (1 ≤ d) × (d ≤ 5)
  degree_of = let good = none.degree_good in grind (arith, nat_tests)

  number_of : (d + 1 ≤ count) × (count ≤ 64)
  number_of = let good = none.count_good in grind (arith, nat_tests)

  length_of : length ks ≡ count + d + 1
  length_of = sym (length-map ks pos) ∙ none.length_is

  range_of : (i : ℕ) → i < length ks → get_or ks i 0 ≤ 2 ^ 20
  range_of i h =
      let long = length-map ks pos in
      let inside = none_where (λ i. not (is_knot (get_or (map pos ks) i (pos 0)))) 0 (length (map pos ks)) i none.none_outside (omega arith) (omega arith) in
      let knot : is_knot (pos (get_or ks i 0)) ≡ true = subst (λ z. is_knot z ≡ true) (get_or-map pos ks i 0 (pos 0) h) (not-false _ inside) in
      grind (arith, nat_tests)

  none_falls : first_fall ks ≡ None
  none_falls = subst (λ l. first_fall l ≡ None) (magnitudes ks) none.none_falls

  -- from an index to one n further on, step by step
  rises_by : (n i : ℕ) → i + n < length ks → get_or ks i 0 ≤ get_or ks (i + n) 0
  rises_by zero i h = simp add-zero (omega arith)
  rises_by (suc n) i h =
      let rest = rises_by n i (omega arith) in
      let step = ltb-false _ _ (none_where (λ i. ltb (get_or ks i 0) (get_or ks (i - 1) 0)) 1 (length ks - 1) (i + suc n) none_falls (omega arith) (omega arith)) in
      let same : i + suc n - 1 ≡ i + n = omega arith in
      grind arith

  rises_of : (i j : ℕ) → i ≤ j → j < length ks → get_or ks i 0 ≤ get_or ks j 0
  rises_of i j le lt =
      let same : i + (j - i) ≡ j = omega arith in
      let up = rises_by (j - i) i (omega arith) in
      grind arith

  -- every value stands as often as it may
  repeats : (i : ℕ) → i < length ks → repeats_well d ks (get_or ks i 0) ≡ true
  repeats i h =
      let e = subst (λ l. first_ill_repeated d l ≡ None) (magnitudes ks) none.none_ill_repeated in
      not-false _ (none_where (λ i. not (repeats_well d ks (get_or ks i 0))) 0 (length ks) i e (omega arith) (omega arith))

  -- the first and the last value stand d + 1 times
  first_of : times (first_knot ks) ks ≡ d + 1
  first_of = let well = repeats 0 (omega (arith, length_of)) in grind (arith, nat_tests)

  last_of : times (last_knot ks) ks ≡ d + 1
  last_of = let well = repeats (length ks - 1) (omega (arith, length_of)) in grind (arith, nat_tests)

  -- any other value stands at most d times
  inner_of : (i : ℕ) → i < length ks → get_or ks i 0 ≢ first_knot ks → get_or ks i 0 ≢ last_knot ks → times (get_or ks i 0) ks ≤ d
  inner_of i h f l = let well = repeats i h in grind (arith, nat_tests)

  pub lawful : Lawful d count ks
  lawful = record {
    degree = degree_of;
    number = number_of;
    long = length_of;
    ranged = range_of;
    rises = rises_of;
    first = first_of;
    last = last_of;
    inner = inner_of;
  }

-- what is lawful has its end values at the first and the last d + 1 places, and nothing refuses it
module _ (d count : ℕ) (ks : List ℕ) (law : Lawful d count ks) where
  pub lawful_first : (i : ℕ) → i ≤ d → get_or ks i 0 ≡ first_knot ks
  lawful_first i h =
      ⊎_elim
      (λ (s : get_or ks i 0 ≡ first_knot ks). s)
      (λ ne.
      let long = law.long in
      let low = law.rises 0 i (omega arith) (omega arith) in
      let few = times_before (first_knot ks) ks i (λ k p q s. let r = law.rises i k p q in ne (omega arith)) in
      absurd (omega (arith, law.first)))
      (cases_eq (get_or ks i 0) (first_knot ks))

  pub lawful_last : (i : ℕ) → count ≤ i → i < length ks → get_or ks i 0 ≡ last_knot ks
  lawful_last i h lt =
      ⊎_elim
      (λ (s : get_or ks i 0 ≡ last_knot ks). s)
      (λ ne.
      let long = law.long in
      let high = law.rises i (length ks - 1) (omega arith) (omega arith) in
      let few = times_after (last_knot ks) ks (suc i) (λ k p q s. let r = law.rises k i (omega arith) lt in ne (omega arith)) in
      absurd (omega (arith, law.last)))
      (cases_eq (get_or ks i 0) (last_knot ks))

  none_outside : first_outside (map pos ks) ≡ None
  none_outside =
      let long = length-map ks pos in
      first_none (λ i. not (is_knot (get_or (map pos ks) i (pos 0)))) 0 (length (map pos ks)) (λ i low high.
      let h : i < length ks = omega arith in
      let small = law.ranged i h in
      let knot : is_knot (pos (get_or ks i 0)) ≡ true = grind (arith, nat_tests) in
      not_from_true _ (subst (λ z. is_knot z ≡ true) (sym (get_or-map pos ks i 0 (pos 0) h)) knot))

  falls_nowhere : first_fall ks ≡ None
  falls_nowhere =
      first_none (λ i. ltb (get_or ks i 0) (get_or ks (i - 1) 0)) 1 (length ks - 1) (λ i low high.
      le-ltb _ _ (law.rises (i - 1) i (omega arith) (omega arith)))

  well_repeated : (i : ℕ) → i < length ks → repeats_well d ks (get_or ks i 0) ≡ true
  well_repeated i h =
      let inner = law.inner i h in
      let first = law.first in
      let last = law.last in
      grind (arith, nat_tests)

  ill_repeated_nowhere : first_ill_repeated d ks ≡ None
  ill_repeated_nowhere =
      first_none (λ i. not (repeats_well d ks (get_or ks i 0))) 0 (length ks) (λ i low high. not_from_true _ (well_repeated i (omega arith)))

  pub unrefused : piece_refusal (pos d) count (map pos ks) ≡ None
  unrefused =
      unless_passes (is_degree (pos d)) Degree _ (let good = law.degree in grind (arith, nat_tests))
      (unless_passes (is_count d count) Count _ (let good = law.number in grind (arith, nat_tests))
      (unless_passes (eqb (length (map pos ks)) (count + d + 1)) KnotCount _ (eq-eqb _ _ (length-map ks pos ∙ law.long))
      (at_passes (first_outside (map pos ks)) KnotRange _ none_outside
      (subst (λ l. disorder d l ≡ None) (sym (magnitudes ks))
      (at_passes (first_fall ks) KnotFalls _ falls_nowhere
      (at_passes (first_ill_repeated d ks) (λ _. KnotRepeats) _ ill_repeated_nowhere refl))))))

pub refuses_the_unlawful : RefusesTheUnlawful
refuses_the_unlawful d count ks = (lawful d count ks, unrefused d count ks)
