-- The steps by which knots are judged and stored.
use Rattle.std.proofs.Common.{◌≡◌, ℕ, suc, ◌+◌, ◌-◌, ◌<◌, ◌≤◌, true, false, not, ltb, List, ◌++◌, map, length, get_or, take, set, replicate, ℤ, pos, negsuc, nat_abs, Some, None, sym, refl, ◌∙◌, arith}
use Rattle.std.proofs.lemmas.List.{append_assoc, ext_get_or, get_or-map, length-map, length-take-le, map_more, set_at}
use Rattle.std.specs.List.{list_all}
use Rattle.std.proofs.lemmas.List.Elements.{All-get_or, All-from_get_or}
use Rattle.std.proofs.lemmas.List.Sums.{AllPass-from_list_all, list_all-from_AllPass}
use Rattle.std.proofs.lemmas.Bool.{lt-ltb, not-false, not_from_true, not_from_false}
use Rattle.grid.proofs.Searches.{first_none, first_found, none_where}
use Rattle.knots.specs.Lawful.{is_knot, repeats_well, first_outside, first_fall, first_ill_repeated}

-- the first knot out of range
module _ (knots : List ℤ) (i : ℕ) (passed : (k : ℕ) → k < i → is_knot (get_or knots k (pos 0)) ≡ true) where
  pub outside_found : i < length knots → is_knot (get_or knots i (pos 0)) ≡ false → first_outside knots ≡ Some i
  outside_found h e =
      first_found (λ k. not (is_knot (get_or knots k (pos 0)))) 0 (length knots) i (omega arith) (omega arith) (λ k _ l. not_from_true _ (passed k l)) (not_from_false _ e)

  pub outside_none : length knots ≤ i → first_outside knots ≡ None
  outside_none h = first_none (λ k. not (is_knot (get_or knots k (pos 0)))) 0 (length knots) (λ k _ l. not_from_true _ (passed k (omega arith)))

-- the first knot below the one before
module _ (ks : List ℕ) (i : ℕ) (passed : (k : ℕ) → 1 ≤ k → k < i → ltb (get_or ks k 0) (get_or ks (k - 1) 0) ≡ false) where
  pub fall_found : 1 ≤ i → i < length ks → get_or ks i 0 < get_or ks (i - 1) 0 → first_fall ks ≡ Some i
  fall_found p h l =
      first_found (λ k. ltb (get_or ks k 0) (get_or ks (k - 1) 0)) 1 (length ks - 1) i p (omega arith) passed (lt-ltb (get_or ks i 0) (get_or ks (i - 1) 0) l)

  pub fall_none : length ks ≤ i → first_fall ks ≡ None
  fall_none h = first_none (λ k. ltb (get_or ks k 0) (get_or ks (k - 1) 0)) 1 (length ks - 1) (λ k a b. passed k a (omega arith))

-- no value that stands too often or too seldom, or the first
module _ (d : ℕ) (ks : List ℕ) where
  pub none_ill : list_all (repeats_well d ks) ks ≡ true → first_ill_repeated d ks ≡ None
  none_ill e =
      let passed = AllPass-from_list_all (repeats_well d ks) ks e in
      first_none (λ k. not (repeats_well d ks (get_or ks k 0))) 0 (length ks) (λ k _ l. not_from_true _ (All-get_or (λ x. repeats_well d ks x ≡ true) ks k 0 (omega arith) passed))

  pub some_ill : list_all (repeats_well d ks) ks ≡ false → (i : ℕ) × (first_ill_repeated d ks ≡ Some i)
  some_ill e =
      elim (first_ill_repeated d ks) as (λ o. first_ill_repeated d ks ≡ o → (i : ℕ) × (o ≡ Some i)) [
        | None ↦ λ none.
            let passed = All-from_get_or (λ x. repeats_well d ks x ≡ true) ks 0 (λ k l.
            not-false _ (none_where (λ k. not (repeats_well d ks (get_or ks k 0))) 0 (length ks) k none (omega arith) (omega arith))) in
            let all = list_all-from_AllPass (repeats_well d ks) ks passed in
            cc
        | Some i ↦ λ _. (i, refl)
      ] refl

-- a knot is a whole number from 0 up
magnitude : (z : ℤ) → is_knot z ≡ true → z ≡ pos (nat_abs z)
magnitude (pos n) e = refl
magnitude (negsuc n) e = cc

module _ (knots : List ℤ) where
  -- room for n knots of which i are stored
  abbrev stored : ℕ → ℕ → List ℕ
  stored n i = map nat_abs (take i knots) ++ replicate (n - i) 0

  pub store_more : (n i k : ℕ) → i < length knots → length knots ≤ n → get_or knots i (pos 0) ≡ pos k → set (stored n i) i k ≡ stored n (i + 1)
  store_more n i k h m e =
      let room : n - i ≡ suc (n - (i + 1)) = omega arith in
      let more = map_more nat_abs knots i (pos 0) h in
      rw (room, more, e) (grind (arith, set_at {A = ℕ}, append_assoc {A = ℕ}, length-map {A = ℤ} {B = ℕ}, length-take-le {A = ℤ}))

  module _ (passed : (k : ℕ) → k < length knots → is_knot (get_or knots k (pos 0)) ≡ true) where
    pub kept_by_magnitudes : knots ≡ map pos (map nat_abs knots)
    kept_by_magnitudes =
        let long = length-map knots nat_abs in
        ext_get_or (pos 0) knots (map pos (map nat_abs knots)) (sym (length-map (map nat_abs knots) pos ∙ long)) (λ i h.
        let whole = magnitude (get_or knots i (pos 0)) (passed i h) in
        grind (arith, get_or-map nat_abs knots i (pos 0) 0 h, get_or-map pos (map nat_abs knots) i 0 (pos 0)))
