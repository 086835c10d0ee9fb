-- Lists of coordinates: their shape, and how a kind's few numbers make one.
use Rattle.std.proofs.Common.{◌≡◌, ℕ, zero, suc, ◌<◌, ◌≤◌, Bool, true, false, not, ◌&&◌, eqb, leb, List, [], ◌∷◌, map, length, get_or, position, take, ℤ, pos, Some, None, Option, sym, refl, ap, ◌∙◌, subst, ⊎_elim, arith}
use Rattle.std.proofs.lemmas.List.FromFn.{fill_by_all}
use Rattle.std.proofs.lemmas.List.{get_or_past}
use Rattle.std.proofs.lemmas.Bool.{and_parts, le-leb, not_from_true, leb-true, eq-eqb, eqb-true, not-false, cases_lt}
use Rattle.grid.specs.Blend.{IsCoordinate}
use Rattle.refusals.specs.Order.{unless, at}
use Rattle.refusals.proofs.Orders.{some_none, unless_passed, at_passed, unless_passes, at_passes}
use Rattle.grid.specs.Search.{first_where}
use Rattle.grid.proofs.Searches.{first_none, none_where, first_within, position_is_first}
use Rattle.refusals.specs.declared.point.PointFault.{PointFault}
use Rattle.refusals.specs.declared.point.PointFault.TheVariants.{Count, Range, Test}
use Rattle.refusals.specs.Causes.{point_report}
use Rattle.grid.specs.Blend.{is_coordinate}
use Rattle.points.specs.Lists.{IsPoint, coordinates, misshapen, point_refusal, RefusesWhatIsNoPoint}
use Rattle.points.specs.Stored.{clamped}
use Rattle.points.proofs.Clamping.{clamped_coordinate}

-- a list is made of its own elements
pub rebuilt : (n : ℕ) (xs : List ℤ) → length xs ≡ n → coordinates n xs ≡ xs
rebuilt n xs e = sym (fill_by_all (λ k. get_or xs k (pos 0)) xs n (pos 0) e (λ k h. refl))

-- the coordinates of a list, one by one; past the last one 0 stands, a coordinate too
pub ranged_none : (i : ℕ) → IsCoordinate (get_or [] i (pos 0))
ranged_none zero = omega arith
ranged_none (suc i) = omega arith

pub ranged_more : (x : ℤ) (xs : List ℤ) → IsCoordinate x → ((i : ℕ) → IsCoordinate (get_or xs i (pos 0))) → (i : ℕ) → IsCoordinate (get_or (x ∷ xs) i (pos 0))
ranged_more x xs h r zero = h
ranged_more x xs h r (suc i) = r i

pub clamped_ranged : (zs : List ℤ) (i : ℕ) → IsCoordinate (get_or (map clamped zs) i (pos 0))
clamped_ranged [] = ranged_none
clamped_ranged (z ∷ zs) = ranged_more (clamped z) (map clamped zs) (clamped_coordinate z) (clamped_ranged zs)

-- a coordinate out of range
abbrev pub out : List ℤ → ℕ → Bool
out xs i = not (is_coordinate (get_or xs i (pos 0)))

-- the shape of a list of the right length is told by its first coordinate out of range
pub first_out : (xs : List ℤ) (width : ℕ) (after : Option PointFault) → length xs ≡ width → misshapen width xs after ≡ at (position (λ x. not (is_coordinate x)) xs) Range after
first_out xs width after e =
    ap (λ t. unless t Count (at (first_where (out xs) 0 (length xs)) Range after)) (eq-eqb (length xs) width e)
    ∙ ap (λ o. at o Range after) (sym (position_is_first (λ x. not (is_coordinate x)) xs (pos 0)))

pub all_ranged : (xs : List ℤ) → first_where (out xs) 0 (length xs) ≡ None → (i : ℕ) → IsCoordinate (get_or xs i (pos 0))
all_ranged xs none i =
    ⊎_elim
    (λ (l : i < length xs). leb-true _ _ (not-false _ (none_where (out xs) 0 (length xs) i none (omega arith) (omega arith))))
    (λ (g : length xs ≤ i). subst IsCoordinate (sym (get_or_past xs i (pos 0) g)) (omega arith))
    (cases_lt i (length xs))

same_place : (f g : PointFault) (n : ℕ) → Some f ≡ Some g → (point_report f).place ≤ n → (point_report g).place ≤ n
same_place f g n e h = let s : f ≡ g = cc in subst (λ v. (point_report v).place ≤ n) s h

failed_place : (long : Bool) (wild : Option ℕ) (passed : Bool) (fault : PointFault) (n : ℕ) → ((i : ℕ) → long ≡ true → wild ≡ Some i → i ≤ n)
    → unless long Count (at wild Range (unless passed Test None)) ≡ Some fault → (point_report fault).place ≤ n
failed_place true None true fault n h e = absurd (some_none (sym e))
failed_place true None false fault n h e = same_place Test fault n e (omega arith)
failed_place true (Some i) passed fault n h e = same_place (Range i) fault n e (h i refl refl)
failed_place false wild passed fault n h e = same_place Count fault n e (omega arith)

module _ (width : ℕ) (passes : List ℤ → Bool) (xs : List ℤ) where
  -- a list that nothing refuses is a point
  pub accepted : point_refusal width passes xs ≡ None → IsPoint width passes xs
  accepted e =
      let long = unless_passed (eqb (length xs) width) Count _ e in
      let inside = at_passed (first_where (out xs) 0 (length xs)) Range _ long.1 in
      let passing = unless_passed (passes xs) Test None inside.1 in
      record {
        long = eqb-true _ _ long.0;
        ranged = all_ranged xs inside.0;
        passed = passing.0;
      }

  -- and nothing refuses a point
  unrefused : IsPoint width passes xs → point_refusal width passes xs ≡ None
  unrefused p =
      unless_passes (eqb (length xs) width) Count _ (eq-eqb _ _ p.long)
      (at_passes (first_where (out xs) 0 (length xs)) Range _ (first_none (out xs) 0 (length xs) (λ k low high. not_from_true _ (le-leb _ _ (p.ranged k))))
      (unless_passes (passes xs) Test None p.passed refl))

  -- the place of a fault lies within the list
  pub fault_place : (fault : PointFault) → point_refusal width passes xs ≡ Some fault → (point_report fault).place ≤ width
  fault_place fault e =
      failed_place (eqb (length xs) width) (first_where (out xs) 0 (length xs)) (passes xs) fault width
      (λ i t f. let l = first_within (out xs) 0 (length xs) i f in let n = eqb-true _ _ t in omega arith) e

pub refuses_what_is_no_point : RefusesWhatIsNoPoint
refuses_what_is_no_point width passes xs = (accepted width passes xs, unrefused width passes xs)

-- a width that the test lets through is 1 to 4
pub narrow_by : (width : ℕ) → (leb 1 width && leb width 4) ≡ true → (1 ≤ width) × (width ≤ 4)
narrow_by width e = let parts = and_parts (leb 1 width) (leb width 4) e in (leb-true _ _ parts.0, leb-true _ _ parts.1)

-- what is taken from the front of a list is a point where it is one
pub taken_point : (width n : ℕ) (passes : List ℤ → Bool) (xs zs : List ℤ) → n ≡ width → take width zs ≡ xs → IsPoint width passes xs → IsPoint width passes (take n zs) × (coordinates width (take n zs) ≡ take n zs)
taken_point width n passes xs zs all e p =
    let same : take n zs ≡ xs = ap (λ m. take m zs) all ∙ e in
    let point = subst (IsPoint width passes) (sym same) p in
    (point, rebuilt width (take n zs) point.long)
