-- The span of a parameter, as the part of the knots at which the search for it stops.
use Rattle.std.proofs.Common.{◌≡◌, ℕ, suc, ◌+◌, ◌-◌, ◌<◌, ◌≤◌, true, false, leb, List, length, get_or, take, drop, sym, ◌∙◌, arith}
use Rattle.std.proofs.lemmas.Bool.Decides.{nat_tests}
use Rattle.std.proofs.lemmas.Bool.{le-leb, lt-leb}
use Rattle.std.proofs.lemmas.List.{get_or-drop, get_or-take, length-drop, length-take-le}
use Rattle.std.proofs.lemmas.List.Sorted.{IsNonDecreasingBy-from_default, IsNonDecreasingBy-drop, IsNonDecreasingBy-take, IsPartitionedBy-leb}
use Rattle.std.specs.List.Sorted.{IsPartitionedBy, IsPartitionPoint}
use Rattle.grid.proofs.Searches.{last_found}
use Rattle.knots.specs.Lawful.{Lawful, first_knot, last_knot}
use Rattle.knots.specs.Spans.{span_of, Span}
use Rattle.knots.proofs.Lawfuls.{lawful_first, lawful_last}

module _ {d count : ℕ} {ks : List ℕ} (lawful : Lawful d count ks) where
  -- the knots after the first d + 1 and before the last d + 1
  abbrev pub inner_knots : List ℕ
  inner_knots = take (count - (d + 1)) (drop (d + 1) ks)

  -- they do not fall, so those that are at most u come first
  pub inner_partitioned : (u : ℕ) → IsPartitionedBy (λ k. leb k u) inner_knots
  inner_partitioned u =
      IsPartitionedBy-leb (λ k. k) _ u (IsNonDecreasingBy-take (λ k. k) (count - (d + 1)) _ (IsNonDecreasingBy-drop (λ k. k) (d + 1) ks (IsNonDecreasingBy-from_default (λ k. k) ks 0 lawful.rises)))

  inner_length : length inner_knots ≡ count - (d + 1)
  inner_length = length-take-le (count - (d + 1)) (drop (d + 1) ks) (omega (arith, length-drop (d + 1) ks, lawful.long))

  inner_at : (i : ℕ) → i < count - (d + 1) → get_or inner_knots i 0 ≡ get_or ks (d + 1 + i) 0
  inner_at i h = get_or-take (count - (d + 1)) (drop (d + 1) ks) i 0 h ∙ get_or-drop (d + 1) ks i 0

  -- r of them are at most u
  module _ {u r : ℕ} (low : first_knot ks ≤ u) (high : u < last_knot ks) (few : r ≤ length inner_knots) (parted : IsPartitionPoint (λ k. leb k u ≡ true) (λ k. leb k u ≡ false) inner_knots r) where
    bound : r ≤ count - (d + 1)
    bound = omega (arith, inner_length)

    at_most : get_or ks (d + r) 0 ≤ u
    at_most =
        let b = bound in
        let first = lawful_first d count ks lawful (d + r) in
        let last = inner_at (r - 1) in
        let test = parted.0 (r - 1) 0 (omega arith) in
        grind (arith, nat_tests)

    above : u < get_or ks (suc (d + r)) 0
    above =
        let b = bound in
        let number = lawful.number in
        let long = lawful.long in
        let inside = inner_at r in
        let last = lawful_last d count ks lawful (suc (d + r)) in
        let test = parted.1 r 0 (omega arith) in
        grind (arith, nat_tests, inner_length)

    pub span_held : Span d count ks u (d + r)
    span_held = record { low = at_most; high = above; deep = omega arith; within = omega (arith, bound, lawful.number) }

    pub span_value : d + r ≡ span_of ks u
    span_value =
        let long = lawful.long in
        let number = lawful.number in
        let b = bound in
        sym (last_found (λ i. leb (get_or ks i 0) u) (length ks) (d + r) (omega arith) (le-leb _ _ at_most) (λ j p q.
        let up = lawful.rises (suc (d + r)) j p q in
        let past = above in
        lt-leb _ _ (omega arith)))
