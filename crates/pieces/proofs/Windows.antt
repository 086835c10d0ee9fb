-- The knots and control points that govern the parameters of a span, as parts of those of a lawful piece.
use Rattle.std.proofs.Common.{◌≡◌, ℕ, suc, ◌+◌, ◌-◌, ◌<◌, ◌≤◌, List, [], map, length, get_or, take, drop, ℤ, sym, ap, ◌∙◌, arith, length-drop, length-take}
use Rattle.std.proofs.lemmas.List.{get_or-take, get_or-drop, take-map, drop-map}
use Rattle.knots.specs.Lawful.{Lawful}
use Rattle.knots.specs.Spans.{Span}
use Rattle.pieces.specs.Around.{Around}
use Rattle.pieces.specs.Triangle.{de_boor}
use Rattle.pieces.proofs.Shifts.{de_boor_shifted}

-- element j of the part of n elements from m on
part_at : {X : Type 0} (xs : List X) (m n j : ℕ) (none : X) → j < n → get_or (take n (drop m xs)) j none ≡ get_or xs (m + j) none
part_at xs m n j none h = get_or-take n (drop m xs) j none h ∙ get_or-drop m xs j none

-- up to the index of its span the knots are at most the parameter, and the next d are above it
pub knot_low : {d count : ℕ} {ks : List ℕ} {u k : ℕ} → Lawful d count ks → Span d count ks u k → (i : ℕ) → i ≤ k → get_or ks i 0 ≤ u
knot_low {k = k} law span i h =
    let l = law.long in
    let w = span.within in
    let r = law.rises i k h (omega arith) in
    let s = span.low in
    omega arith

pub knot_high : {d count : ℕ} {ks : List ℕ} {u k : ℕ} → Lawful d count ks → Span d count ks u k → (i : ℕ) → k < i → i ≤ k + d → u < get_or ks i 0
knot_high {k = k} law span i h g =
    let l = law.long in
    let w = span.within in
    let r = law.rises (suc k) i h (omega arith) in
    let s = span.high in
    omega arith

-- so the part lies around it as the triangle asks
pub around : (d count : ℕ) (ks : List ℕ) (u k : ℕ) → Lawful d count ks → Span d count ks u k → Around d (take (k + d + 1 - (k - d)) (drop (k - d) ks)) u
around d count ks u k law span =
    let m = k - d in
    let n = k + d + 1 - m in
    let deep = span.deep in
    let within = span.within in
    let long = law.long in
    let size : length (take n (drop m ks)) ≡ n = simp (length-take, length-drop) (omega arith) in
    record {
      degree = law.degree;
      long = omega arith;
      below = λ j a b. rw (part_at ks m n j 0 (omega arith)) (knot_low law span (m + j) (omega arith));
      above = λ j a b.
          let e = part_at ks m n j 0 (omega arith) in
          let h = knot_high law span (m + j) (omega arith) (omega arith) in
          let t = law.ranged (m + j) (omega arith) in
          (omega arith, omega arith);
    }

-- the triangle over the parts is that over all
pub governed : {X : Type 0} (told : X → List ℤ) (d : ℕ) (ks : List ℕ) (xs : List X) (u k : ℕ) → d ≤ k
    → de_boor d (take (k + d + 1 - (k - d)) (drop (k - d) ks)) (map told (take (k + 1 - (k - d)) (drop (k - d) xs))) u d ≡ de_boor d ks (map told xs) u k
governed told d ks xs u k deep =
    let m = k - d in
    let n = k + 1 - m in
    let ends : m + d ≡ k = omega arith in
    let part : map told (take n (drop m xs)) ≡ take n (drop m (map told xs)) = sym (take-map told n (drop m xs)) ∙ ap (take n) (sym (drop-map told m xs)) in
    ap (λ v. de_boor d (take (k + d + 1 - m) (drop m ks)) v u d) part
    ∙ de_boor_shifted d ks (take (k + d + 1 - m) (drop m ks)) (map told xs) (take n (drop m (map told xs))) u m
    (λ j h. part_at ks m (k + d + 1 - m) j 0 (omega arith))
    (λ j h. part_at (map told xs) m n j [] (omega arith))
    ∙ ap (de_boor d ks (map told xs) u) ends
