-- The blend of two points, coordinate by coordinate.
use Rattle.std.proofs.Common.{◌≡◌, ℕ, zero, suc, ◌+◌, ◌<◌, Bool, true, false, ◌||◌, ◌≤◌, List, [], ◌∷◌, length, take, drop, set, ℤ, pos, sym, refl, ap, ◌∙◌, subst, ⊎_elim, arith}
use lib.ListN.{length-set}
use Rattle.std.proofs.lemmas.Grind.{get_or-set_at}
use Rattle.std.proofs.lemmas.List.{at_drop_more, ext_get_or, get_or-set_other, get_or-take, length-take-le}
use borrow.Author.Differences.{ints}
use Rattle.std.proofs.lemmas.Int.{clamps}
use Rattle.std.proofs.lemmas.Bool.{cases_eq, or_parts}
use Rattle.grid.specs.Blend.{IsCoordinate, IsRatio, blended, inexact}
use Rattle.grid.proofs.Blends.{lawful, coordinate}
use Rattle.points.specs.Lists.{IsPoint, blend_point, inexact_point}
use Rattle.points.specs.Boxes.{coordinate_of}

module _ (a b : ℕ) (ratio : IsRatio a b) where
  -- the blend of 0 with itself, which stands past the last coordinate
  zero_blend : blended (pos 0) (pos 0) a b ≡ pos 0
  zero_blend =
      let law = lawful (pos 0) (pos 0) a b ratio in
      let lo = law.low in
      let hi = law.high in
      omega (arith, ints, clamps)

  zero_exact : inexact (pos 0) (pos 0) a b ≡ false
  zero_exact = (lawful (pos 0) (pos 0) a b ratio).divisible (pos 0) (omega (arith, ints))

  pub blend_coordinate : (c : ℕ) (xs ys : List ℤ) → length xs ≡ length ys → coordinate_of c (blend_point a b xs ys) ≡ blended (coordinate_of c xs) (coordinate_of c ys) a b
  blend_coordinate c [] [] e = sym zero_blend
  blend_coordinate c [] (y ∷ ys) e = absurd (omega arith)
  blend_coordinate c (x ∷ xs) [] e = absurd (omega arith)
  blend_coordinate zero (x ∷ xs) (y ∷ ys) e = refl
  blend_coordinate (suc c) (x ∷ xs) (y ∷ ys) e = blend_coordinate c xs ys (omega arith)

  pub blend_length : (xs ys : List ℤ) → length xs ≡ length ys → length (blend_point a b xs ys) ≡ length xs
  blend_length [] [] e = refl
  blend_length [] (y ∷ ys) e = absurd (omega arith)
  blend_length (x ∷ xs) [] e = absurd (omega arith)
  blend_length (x ∷ xs) (y ∷ ys) e = ap suc (blend_length xs ys (omega arith))

  -- where a blend of points is exact, so is that of each coordinate
  pub exact_coordinate : (c : ℕ) (xs ys : List ℤ) → length xs ≡ length ys → inexact_point a b xs ys ≡ false → inexact (coordinate_of c xs) (coordinate_of c ys) a b ≡ false
  exact_coordinate c [] [] e h = zero_exact
  exact_coordinate c [] (y ∷ ys) e h = absurd (omega arith)
  exact_coordinate c (x ∷ xs) [] e h = absurd (omega arith)
  exact_coordinate zero (x ∷ xs) (y ∷ ys) e h = (or_parts (inexact_point a b xs ys) (inexact x y a b) h).1
  exact_coordinate (suc c) (x ∷ xs) (y ∷ ys) e h = exact_coordinate c xs ys (omega arith) (or_parts (inexact_point a b xs ys) (inexact x y a b) h).0

  -- whether a blend is inexact from coordinate i on
  pub inexact_from : (xs ys : List ℤ) (i : ℕ) → i < length xs → i < length ys
      → inexact_point a b (drop i xs) (drop i ys) ≡ (inexact_point a b (drop (i + 1) xs) (drop (i + 1) ys) || inexact (coordinate_of i xs) (coordinate_of i ys) a b)
  inexact_from xs ys i h k =
      at_drop_more (λ l. inexact_point a b l (drop i ys)) xs i (pos 0) h
      ∙ at_drop_more (λ l. inexact_point a b (coordinate_of i xs ∷ drop (i + 1) xs) l) ys i (pos 0) k

  -- a blend of points that passes the test of their kind is a point
  pub blend_is_point : (width : ℕ) (passes : List ℤ → Bool) (xs ys : List ℤ) → IsPoint width passes xs → IsPoint width passes ys → passes (blend_point a b xs ys) ≡ true
      → IsPoint width passes (blend_point a b xs ys)
  blend_is_point width passes xs ys p q passed =
      let same : length xs ≡ length ys = p.long ∙ sym q.long in
      record {
        long = blend_length xs ys same ∙ p.long;
        ranged = λ i. subst IsCoordinate (sym (blend_coordinate i xs ys same)) (coordinate (coordinate_of i xs) (coordinate_of i ys) a b ratio (p.ranged i) (q.ranged i));
        passed = passed;
      }

  -- The blends of xs and ys from coordinate i on, of so many, stand among the means, and it is told whether one of them is inexact.
  pub record Made (width : ℕ) (xs ys : List ℤ) (i : ℕ) (means : List ℤ) (rough : Bool) : Type 0 where
    pub within : i ≤ width
    pub room : width ≤ length means
    pub made : (k : ℕ) → i ≤ k → k < width → coordinate_of k means ≡ blended (coordinate_of k xs) (coordinate_of k ys) a b
    pub told : rough ≡ inexact_point a b (drop i xs) (drop i ys)

  module _ (width : ℕ) (xs ys : List ℤ) (long : length xs ≡ width) (same : length xs ≡ length ys) where
    -- the blend of the coordinate before joins them
    pub one_more : (j i : ℕ) (means : List ℤ) (mean : ℤ) (rough flag : Bool) → i + 1 ≡ j → Made width xs ys j means rough → mean ≡ blended (coordinate_of i xs) (coordinate_of i ys) a b
        → flag ≡ inexact (coordinate_of i xs) (coordinate_of i ys) a b → Made width xs ys i (set means i mean) (rough || flag)
    one_more j i means mean rough flag next m value f =
        let room : i < length means = omega (arith, m.within, m.room) in
        record {
          within = omega (arith, m.within);
          room = subst (λ n. width ≤ n) (sym (length-set means i mean)) m.room;
          made = λ k h l. ⊎_elim
              (λ (e : k ≡ i). get_or-set_at means i k mean (pos 0) e room ∙ value ∙ ap (λ n. blended (coordinate_of n xs) (coordinate_of n ys) a b) (sym e))
              (λ ne. get_or-set_other means i k mean (pos 0) ne ∙ m.made k (omega arith) l)
              (cases_eq k i);
          told = ap (λ v. v || flag) (m.told ∙ ap (λ n. inexact_point a b (drop n xs) (drop n ys)) (sym next))
              ∙ ap (λ v. inexact_point a b (drop (i + 1) xs) (drop (i + 1) ys) || v) f ∙ sym (inexact_from xs ys i (omega (arith, m.within)) (omega (arith, m.within)));
        }

    -- with the first one all are made
    pub all_made : (i : ℕ) (means : List ℤ) (rough : Bool) → i ≤ 0 → Made width xs ys i means rough → (take width means ≡ blend_point a b xs ys) × (rough ≡ inexact_point a b xs ys)
    all_made i means rough z m =
        let first : i ≡ 0 = omega arith in
        let whole : length (take width means) ≡ width = length-take-le width means m.room in (
          ext_get_or (pos 0) (take width means) (blend_point a b xs ys) (whole ∙ sym (blend_length xs ys same ∙ long)) (λ k h.
              let l : k < width = omega arith in
              get_or-take width means k (pos 0) l ∙ m.made k (omega arith) l ∙ sym (blend_coordinate k xs ys same)),
          m.told ∙ ap (λ n. inexact_point a b (drop n xs) (drop n ys)) first,
        )
