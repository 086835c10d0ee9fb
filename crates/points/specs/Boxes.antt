-- The box of points: in each coordinate it spans from the least to the greatest of them.
use Rattle.std.specs.Prelude.{◌≡◌, ℕ, ◌<◌, ◌≤◌, List, [], ◌∷◌, length, ℤ, pos, ◌≤ℤ◌, slice_index_or}
use Rattle.std.specs.Int.{int_min, int_max}

-- coordinate c of a point; 0 past the last
abbrev pub coordinate_of : ℕ → List ℤ → ℤ
coordinate_of c p = slice_index_or p c (pos 0)

-- what is picked, two by two, of the coordinates c of points; 0 where there are no points
abbrev pub picked : (ℤ → ℤ → ℤ) → ℕ → List (List ℤ) → ℤ
picked pick c [] = pos 0
picked pick c (p ∷ []) = coordinate_of c p
picked pick c (p ∷ (q ∷ ps)) = pick (coordinate_of c p) (picked pick c (q ∷ ps))

-- the least and the greatest coordinate c of points
abbrev pub least : ℕ → List (List ℤ) → ℤ
least = picked int_min

abbrev pub greatest : ℕ → List (List ℤ) → ℤ
greatest = picked int_max

-- a point lies in the box of ps
abbrev pub InBox : List (List ℤ) → List ℤ → Type 0
InBox ps p = (c : ℕ) → (least c ps ≤ℤ coordinate_of c p) × (coordinate_of c p ≤ℤ greatest c ps)

-- The box fits: each point lies in it, and in each coordinate some point lies at either end.
pub record Fits (c : ℕ) (ps : List (List ℤ)) : Type 0 where
  pub holds : (i : ℕ) → i < length ps → (least c ps ≤ℤ coordinate_of c (slice_index_or ps i [])) × (coordinate_of c (slice_index_or ps i []) ≤ℤ greatest c ps)
  pub lowest : (i : ℕ) × (i < length ps) × (coordinate_of c (slice_index_or ps i []) ≡ least c ps)
  pub highest : (i : ℕ) × (i < length ps) × (coordinate_of c (slice_index_or ps i []) ≡ greatest c ps)

abbrev pub BoxFitsItsPoints : Type 0
BoxFitsItsPoints = (c : ℕ) (ps : List (List ℤ)) → 1 ≤ length ps → Fits c ps
