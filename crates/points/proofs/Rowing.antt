-- Rows of lists, one list after another.
use Rattle.std.proofs.Common.{◌≡◌, ℕ, zero, suc, ◌+◌, ◌<◌, Bool, List, [], ◌∷◌, map, length, get_or, ℤ, Some, None, Option, Bor, sym, refl, subst, arith}
use Rattle.std.proofs.lemmas.List.{get_or-map, length-map}
use Rattle.refusals.specs.declared.point.PointFault.{PointFault}
use Rattle.points.specs.Lists.{IsPoint, coordinates, point_refusal}
use Rattle.points.specs.Rows.{or_else, row_refusal}
use Rattle.points.proofs.Shapes.{accepted, rebuilt}

module _ (width : ℕ) (passes : List ℤ → Bool) where
  first_point : (before : ℕ) (o : Option PointFault) (rest : Option PointFault) → or_else before o rest ≡ None → (o ≡ None) × (rest ≡ None)
  first_point before None rest e = (refl, e)
  first_point before (Some fault) rest e = let bad : ◌≡◌ {A = ℕ} 0 1 = cc in absurd (omega arith)

  -- each list of a row that nothing refuses is a point
  pub row_points : (before : ℕ) (lists : List (List ℤ)) → row_refusal width passes before lists ≡ None → (i : ℕ) → i < length lists → IsPoint width passes (get_or lists i [])
  row_points before [] e i h = absurd (omega arith)
  row_points before (xs ∷ lists) e zero h = accepted width passes xs (first_point before (point_refusal width passes xs) _ e).0
  row_points before (xs ∷ lists) e (suc i) h = row_points (before + length xs) lists (first_point before (point_refusal width passes xs) _ e).1 i (omega arith)

-- the same of lists that are lent
pub lent_point : (width : ℕ) (passes : List ℤ → Bool) (lists : List (Bor (List ℤ))) (none : Bor (List ℤ)) (i : ℕ) → row_refusal width passes 0 (map (λ x. x.now) lists) ≡ None → i < length lists
    → IsPoint width passes (get_or lists i none).now
lent_point width passes lists none i e h =
    let l : i < length (map (λ x. x.now) lists) = subst (λ n. i < n) (sym (length-map lists (λ x. x.now))) h in
    subst (IsPoint width passes) (get_or-map (λ x. x.now) lists i none [] h) (row_points width passes 0 (map (λ x. x.now) lists) e i l)

pub lent_listed : (width : ℕ) (passes : List ℤ → Bool) (lists : List (Bor (List ℤ))) (none : Bor (List ℤ)) (i : ℕ) → row_refusal width passes 0 (map (λ x. x.now) lists) ≡ None → i < length lists
    → coordinates width (get_or lists i none).now ≡ (get_or lists i none).now
lent_listed width passes lists none i e h = rebuilt width (get_or lists i none).now (lent_point width passes lists none i e h).long
