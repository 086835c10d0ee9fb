-- Rows of points as what they tell.
use Rattle.std.proofs.Common.{◌≡◌, ℕ, zero, suc, ◌<◌, List, [], ◌∷◌, map, length, get_or, ℤ, sym, ap, ◌∙◌, arith}
use Rattle.std.proofs.lemmas.List.{get_or-map}

-- what the element that was read at i tells
pub told_at : {X Y : Type 0} (f : X → Y) (xs : List X) (i : ℕ) (x : X) (e : Y) → i < length xs → x ≡ get_or xs i x → f x ≡ get_or (map f xs) i e
told_at f xs i x e h r = ap f r ∙ sym (get_or-map f xs i x e h)

-- where every element tells a list of one length, so does each place of the row
pub told_widths : {X : Type 0} (f : X → List ℤ) (width : ℕ) → ((x : X) → length (f x) ≡ width) → (xs : List X) (i : ℕ) → i < length xs
    → length (get_or (map f xs) i []) ≡ width
told_widths f width h [] i l = absurd (omega arith)
told_widths f width h (x ∷ xs) zero l = h x
told_widths f width h (x ∷ xs) (suc i) l = told_widths f width h xs i (omega arith)
