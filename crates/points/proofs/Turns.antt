-- A flip done twice: where each turn leads back to the coordinate that it fills, the point is restored.
use Rattle.std.proofs.Common.{◌≡◌, ℕ, zero, suc, ◌+◌, ◌<◌, Bool, true, false, cond, ◌&&◌, eqb, ltb, List, [], ◌∷◌, length, get_or, ℤ, pos, neg_ℤ, sym, refl, ap, ◌∙◌, subst, arith}
use mathlib.Core.Bool.{beq}
use Rattle.std.specs.Cmp.{booleans_Decides}
use Rattle.std.proofs.Math.IntN.{neg_ℤ-neg_ℤ}
use Rattle.std.proofs.lemmas.Bool.{and_parts, eqb-true, ltb-true}
use Rattle.std.proofs.lemmas.List.{ext_get_or, get_or-map, length-map}
use Rattle.points.specs.Lists.{IsPoint, Turn, kept, turned, flipped}

-- the turn that fills the source of t fills it from coordinate i, and both negate or neither does
abbrev leads_back : List Turn → ℕ → Turn → Bool
leads_back turns i t = ltb t.from (length turns) && (eqb (get_or turns t.from (kept 0)).from i && beq (get_or turns t.from (kept 0)).negative t.negative)

abbrev pub all_lead_back : List Turn → ℕ → List Turn → Bool
all_lead_back turns i [] = true
all_lead_back turns i (t ∷ ts) = leads_back turns i t && all_lead_back turns (suc i) ts

-- so it is of each
at_index : (turns : List Turn) (i : ℕ) (ts : List Turn) → all_lead_back turns i ts ≡ true → (k : ℕ) → k < length ts → leads_back turns (i + k) (get_or ts k (kept 0)) ≡ true
at_index turns i [] e k h = absurd (omega arith)
at_index turns i (t ∷ ts) e zero h =
    let here : i ≡ i + 0 = omega arith in
    subst (λ n. leads_back turns n t ≡ true) here (and_parts (leads_back turns i t) (all_lead_back turns (suc i) ts) e).0
at_index turns i (t ∷ ts) e (suc k) h =
    let next : suc i + k ≡ i + suc k = omega arith in
    subst (λ n. leads_back turns n (get_or ts k (kept 0)) ≡ true) next (at_index turns (suc i) ts (and_parts (leads_back turns i t) (all_lead_back turns (suc i) ts) e).1 k (omega arith))

twice : (negative : Bool) (x : ℤ) → cond negative (neg_ℤ (cond negative (neg_ℤ x) x)) (cond negative (neg_ℤ x) x) ≡ x
twice true x = neg_ℤ-neg_ℤ x
twice false x = refl

-- what stands at the source of t, turned as t turns it
turned_back : (turns : List Turn) (xs : List ℤ) (k : ℕ) (t : Turn) → leads_back turns k t ≡ true → turned t (flipped turns xs) ≡ get_or xs k (pos 0)
turned_back turns xs k t e =
    let back = get_or turns t.from (kept 0) in
    let parts = and_parts (ltb t.from (length turns)) _ e in
    let rest = and_parts (eqb back.from k) (beq back.negative t.negative) parts.1 in
    let source : get_or (flipped turns xs) t.from (pos 0) ≡ turned back xs = get_or-map (λ u. turned u xs) turns t.from (kept 0) (pos 0) (ltb-true _ _ parts.0) in
    let value : turned back xs ≡ cond t.negative (neg_ℤ (get_or xs k (pos 0))) (get_or xs k (pos 0)) =
    ap (λ n. cond back.negative (neg_ℤ (get_or xs n (pos 0))) (get_or xs n (pos 0))) (eqb-true _ _ rest.0) ∙ ap (λ s. cond s (neg_ℤ (get_or xs k (pos 0))) (get_or xs k (pos 0))) ((booleans_Decides _ _).0 rest.1) in
    ap (λ z. cond t.negative (neg_ℤ z) z) (source ∙ value) ∙ twice t.negative (get_or xs k (pos 0))

-- The law of a kind whose turns all lead back.
pub restores_by : (turns : List Turn) (passes : List ℤ → Bool) → all_lead_back turns 0 turns ≡ true → (xs : List ℤ) → IsPoint (length turns) passes xs → flipped turns (flipped turns xs) ≡ xs
restores_by turns passes e xs p =
    let long : length (flipped turns (flipped turns xs)) ≡ length turns = length-map turns (λ t. turned t (flipped turns xs)) in
    ext_get_or (pos 0) (flipped turns (flipped turns xs)) xs (long ∙ sym p.long) (λ k h.
    let l : k < length turns = omega arith in
    let here : 0 + k ≡ k = omega arith in
    get_or-map (λ t. turned t (flipped turns xs)) turns k (kept 0) (pos 0) l
    ∙ turned_back turns xs k (get_or turns k (kept 0)) (subst (λ n. leads_back turns n (get_or turns k (kept 0)) ≡ true) here (at_index turns 0 turns e k l)))
