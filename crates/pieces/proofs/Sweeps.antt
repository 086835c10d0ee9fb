-- A sweep down a row: from its last place to the place j each entry is made of the old one before it and the old one
-- there, and below j the old ones stand.
use Rattle.std.proofs.Common.{◌≡◌, ℕ, ◌+◌, ◌-◌, ◌<◌, ◌≤◌, Bool, ◌||◌, ◌≢◌, List, length, get_or, set, sym, ap, ◌∙◌, ⊎_elim, arith}
use Rattle.std.proofs.lemmas.List.{get_or-set_same, get_or-set_other}
use Rattle.std.proofs.lemmas.Bool.{cases_eq}
use Rattle.grid.specs.Search.{any_where}
use Rattle.grid.proofs.Searches.{any_more}

module _ {X : Type 0} (none : X) (make : ℕ → X → X → X) (test : ℕ → X → X → Bool) (last : ℕ) (old : List X) where
  -- what the sweep makes at i, and its test there
  abbrev pub made : ℕ → X
  made i = make i (get_or old (i - 1) none) (get_or old i none)

  abbrev pub tested : ℕ → Bool
  tested i = test i (get_or old (i - 1) none) (get_or old i none)

  pub record Swept (j : ℕ) (xs : List X) (found : Bool) : Type 0 where
    pub done : (i : ℕ) → j ≤ i → i ≤ last → get_or xs i none ≡ made i
    pub left : (i : ℕ) → i < j → get_or xs i none ≡ get_or old i none
    pub seen : found ≡ any_where tested j (last + 1 - j)

  pub swept_more : (xs ys : List X) (i j : ℕ) (was found : Bool) → j ≡ i → 1 ≤ i → i ≤ last → i < length xs → Swept (i + 1) xs was
      → ys ≡ set xs i (make i (get_or xs (i - 1) none) (get_or xs i none)) → found ≡ test i (get_or xs (i - 1) none) (get_or xs i none)
      → Swept j ys (was || found)
  swept_more xs ys i j was found e first h n s w t =
      let a = s.left (i - 1) (omega arith) in
      let b = s.left i (omega arith) in
      let new : ys ≡ set xs i (made i) = rw (a, b) at w in
      let here : found ≡ tested i = rw (a, b) at t in
      record {
        done = λ k l m.
            ⊎_elim (λ (q : k ≡ i). rw (new, q) (get_or-set_same xs i (made i) none n)) (λ (q : k ≢ i). rw new (get_or-set_other xs i k (made i) none q ∙ s.done k (omega arith) m)) (cases_eq k i);
        left = λ k l. let q : k ≢ i = omega arith in rw new (get_or-set_other xs i k (made i) none q ∙ s.left k (omega arith));
        seen = rw (s.seen, here ∙ ap tested (sym e)) (any_more tested j (i + 1) (last + 1 - (i + 1)) (last + 1 - j) (omega arith) (omega arith));
      }
