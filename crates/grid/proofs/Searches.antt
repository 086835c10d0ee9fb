-- What a search has found, by what it passed.
use Rattle.std.proofs.Common.{◌≡◌, ℕ, zero, suc, ◌+◌, ◌<◌, ◌≤◌, Bool, true, false, cond, ◌||◌, List, [], ◌∷◌, length, get_or, position, Some, None, sym, refl, ap, ◌∙◌, ⊎_elim, arith}
use Rattle.std.specs.List.{position_from}
use Rattle.std.proofs.lemmas.Iterator.Adapters.{position_from-zero}
use Rattle.std.proofs.lemmas.Bool.{cases_Bool, cases_eq, cond-true, cond-false, or_parts}
use Rattle.grid.specs.Search.{first_where, last_where, any_where}

module _ (f : ℕ → Bool) where
  pub first_none : (i n : ℕ) → ((k : ℕ) → i ≤ k → k < i + n → f k ≡ false) → first_where f i n ≡ None
  first_none i zero h = refl
  first_none i (suc n) h =
      cond-false (f i) (Some i) (first_where f (suc i) n) (h i (omega arith) (omega arith)) ∙ first_none (suc i) n (λ k p q. h k (omega arith) (omega arith))

  pub first_found : (i n j : ℕ) → i ≤ j → j < i + n → ((k : ℕ) → i ≤ k → k < j → f k ≡ false) → f j ≡ true → first_where f i n ≡ Some j
  first_found i zero j p q h e = absurd (omega arith)
  first_found i (suc n) j p q h e =
      ⊎_elim
      (λ (s : i ≡ j). cond-true (f i) (Some i) (first_where f (suc i) n) (ap f s ∙ e) ∙ ap Some s)
      (λ ne.
      let l : suc i ≤ j = omega arith in
      cond-false (f i) (Some i) (first_where f (suc i) n) (h i (omega arith) (omega arith)) ∙ first_found (suc i) n j l (omega arith) (λ k a b. h k (omega arith) b) e)
      (cases_eq i j)

  -- no index at which the test holds was passed where the search found none
  pub none_where : (i n k : ℕ) → first_where f i n ≡ None → i ≤ k → k < i + n → f k ≡ false
  none_where i zero k e p q = absurd (omega arith)
  none_where i (suc n) k e p q =
      ⊎_elim
      (λ (t : f i ≡ true).
      let z : Some i ≡ None = sym (cond-true (f i) (Some i) (first_where f (suc i) n) t) ∙ e in
      let bad : ◌≡◌ {A = ℕ} 0 1 = cc in absurd (omega arith))
      (λ (t : f i ≡ false).
      ⊎_elim
      (λ (s : k ≡ i). ap f s ∙ t)
      (λ ne. none_where (suc i) n k (sym (cond-false (f i) (Some i) (first_where f (suc i) n) t) ∙ e) (omega arith) (omega arith))
      (cases_eq k i))
      (cases_Bool (f i))

  -- what was found lies among the indices searched
  pub first_within : (i n j : ℕ) → first_where f i n ≡ Some j → j < i + n
  first_within i zero j e = let bad : ◌≡◌ {A = ℕ} 0 1 = cc in absurd (omega arith)
  first_within i (suc n) j e =
      ⊎_elim
      (λ (t : f i ≡ true).
      let s : Some i ≡ Some j = sym (cond-true (f i) (Some i) (first_where f (suc i) n) t) ∙ e in
      let same : i ≡ j = cc in omega arith)
      (λ (t : f i ≡ false). let l = first_within (suc i) n j (sym (cond-false (f i) (Some i) (first_where f (suc i) n) t) ∙ e) in omega arith)
      (cases_Bool (f i))

  pub last_found : (n k : ℕ) → k < n → f k ≡ true → ((j : ℕ) → k < j → j < n → f j ≡ false) → last_where f n ≡ k
  last_found zero k p e h = absurd (omega arith)
  last_found (suc n) k p e h =
      ⊎_elim
      (λ (s : k ≡ n). cond-true (f n) n (last_where f n) (ap f (sym s) ∙ e) ∙ sym s)
      (λ ne. cond-false (f n) n (last_where f n) (h n (omega arith) (omega arith)) ∙ last_found n k (omega arith) e (λ j a b. h j a (omega arith)))
      (cases_eq k n)

-- one more index in front
pub any_more : (f : ℕ → Bool) (i j n m : ℕ) → i + 1 ≡ j → n + 1 ≡ m → any_where f j n || f i ≡ any_where f i m
any_more f i j n m e g =
    let a : j ≡ suc i = omega arith in
    let b : m ≡ suc n = omega arith in
    ap (λ t. any_where f t n || f i) a ∙ ap (any_where f i) (sym b)

-- the same test, its indices shifted by m
pub any_shifted : (f g : ℕ → Bool) (m i n : ℕ) → ((j : ℕ) → i ≤ j → j < i + n → f j ≡ g (m + j)) → any_where f i n ≡ any_where g (m + i) n
any_shifted f g m i zero h = refl
any_shifted f g m i (suc n) h =
    let e : m + suc i ≡ suc (m + i) = omega arith in
    let later = any_shifted f g m (suc i) n (λ j p q. h j (omega arith) (omega arith)) in
    ap (λ x. x || f i) (later ∙ ap (λ x. any_where g x n) e) ∙ ap (λ x. any_where g (suc (m + i)) n || x) (h i (omega arith) (omega arith))

-- where the test holds at no index, it fails at each
pub any_none : (f : ℕ → Bool) (i n j : ℕ) → any_where f i n ≡ false → i ≤ j → j < i + n → f j ≡ false
any_none f i zero j e p q = absurd (omega arith)
any_none f i (suc n) j e p q =
    let parts = or_parts (any_where f (suc i) n) (f i) e in
    ⊎_elim (λ (s : j ≡ i). ap f s ∙ parts.1) (λ ne. any_none f (suc i) n j parts.0 (omega arith) (omega arith)) (cases_eq j i)

-- the library's search of a list is that of its indices
position_at : {X : Type 0} (p : X → Bool) (zs : List X) (none : X) (i : ℕ) (xs : List X) → ((k : ℕ) → k < length xs → get_or zs (i + k) none ≡ get_or xs k none)
    → position_from p i xs ≡ first_where (λ j. p (get_or zs j none)) i (length xs)
position_at p zs none i [] h = refl
position_at p zs none i (x ∷ xs) h =
    let start : i ≡ i + 0 = omega arith in
    let here : get_or zs i none ≡ x = ap (λ n. get_or zs n none) start ∙ h 0 (omega arith) in
    let rest = position_at p zs none (suc i) xs (λ k l. let next : suc i + k ≡ i + suc k = omega arith in ap (λ n. get_or zs n none) next ∙ h (suc k) (omega arith)) in
    let one : i + 1 ≡ suc i = omega arith in
    ap (λ b. cond b (Some i) (position_from p (i + 1) xs)) (ap p (sym here)) ∙ ap (cond (p (get_or zs i none)) (Some i)) (ap (λ n. position_from p n xs) one ∙ rest)

pub position_is_first : {X : Type 0} (p : X → Bool) (xs : List X) (none : X) → position p xs ≡ first_where (λ i. p (get_or xs i none)) 0 (length xs)
position_is_first p xs none = position_from-zero p xs ∙ position_at p xs none 0 xs (λ k h. ap (λ n. get_or xs n none) (omega arith))
