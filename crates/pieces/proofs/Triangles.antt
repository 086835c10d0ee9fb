-- The rounds of de Boor's triangle in a room that holds the d + 1 control points from the first knot on.
use Rattle.std.proofs.Common.{◌≡◌, ℕ, zero, suc, ◌+◌, ◌-◌, ◌<◌, ◌≤◌, Bool, true, false, cond, List, [], get_or, ℤ, sym, refl, ap, ◌∙◌, subst, arith}
use mir.Val.{bool_byte}
use Rattle.grid.specs.Search.{any_where}
use Rattle.grid.proofs.Searches.{any_shifted}
use Rattle.pieces.specs.Triangle.{between, inexact_between, entry, inexact_entry, inexact_rounds}

one : (b : Bool) → bool_byte b ≡ cond b 1 0
one true = refl
one false = refl

pub at_most_one : (b : Bool) → bool_byte b ≤ 1
at_most_one true = omega arith
at_most_one false = omega arith

module _ (d : ℕ) (ks : List ℕ) (ps : List (List ℤ)) (u : ℕ) where
  -- after r rounds their entries r to d stand in the room, and so many of them held an inexact blend
  pub record Done (r : ℕ) (xs : List (List ℤ)) (count : ℕ) : Type 0 where
    pub entries : (j : ℕ) → r ≤ j → j ≤ d → get_or xs j [] ≡ entry d ks ps u r j
    pub rounds : count ≡ inexact_rounds d ks ps u d r

  module _ (q : ℕ) (xs : List (List ℤ)) (h : (j : ℕ) → q ≤ j → j ≤ d → get_or xs j [] ≡ entry d ks ps u q j) where
    -- where the entries of round q stand, round q + 1 is counted where its blends are inexact
    pub rounds_more : (found : Bool) → q < d → found ≡ any_where (λ j. inexact_between d ks u (suc q) j (get_or xs (j - 1) []) (get_or xs j [])) (suc q) (d + 1 - suc q)
        → inexact_rounds d ks ps u d q + bool_byte found ≡ inexact_rounds d ks ps u d (suc q)
    rounds_more found few seen =
        let test : ℕ → Bool = λ j. inexact_between d ks u (suc q) j (get_or xs (j - 1) []) (get_or xs j []) in
        let from : d - d + suc q ≡ 0 + suc q = omega arith in
        let size : d + 1 - suc q ≡ d - q = omega arith in
        let same : any_where test (suc q) (d - q) ≡ any_where (inexact_entry d ks ps u q) (0 + suc q) (d - q) =
        any_shifted test (inexact_entry d ks ps u q) 0 (suc q) (d - q) (λ j low high.
        let a = h (j - 1) (omega arith) (omega arith) in
        let b = h j (omega arith) (omega arith) in
        let z : j ≡ 0 + j = omega arith in
        rw (a, b) (ap (inexact_entry d ks ps u q) z)) in
        let all : found ≡ any_where (inexact_entry d ks ps u q) (d - d + suc q) (d - q) =
        seen ∙ ap (any_where test (suc q)) size ∙ same ∙ ap (λ v. any_where (inexact_entry d ks ps u q) v (d - q)) (sym from) in
        ap (λ v. inexact_rounds d ks ps u d q + v) (one found ∙ ap (λ v. cond v 1 0) all)

  module _ (q : ℕ) (xs ys : List (List ℤ)) (count : ℕ) (h : Done q xs count) (few : q < d) (found : Bool)
      (made : (j : ℕ) → suc q ≤ j → j ≤ d → get_or ys j [] ≡ between d ks u (suc q) j (get_or xs (j - 1) []) (get_or xs j []))
      (seen : found ≡ any_where (λ j. inexact_between d ks u (suc q) j (get_or xs (j - 1) []) (get_or xs j [])) (suc q) (d + 1 - suc q)) where
    entries_more : (j : ℕ) → suc q ≤ j → j ≤ d → get_or ys j [] ≡ entry d ks ps u (suc q) j
    entries_more j low high =
        let a = h.entries (j - 1) (omega arith) (omega arith) in
        let b = h.entries j (omega arith) high in
        rw (a, b) at (made j low high)

    done_more : Done (suc q) ys (count + bool_byte found)
    done_more = record { entries = entries_more; rounds = ap (λ v. v + bool_byte found) h.rounds ∙ rounds_more q xs h.entries found few seen }

  -- round r takes what stands after r - 1 rounds to what stands after r
  pub round_done : (r n : ℕ) (xs ys : List (List ℤ)) (count : ℕ) (found : Bool) (more : ℕ) → 1 ≤ r → r ≤ d → r ≡ n → more ≡ bool_byte found → Done (r - 1) xs count
      → ((j : ℕ) → r ≤ j → j ≤ d → get_or ys j [] ≡ between d ks u r j (get_or xs (j - 1) []) (get_or xs j []))
      → found ≡ any_where (λ j. inexact_between d ks u r j (get_or xs (j - 1) []) (get_or xs j [])) r (d + 1 - r)
      → Done n ys (count + more)
  round_done zero n xs ys count found more first few e b h made seen = absurd (omega arith)
  round_done (suc q) n xs ys count found more first few e b h made seen =
      let same : suc q - 1 ≡ q = omega arith in
      subst (λ v. Done v ys (count + more)) e
      (subst (λ v. Done (suc q) ys (count + v)) (sym b) (done_more q xs ys count (subst (λ v. Done v xs count) same h) (omega arith) found made seen))
