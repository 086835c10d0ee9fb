-- The exact blend of whole numbers between whole knots.
use Rattle.std.proofs.Common.{◌≡◌, ℕ, suc, ◌-◌, ◌<◌, ◌≤◌, ℤ, pos, ◌+ℤ◌, ◌*ℤ◌, ap, ◌∙◌, ap₂, arith}
use Rattle.fractions.specs.Fractions.{◌/suc◌}
use Rattle.fractions.proofs.Quotient.{mk, quotient_field, ◌⊕◌, ◌⊗◌, neg, inv}
use Rattle.fractions.proofs.Wholes.{of, of_difference, over}
use Rattle.splines.proofs.Fields.Basis.{blend}

-- with b = c - a and whole numbers throughout, ((b - (x - a)) p + (x - a) q) / b
pub whole_blend : (a x c : ℕ) (p q : ℤ) → a ≤ x → x < c
    → blend quotient_field (of (pos x)) (of (pos a)) (of (pos c)) (of p) (of q) ≡ mk ((pos (c - a - (x - a)) *ℤ p +ℤ pos (x - a) *ℤ q) /suc (c - a - 1))
whole_blend a x c p q h k =
    ap₂ (λ y z. (y ⊗ inv z) ⊗ of p ⊕ ((of (pos x) ⊕ neg (of (pos a))) ⊗ inv z) ⊗ of q) (of_difference x c (omega arith) ∙ ap (λ y. of (pos y)) rest)
    (of_difference a c (omega arith) ∙ ap (λ y. of (pos y)) length)
    ∙ ap (λ y. (of (pos (c - a - (x - a))) ⊗ inv (of (pos (suc (c - a - 1))))) ⊗ of p ⊕ (y ⊗ inv (of (pos (suc (c - a - 1))))) ⊗ of q) (of_difference a x h)
    ∙ over (c - a - 1) (pos (c - a - (x - a))) (pos (x - a)) p q
  where
    rest : c - x ≡ c - a - (x - a)
    rest = omega arith

    length : c - a ≡ suc (c - a - 1)
    length = omega arith
