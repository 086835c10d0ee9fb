-- Whole numbers are a commutative ring.
use mathlib.Core.Path.{◌≡◌, sym, ◌∙◌, ap, ap₂}
use lib.IntN.{ℤ, pos, neg_ℤ, ◌+ℤ◌, ◌-ℤ◌, ◌*ℤ◌, one, ℤ_ind, +ℤ_one, -ℤ_one, +ℤ_assoc, +ℤ_comm, +ℤ_idr, +ℤ_invr, *ℤ_comm, *ℤ-one, zero-*ℤ, +ℤ-neg_ℤ_cancel, +ℤ_invl, +ℤ_idl, suc_ℤ-*ℤ, pred_ℤ-*ℤ}
use Rattle.fractions.proofs.Rings.{CommutativeRing}

next : (m c : ℤ) → (m +ℤ pos 1) *ℤ c ≡ m *ℤ c +ℤ c
next m c = ap (λ y. y *ℤ c) (+ℤ_one m) ∙ suc_ℤ-*ℤ m c

back : (m c : ℤ) → (m -ℤ pos 1) *ℤ c ≡ m *ℤ c -ℤ c
back m c = ap (λ y. y *ℤ c) (-ℤ_one m) ∙ pred_ℤ-*ℤ m c

pub distrib_right : (a c b : ℤ) → (a +ℤ b) *ℤ c ≡ a *ℤ c +ℤ b *ℤ c
distrib_right a c =
    ℤ_ind (λ b. (a +ℤ b) *ℤ c ≡ a *ℤ c +ℤ b *ℤ c)
    (ap (λ y. y *ℤ c) (+ℤ_idr a) ∙ sym (+ℤ_idr (a *ℤ c)) ∙ ap (λ y. a *ℤ c +ℤ y) (sym (zero-*ℤ c)))
    (λ n h.
    ap (λ y. y *ℤ c) (sym (+ℤ_assoc a (pos n) (pos 1))) ∙ next (a +ℤ pos n) c ∙ ap (λ y. y +ℤ c) h
    ∙ +ℤ_assoc (a *ℤ c) (pos n *ℤ c) c ∙ ap (λ y. a *ℤ c +ℤ y) (sym (next (pos n) c)))
    (λ n h.
    ap (λ y. y *ℤ c) (sym (+ℤ_assoc a (neg_ℤ (pos n)) (neg_ℤ (pos 1)))) ∙ back (a +ℤ neg_ℤ (pos n)) c ∙ ap (λ y. y -ℤ c) h
    ∙ +ℤ_assoc (a *ℤ c) (neg_ℤ (pos n) *ℤ c) (neg_ℤ c) ∙ ap (λ y. a *ℤ c +ℤ y) (sym (back (neg_ℤ (pos n)) c)))

neg_mul : (a b : ℤ) → neg_ℤ a *ℤ b ≡ neg_ℤ (a *ℤ b)
neg_mul a b =
    sym (+ℤ-neg_ℤ_cancel (neg_ℤ a *ℤ b) (a *ℤ b))
    ∙ ap (λ y. y -ℤ a *ℤ b) (sym (distrib_right (neg_ℤ a) b a) ∙ ap (λ y. y *ℤ b) (+ℤ_invl a) ∙ zero-*ℤ b) ∙ +ℤ_idl (neg_ℤ (a *ℤ b))

pub mul_assoc : (b c a : ℤ) → (a *ℤ b) *ℤ c ≡ a *ℤ (b *ℤ c)
mul_assoc b c =
    ℤ_ind (λ a. (a *ℤ b) *ℤ c ≡ a *ℤ (b *ℤ c))
    (ap (λ y. y *ℤ c) (zero-*ℤ b) ∙ zero-*ℤ c ∙ sym (zero-*ℤ (b *ℤ c)))
    (λ n h. ap (λ y. y *ℤ c) (next (pos n) b) ∙ distrib_right (pos n *ℤ b) c b ∙ ap (λ y. y +ℤ b *ℤ c) h ∙ sym (next (pos n) (b *ℤ c)))
    (λ n h.
    ap (λ y. y *ℤ c) (back (neg_ℤ (pos n)) b) ∙ distrib_right (neg_ℤ (pos n) *ℤ b) c (neg_ℤ b) ∙ ap₂ ◌+ℤ◌ h (neg_mul b c) ∙ sym (back (neg_ℤ (pos n)) (b *ℤ c)))

pub mul_one : (a : ℤ) → a *ℤ pos 1 ≡ a
mul_one a = unfold one in *ℤ-one a

abbrev pub integers : CommutativeRing
integers = record {
  F = ℤ;
  𝟘 = pos 0;
  𝟙 = pos 1;
  ◌⊕◌ = ◌+ℤ◌;
  ◌⊗◌ = ◌*ℤ◌;
  neg = neg_ℤ;
  add_assoc = +ℤ_assoc;
  add_comm = +ℤ_comm;
  add_zero = +ℤ_idr;
  add_neg = +ℤ_invr;
  mul_assoc = λ a b c. mul_assoc b c a;
  mul_comm = *ℤ_comm;
  mul_one = mul_one;
  distrib = λ a b c. *ℤ_comm a (b +ℤ c) ∙ distrib_right b a c ∙ ap₂ ◌+ℤ◌ (*ℤ_comm b a) (*ℤ_comm c a);
}
