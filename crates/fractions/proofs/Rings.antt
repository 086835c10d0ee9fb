-- What the proofs compute in: commutative rings, and ordered fields.
use mathlib.Core.Path.{◌≡◌}

pub record CommutativeRing : Type 1 where
  infixl 60 ◌⊕◌
  infixl 70 ◌⊗◌
  pub F : Type 0
  pub 𝟘 : F
  pub 𝟙 : F
  pub ◌⊕◌ : F → F → F
  pub ◌⊗◌ : F → F → F
  pub neg : F → F
  pub add_assoc : (a b c : F) → (a ⊕ b) ⊕ c ≡ a ⊕ (b ⊕ c)
  pub add_comm : (a b : F) → a ⊕ b ≡ b ⊕ a
  pub add_zero : (a : F) → a ⊕ 𝟘 ≡ a
  pub add_neg : (a : F) → a ⊕ neg a ≡ 𝟘
  pub mul_assoc : (a b c : F) → (a ⊗ b) ⊗ c ≡ a ⊗ (b ⊗ c)
  pub mul_comm : (a b : F) → a ⊗ b ≡ b ⊗ a
  pub mul_one : (a : F) → a ⊗ 𝟙 ≡ a
  pub distrib : (a b c : F) → a ⊗ (b ⊕ c) ≡ (a ⊗ b) ⊕ (a ⊗ c)

-- The order can be decided, and the inverse of a number that is not negative is not negative: that of 0 is 0.
pub record OrderedField : Type 1 where
  infixl 60 ◌⊕◌
  infixl 70 ◌⊗◌
  infix 40 ◌≼◌
  pub F : Type 0
  pub 𝟘 : F
  pub 𝟙 : F
  pub ◌⊕◌ : F → F → F
  pub ◌⊗◌ : F → F → F
  pub neg : F → F
  pub inv : F → F
  pub ◌≼◌ : F → F → Type 0
  pub add_assoc : (a b c : F) → (a ⊕ b) ⊕ c ≡ a ⊕ (b ⊕ c)
  pub add_comm : (a b : F) → a ⊕ b ≡ b ⊕ a
  pub add_zero : (a : F) → a ⊕ 𝟘 ≡ a
  pub add_neg : (a : F) → a ⊕ neg a ≡ 𝟘
  pub mul_assoc : (a b c : F) → (a ⊗ b) ⊗ c ≡ a ⊗ (b ⊗ c)
  pub mul_comm : (a b : F) → a ⊗ b ≡ b ⊗ a
  pub mul_one : (a : F) → a ⊗ 𝟙 ≡ a
  pub distrib : (a b c : F) → a ⊗ (b ⊕ c) ≡ (a ⊗ b) ⊕ (a ⊗ c)
  pub mul_inv : (a : F) → ¬ (a ≡ 𝟘) → a ⊗ inv a ≡ 𝟙
  pub le? : (a b : F) → Dec (a ≼ b)
  pub le_total : (a b : F) → ¬ (a ≼ b) → b ≼ a
  pub le_refl : (a : F) → a ≼ a
  pub le_trans : (a b c : F) → a ≼ b → b ≼ c → a ≼ c
  pub add_mono : (a b c : F) → a ≼ b → (a ⊕ c) ≼ (b ⊕ c)
  pub mul_nonneg : (a b : F) → 𝟘 ≼ a → 𝟘 ≼ b → 𝟘 ≼ (a ⊗ b)
  pub inv_nonneg : (a : F) → 𝟘 ≼ a → 𝟘 ≼ inv a
  pub one_above : ¬ (𝟙 ≼ 𝟘)

abbrev pub ring_of : OrderedField → CommutativeRing
ring_of K = record {
  F = K.F;
  𝟘 = K.𝟘;
  𝟙 = K.𝟙;
  ◌⊕◌ = K.◌⊕◌;
  ◌⊗◌ = K.◌⊗◌;
  neg = K.neg;
  add_assoc = K.add_assoc;
  add_comm = K.add_comm;
  add_zero = K.add_zero;
  add_neg = K.add_neg;
  mul_assoc = K.mul_assoc;
  mul_comm = K.mul_comm;
  mul_one = K.mul_one;
  distrib = K.distrib;
}
