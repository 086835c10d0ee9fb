-- What follows where causes are tried in order and none holds.
use Rattle.std.proofs.Common.{◌≡◌, ℕ, Bool, true, None, Some, Option, arith}
use Rattle.refusals.specs.Order.{unless, at}

pub some_none : {X : Type 0} {x : X} → Some x ≡ None → ⊥
some_none e = grind arith

module _ {Fault : Type 0} where
  pub unless_passed : (test : Bool) (fault : Fault) (after : Option Fault) → unless test fault after ≡ None → (test ≡ true) × (after ≡ None)
  unless_passed test fault after e = grind arith

  pub at_passed : (found : Option ℕ) (fault : ℕ → Fault) (after : Option Fault) → at found fault after ≡ None → (found ≡ None) × (after ≡ None)
  at_passed found fault after e = grind arith

  -- and the other way round
  pub unless_passes : (test : Bool) (fault : Fault) (after : Option Fault) → test ≡ true → after ≡ None → unless test fault after ≡ None
  unless_passes test fault after t e = grind arith

  pub at_passes : (found : Option ℕ) (fault : ℕ → Fault) (after : Option Fault) → found ≡ None → after ≡ None → at found fault after ≡ None
  at_passes found fault after n e = grind arith
