-- How causes are tried in order: each step gives its fault, or what comes after it.
use Rattle.std.specs.Prelude.{ℕ, Bool, cond, Some, None, Option}

-- a fault where a test fails
abbrev pub unless : {Fault : Type 0} → Bool → Fault → Option Fault → Option Fault
unless test fault after = cond test after (Some fault)

-- a fault at the index that a search found
abbrev pub at : {Fault : Type 0} → Option ℕ → (ℕ → Fault) → Option Fault → Option Fault
at None fault after = after
at (Some i) fault after = Some (fault i)
