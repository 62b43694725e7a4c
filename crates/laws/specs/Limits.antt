-- Rates within their limits.
use Rattle.std.specs.Prelude.{◌≡◌, ℕ, true, List, ◌≤ℤ◌, slice_index_or}
use Rattle.arithmetic.specs.Meaning.{Meaning}
use Rattle.rules.specs.Calls.{Call, Machine, empty, running}
use Rattle.rules.specs.Runs.{after_calls}
use Rattle.rules.specs.Scopes.{is_shared}
use Rattle.rules.specs.Values.{declared, zero_value}
use Rattle.rules.specs.declared.program.Variable.{Variable}

module _ {V : Type 0} (M : Meaning V) (ds : List Variable) where
  -- The values of shared variables show numbers within the declared limits.
  abbrev pub WithinLimits : List V → Type 0
  WithinLimits xs = (v : ℕ) → is_shared (declared ds v).kind ≡ true →
      ((declared ds v).low ≤ℤ M.shows (slice_index_or xs v (zero_value M))) × (M.shows (slice_index_or xs v (zero_value M)) ≤ℤ (declared ds v).high)

-- Whatever is called in whatever order, the stores of shared variables, the rates among them, show numbers within their declared limits.
abbrev pub MachineWithin : {V : Type 0} → Meaning V → Machine V → Type 0
MachineWithin M (empty n) = Unit {0}
MachineWithin M (running n bs p σ b c) = WithinLimits M p.variables σ.stores

-- So it is after any calls on a new machine.
abbrev pub RatesStayWithinLimits : {V : Type 0} → Meaning V → Type 0
RatesStayWithinLimits M = (places : ℕ) (cs : List Call) → MachineWithin M (after_calls M places cs).0
