-- Step counts that stay within the tick length.
use Rattle.std.specs.Prelude.{ℕ, ◌≤◌, List}
use Rattle.arithmetic.specs.Meaning.{Meaning}
use Rattle.rules.specs.Calls.{Call, Machine, empty, running}
use Rattle.rules.specs.Lengths.{tick_length}
use Rattle.rules.specs.Runs.{after_calls}

-- The step count is at most the tick length of the loaded program, in an open tick too: so every tick ends.
abbrev pub CountsStayShortIn : {V : Type 0} → Machine V → Type 0
CountsStayShortIn (empty n) = Unit {0}
CountsStayShortIn (running n bs p σ b c) = c ≤ tick_length p

-- So it is after any calls on a new machine.
abbrev pub CountsStayShort : Type 0 → Type 0
CountsStayShort V = (M : Meaning V) (places : ℕ) (cs : List Call) → CountsStayShortIn (after_calls M places cs).0
