-- What declarations declare.
use Rattle.std.specs.Prelude.{◌≡◌, Bool, false, ◌&&◌, List, map, ℤ, pos, Result, MatchResult, int_le}
use Rattle.arithmetic.specs.declared.operators.Combining.TheVariants.{Sum}
use Rattle.rules.specs.declared.program.Variable.{Variable}
use Rattle.rules.specs.declared.program.Kind.TheVariants.{Input}
use Rattle.rules.specs.declared.program.Policy.TheVariants.{All}
use Rattle.declarations.specs.declared.declaration.Declaration.{Declaration}
use Rattle.declarations.specs.declared.declaration.NotWithinLimits.{NotWithinLimits}

-- The initial value is within the limits.
abbrev pub ordered : (low initial high : ℤ) → Bool
ordered l i h = int_le l i && int_le i h

-- The variable that a declaration declares.
abbrev pub variable_of : Declaration → Variable
variable_of d = d.variable

-- The variables that declarations declare, in order.
abbrev pub variables_of : List Declaration → List Variable
variables_of ds = map variable_of ds

-- An input that reads nothing but 0.
abbrev pub idle_input : Variable
idle_input = record { kind = Input; policy = All; operator = Sum; owner = 0; initial = pos 0; low = pos 0; high = pos 0 }

-- The declaration of a variable, or that its initial value is not within its limits.
abbrev pub DeclarationOf : Variable → Result Declaration NotWithinLimits → Type 0
DeclarationOf v r = MatchResult r (λ d. variable_of d ≡ v) (λ _. ordered v.low v.initial v.high ≡ false)
