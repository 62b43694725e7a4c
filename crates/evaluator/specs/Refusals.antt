-- The outside numbers of the refusals of evaluating, and the places that they carry.
use Rattle.std.specs.Prelude.{ℕ}
use Rattle.evaluator.specs.declared.refusal.Refusal.{Refusal}
use Rattle.evaluator.specs.declared.refusal.Refusal.TheVariants.{BadExpression, WrongVariable, Memory, Readings}

-- 6 bad expression, 7 wrong variable, 11 value memory not 1,040 places, 15 count of readings is not the count of inputs.
abbrev pub refusal_number : Refusal → ℕ
refusal_number (BadExpression p) = 6
refusal_number (WrongVariable p) = 7
refusal_number Memory = 11
refusal_number Readings = 15

-- The byte of the command concerned; 0 where no command is.
abbrev pub refusal_place : Refusal → ℕ
refusal_place (BadExpression p) = p
refusal_place (WrongVariable p) = p
refusal_place Memory = 0
refusal_place Readings = 0
