-- The numbers by which programs name the operators.
use Rattle.std.specs.Prelude.{◌≡◌, ℕ, ◌≢◌, Result, MatchResult}
use Rattle.arithmetic.specs.declared.operators.Operator.{Operator}
use Rattle.arithmetic.specs.declared.operators.Operator.TheVariants.{Add, Subtract, Multiply, Lesser, Greater, LessThan, Equal}
use Rattle.arithmetic.specs.declared.operators.Combining.{Combining}
use Rattle.arithmetic.specs.declared.operators.Combining.TheVariants.{Sum, Least, Greatest, Left}
use Rattle.arithmetic.specs.declared.operators.UnknownNumber.{UnknownNumber}

-- The command byte of each operator on two values.
abbrev pub operator_byte : Operator → ℕ
operator_byte Add = 0x42
operator_byte Subtract = 0x43
operator_byte Multiply = 0x44
operator_byte Lesser = 0x45
operator_byte Greater = 0x46
operator_byte LessThan = 0x47
operator_byte Equal = 0x48

-- The command byte of `not`, which takes one value.
abbrev pub not_byte : ℕ
not_byte = 0x49

-- The number of each combining operator in a declaration.
abbrev pub combining_number : Combining → ℕ
combining_number Sum = 0
combining_number Least = 1
combining_number Greatest = 2
combining_number Left = 3

-- The byte is no operator's.
abbrev pub NoOperator : ℕ → Type 0
NoOperator b = (o : Operator) → operator_byte o ≢ b

-- The number is no combining operator's.
abbrev pub NoCombining : ℕ → Type 0
NoCombining n = (o : Combining) → combining_number o ≢ n

-- The operator whose byte it is, or the byte that is no operator's.
abbrev pub OperatorOf : ℕ → Result Operator UnknownNumber → Type 0
OperatorOf b r = MatchResult r (λ o. operator_byte o ≡ b) (λ u. (u.0 ≡ b) × NoOperator b)

-- The combining operator whose number it is, or the number that is no such operator's.
abbrev pub CombiningOf : ℕ → Result Combining UnknownNumber → Type 0
CombiningOf n r = MatchResult r (λ o. combining_number o ≡ n) (λ u. (u.0 ≡ n) × NoCombining n)
