-- The plain arithmetic: signed 32-bit numbers.
use Rattle.std.specs.Prelude.{Bool, true, false, not, ◌&&◌, ℤ, pos, ◌+ℤ◌, ◌-ℤ◌, ◌*ℤ◌, int_lt}
use Rattle.std.specs.Int.{int_min, int_max, saturate_to_bits}
use Rattle.arithmetic.specs.Meaning.{Meaning, Operation, two, inverse}
use Rattle.arithmetic.specs.declared.operators.Operator.{Operator}
use Rattle.arithmetic.specs.declared.operators.Operator.TheVariants.{Add, Subtract, Multiply, Lesser, Greater, LessThan, Equal}
use Rattle.arithmetic.specs.declared.operators.Combining.{Combining}
use Rattle.arithmetic.specs.declared.operators.Combining.TheVariants.{Sum, Least, Greatest, Left}

-- A result outside the range stops at its end: -2^31 or 2^31 - 1.
abbrev pub stopped : ℤ → ℤ
stopped z = saturate_to_bits 31 z

-- A test gives 1 or 0.
abbrev pub truth : Bool → ℤ
truth true = pos 1
truth false = pos 0

-- Neither is less than the other.
abbrev pub same : ℤ → ℤ → Bool
same a b = not (int_lt a b) && not (int_lt b a)

-- What each operator gives of the first and the second number.
abbrev pub plain_two : Operator → ℤ → ℤ → ℤ
plain_two Add a b = stopped (a +ℤ b)
plain_two Subtract a b = stopped (a -ℤ b)
plain_two Multiply a b = stopped (a *ℤ b)
plain_two Lesser a b = int_min a b
plain_two Greater a b = int_max a b
plain_two LessThan a b = truth (int_lt a b)
plain_two Equal a b = truth (same a b)

-- `not` gives 1 for 0, else 0.
abbrev pub plain_not : ℤ → ℤ
plain_not a = truth (same a (pos 0))

-- What an operation gives of the numbers that it holds.
abbrev pub plain_operated : Operation ℤ → ℤ
plain_operated (two o a b) = plain_two o a b
plain_operated (inverse a) = plain_not a

-- Over high is high, then under low is low.
abbrev pub clamped : (low high z : ℤ) → ℤ
clamped low high z = int_max low (int_min z high)

-- What each combining operator gives of two copies.
abbrev pub plain_combined : Combining → ℤ → ℤ → ℤ
plain_combined Sum a b = stopped (a +ℤ b)
plain_combined Least a b = int_min a b
plain_combined Greatest a b = int_max a b
plain_combined Left a b = a

-- A plain value is the number that it shows.
abbrev pub plain : Meaning ℤ
plain = record {
  constant = λ n. n;
  reading = λ i n. n;
  operated = plain_operated;
  shows = λ a. a;
  limited = clamped;
  combined = plain_combined;
}
