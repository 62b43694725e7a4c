-- The commands of an expression, and how they are written as bytes and read again.
use Rattle.std.specs.Prelude.{ℕ, zero, suc, ◌+◌, ◌-◌, ◌*◌, ◌/◌, ◌%◌, ◌<◌, cond, List, [], ◌∷◌, ◌++◌, length, ℤ, Some, None, Option, FitsSigned, ◌==◌}
use Rattle.std.specs.Int.{w32}
use Rattle.std.proofs.Common.{to_z, of_z}
use Rattle.arithmetic.specs.declared.operators.Operator.{Operator}
use Rattle.arithmetic.specs.declared.operators.Operator.TheVariants.{Add, Subtract, Multiply, Lesser, Greater, LessThan, Equal}
use Rattle.arithmetic.specs.Operators.{operator_byte, not_byte}

-- A command stacks a constant or a variable's value, or replaces stacked values by what an operator gives of them.
pub data Command : Type 0 where
  constant : ℤ → Command
  variable : ℕ → Command
  operator : Operator → Command
  inversion : Command

-- The byte that a command begins with.
abbrev pub command_byte : Command → ℕ
command_byte (constant n) = 0x40
command_byte (variable v) = 0x41
command_byte (operator o) = operator_byte o
command_byte inversion = not_byte

-- The four bytes of a number below 2^32, the low byte first.
abbrev pub four_bytes : ℕ → List ℕ
four_bytes n = n % 256 ∷ n / 256 % 256 ∷ n / 65536 % 256 ∷ n / 16777216 ∷ []

-- The signed number that four bytes hold, the low byte first.
abbrev pub signed_of : (a b c d : ℕ) → ℤ
signed_of a b c d = to_z w32 (a + b * 256 + c * 65536 + d * 16777216)

-- A constant is followed by its four bytes, a variable by its number.
abbrev pub operands : Command → List ℕ
operands (constant n) = four_bytes (of_z w32 n)
operands (variable v) = v ∷ []
operands (operator o) = []
operands inversion = []

-- The bytes of commands, one after the other.
abbrev pub written : List Command → List ℕ
written [] = []
written (c ∷ cs) = command_byte c ∷ operands c ++ written cs

-- Commands that can be written: constants of 32 bits, variable numbers of one byte.
abbrev pub Writable : Command → Type 0
Writable (constant n) = FitsSigned w32 n
Writable (variable v) = v < 256
Writable (operator o) = Unit {0}
Writable inversion = Unit {0}

-- The first operator of a list whose byte is b.
abbrev pub operator_among : List Operator → ℕ → Option Command
operator_among [] b = None
operator_among (o ∷ os) b = cond (b == operator_byte o) (Some (operator o)) (operator_among os b)

-- All operators on two values.
abbrev pub operators : List Operator
operators = Add ∷ Subtract ∷ Multiply ∷ Lesser ∷ Greater ∷ LessThan ∷ Equal ∷ []

-- The command of one byte that b is.
abbrev pub single : ℕ → Option Command
single b = cond (b == not_byte) (Some inversion) (operator_among operators b)

-- A constant, where four bytes are left for it, and what follows it.
abbrev pub constant_in : List ℕ → Option (Command × List ℕ)
constant_in [] = None
constant_in (a ∷ []) = None
constant_in (a ∷ b ∷ []) = None
constant_in (a ∷ b ∷ c ∷ []) = None
constant_in (a ∷ b ∷ c ∷ d ∷ bs) = Some (constant (signed_of a b c d), bs)

-- A variable, where a byte is left for its number, and what follows it.
abbrev pub variable_in : List ℕ → Option (Command × List ℕ)
variable_in [] = None
variable_in (v ∷ bs) = Some (variable v, bs)

-- A command, where there is one, with the bytes that follow it.
abbrev pub with_rest : Option Command → List ℕ → Option (Command × List ℕ)
with_rest None bs = None
with_rest (Some c) bs = Some (c, bs)

-- The first command of bytes, and what follows it.
abbrev pub next_command : List ℕ → Option (Command × List ℕ)
next_command [] = None
next_command (b ∷ bs) = cond (b == 0x40) (constant_in bs) (cond (b == 0x41) (variable_in bs) (with_rest (single b) bs))

-- A command with its place, counted from the expression's byte 0; none where no command can be read there.
pub record Placed : Type 0 where
  pub place : ℕ
  pub command : Option Command

-- A command is listed at place p; where none can be read, the list ends.
abbrev pub listed : (List ℕ → List Placed) → ℕ → Option (Command × List ℕ) → List Placed
listed more p None = record { place = p; command = None } ∷ []
listed more p (Some c) = record { place = p; command = Some c.0 } ∷ more c.1

-- The commands in bytes of which the last `length bs` of `end` are left; `fuel` is at least as many.
abbrev pub listing : (fuel end : ℕ) → List ℕ → List Placed
listing fuel end [] = []
listing zero end (b ∷ bs) = []
listing (suc n) end (b ∷ bs) = listed (listing n end) (end - length (b ∷ bs)) (next_command (b ∷ bs))

-- The commands of an expression with their places.
abbrev pub commands_of : List ℕ → List Placed
commands_of bs = listing (length bs) (length bs) bs

-- One command more, if it and the others could be read.
abbrev pub one_more : Option Command → Option (List Command) → Option (List Command)
one_more None cs = None
one_more (Some c) None = None
one_more (Some c) (Some cs) = Some (c ∷ cs)

-- All commands, if every one could be read.
abbrev pub all_read : List Placed → Option (List Command)
all_read [] = Some []
all_read (p ∷ ps) = one_more p.command (all_read ps)
