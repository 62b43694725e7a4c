-- The declarations of a program: those that are held, and those that its bytes hold.
use Rattle.std.specs.Prelude.{ℕ, ◌+◌, ◌-◌, ◌*◌, ◌&&◌, List, [], ◌∷◌, length, take, Ok, Err, Result, nat_le}
use Rattle.evaluator.specs.Rates.{most_variables}
use Rattle.rules.specs.Outcomes.{◌>>=◌, ensure}
use Rattle.rules.specs.Lengths.{block_length, longest_tick}
use Rattle.rules.specs.Reading.{most_bytes, most_nested, read_declaration, read_declarations, read_block, start, owners_live, loops_pause}
use Rattle.rules.specs.Text.{Program, arms}
use Rattle.rules.specs.declared.program.Variable.{Variable}
use Rattle.rules.specs.declared.faults.LoadFault.{LoadFault}
use Rattle.rules.specs.declared.faults.LoadFault.TheVariants.{BadLength, TooManyVariables, CutDeclaration, BadDeclaration, TickTooLong}
use Rattle.rules.specs.declared.faults.ReadingFault.TheVariants.{Cut}
use Rattle.declarations.specs.Declaring.{variables_of}
use Rattle.declarations.specs.declared.list.Declarations.{Declarations}

-- The variables that are declared, in the order of their numbers.
abbrev pub listed : Declarations → List Variable
listed d = variables_of (take d.count d.list)

-- The declaration that bytes begin with, where they end at place `end`: of 16 bytes, else it is cut.
abbrev pub first_declaration : (end : ℕ) → List ℕ → Result Variable LoadFault
first_declaration e bs = do
  _ ← ensure (nat_le 16 (length bs)) (CutDeclaration (Cut (e - length bs)))
  read_declaration (BadDeclaration (e - length bs)) (take 16 bs)

-- The count of variables, at most 32, and their declarations.
abbrev pub declarations_first : (end : ℕ) → List ℕ → Result (List Variable) LoadFault
declarations_first e [] = Err BadLength
declarations_first e (n ∷ bs) = do
  _ ← ensure (nat_le n most_variables) TooManyVariables
  ds ← read_declarations n e bs
  Ok ds.0

-- The variables that a program of 1 to 4,096 bytes declares.
abbrev pub declarations_in : List ℕ → Result (List Variable) LoadFault
declarations_in bs = do
  _ ← ensure (nat_le 1 (length bs) && nat_le (length bs) most_bytes) BadLength
  declarations_first (length bs) bs

-- What loading answers once the declarations are read: main's block in the bytes behind them, which end at place `end`; then owners, pausing loops, tick length.
abbrev pub read_main : (end : ℕ) → List Variable → List ℕ → Result Program LoadFault
read_main e ds bs = do
  B ← read_block ds most_nested 0 start e bs
  _ ← owners_live (1 + arms B) 1 ds
  _ ← loops_pause (1 + 16 * length ds) 0 0 1 B
  _ ← ensure (nat_le (block_length B + 1) longest_tick) TickTooLong
  Ok (record { variables = ds; main = B })
