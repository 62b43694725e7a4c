-- The outside numbers of faults, their places, layers, statements and threads.
use Rattle.std.specs.Prelude.{ℕ, Some, None, Option}
use Rattle.rules.specs.declared.faults.Layer.{Layer}
use Rattle.rules.specs.declared.faults.ReadingFault.{ReadingFault}
use Rattle.rules.specs.declared.faults.ReadingFault.TheVariants.{Cut, Unknown}
use Rattle.rules.specs.declared.faults.StatementFault.{StatementFault}
use Rattle.rules.specs.declared.faults.StatementFault.TheVariants.{Reading, BadExpression, WrongVariable, OverLimit, MayNotPause}
use Rattle.rules.specs.declared.faults.Site.{Site}
use Rattle.rules.specs.declared.faults.LoadFault.{LoadFault}
use Rattle.rules.specs.declared.faults.LoadFault.TheVariants.{BadLength, TooManyVariables, CutDeclaration, BadDeclaration, Statement, TickTooLong}

-- 2 cut, 5 unknown command or flag.
abbrev pub reading_number : ReadingFault → ℕ
reading_number (Cut p) = 2
reading_number (Unknown p) = 5

-- A fault of reading is at the byte that it carries.
abbrev pub reading_place : ReadingFault → ℕ
reading_place (Cut p) = p
reading_place (Unknown p) = p

-- 6 bad expression, 7 wrong variable, 8 over a limit, 9 pausing loop that may not pause.
abbrev pub statement_number : StatementFault → ℕ
statement_number (Reading f) = reading_number f
statement_number (BadExpression p) = 6
statement_number (WrongVariable p) = 7
statement_number (OverLimit p) = 8
statement_number (MayNotPause p) = 9

-- A fault of reading keeps its place; a statement's own fault is at the byte that it carries.
abbrev pub statement_place : StatementFault → ℕ
statement_place (Reading f) = reading_place f
statement_place (BadExpression p) = p
statement_place (WrongVariable p) = p
statement_place (OverLimit p) = p
statement_place (MayNotPause p) = p

-- What reading found belongs to the reading layer, a statement's own fault to the statement layer.
abbrev pub statement_layer : StatementFault → Layer
statement_layer (Reading f) = Layer.Reading
statement_layer (BadExpression p) = Layer.Statement
statement_layer (WrongVariable p) = Layer.Statement
statement_layer (OverLimit p) = Layer.Statement
statement_layer (MayNotPause p) = Layer.Statement

-- 1 empty or over 4,096 bytes, 3 over 32 variables, 4 bad declaration, 10 tick too long.
abbrev pub load_number : LoadFault → ℕ
load_number BadLength = 1
load_number TooManyVariables = 3
load_number (CutDeclaration f) = reading_number f
load_number (BadDeclaration p) = 4
load_number (Statement f s) = statement_number f
load_number TickTooLong = 10

-- The command or declaration concerned; 0 where no byte is meant.
abbrev pub load_place : LoadFault → ℕ
load_place BadLength = 0
load_place TooManyVariables = 0
load_place (CutDeclaration f) = reading_place f
load_place (BadDeclaration p) = p
load_place (Statement f s) = statement_place f
load_place TickTooLong = 0

-- Reading gives 2 and 5, the statement layer 6 to 9, the program layer the rest.
abbrev pub load_layer : LoadFault → Layer
load_layer BadLength = Layer.Program
load_layer TooManyVariables = Layer.Program
load_layer (CutDeclaration f) = Layer.Reading
load_layer (BadDeclaration p) = Layer.Program
load_layer (Statement f s) = statement_layer f
load_layer TickTooLong = Layer.Program

-- A fault that was met in a statement carries the statement's number and thread.
abbrev pub load_site : LoadFault → Option Site
load_site BadLength = None
load_site TooManyVariables = None
load_site (CutDeclaration f) = None
load_site (BadDeclaration p) = None
load_site (Statement f s) = Some s
load_site TickTooLong = None
