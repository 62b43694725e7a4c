-- The table of a program's statements: a row for each, in reading order.
use Rattle.std.specs.Prelude.{ℕ, ◌+◌, List, [], ◌∷◌, ◌++◌, length, Some, None, Option}
use Rattle.evaluator.specs.Commands.{written}
use Rattle.rules.specs.Numbering.{Mark, Step, Text, first_arm, second_arm, text_of}
use Rattle.rules.specs.Text.{Expression, nothing, assign, pause, branch, loop, par, abort, end, ◌then◌, Program}
use Rattle.table.specs.declared.rows.Code.{Code}
use Rattle.table.specs.declared.rows.Task.{Task}
use Rattle.table.specs.declared.rows.Task.TheVariants.{Nothing, Set, Pause, If, Loop, Par, Abort}
use Rattle.table.specs.declared.rows.Row.{Row}

-- The mark of a statement.
abbrev pub mark_of : Step → Mark
mark_of (nothing a) = a
mark_of (assign a v e) = a
mark_of (pause a) = a
mark_of (branch a e X Y) = a
mark_of (loop a bound e X) = a
mark_of (par a X Y) = a
mark_of (abort a w i e X) = a

-- The number of a block's first statement; none of an empty block.
abbrev pub first_of : Text → Option ℕ
first_of end = None
first_of (s then B) = Some (mark_of s).number

-- An expression that begins so many bytes after its statement's command.
abbrev pub code : Mark → (after : ℕ) → Expression → Code
code a k e = record { from = a.place + k; length = length (written e) }

-- What a statement does. Its expression follows the command and its length byte, and the byte operand where it has one.
abbrev pub task : Step → Task
task (nothing a) = Nothing
task (assign a v e) = Set v (code a 3 e)
task (pause a) = Pause
task (branch a e X Y) = If (code a 2 e) (first_of X) (first_of Y)
task (loop a bound e X) = Loop bound (code a 3 e) (first_of X)
task (par a X Y) = Par (record { thread = first_arm a; first = first_of X }) (record { thread = second_arm a X; first = first_of Y })
task (abort a w i e X) = Abort w i (code a 3 e) (first_of X)

-- The row of a statement that stands in the block of statement `inside`, if in one, and is followed by statement `next` there, if by one.
abbrev pub row : (inside : Option ℕ) → Step → (next : Option ℕ) → Row
row o s n = record { task = task s; place = (mark_of s).place; thread = (mark_of s).thread; inside = o; next = n }

-- The rows of a block's statements in reading order: each statement before those of its own blocks.
abbrev mutual
  pub rows_in : Step → List Row
  rows_in (nothing a) = []
  rows_in (assign a v e) = []
  rows_in (pause a) = []
  rows_in (branch a e X Y) = rows_of (Some a.number) X ++ rows_of (Some a.number) Y
  rows_in (loop a bound e X) = rows_of (Some a.number) X
  rows_in (par a X Y) = rows_of (Some a.number) X ++ rows_of (Some a.number) Y
  rows_in (abort a w i e X) = rows_of (Some a.number) X

  -- The rows of a block, in the block of statement `inside`, if in one.
  pub rows_of : (inside : Option ℕ) → Text → List Row
  rows_of o end = []
  rows_of o (s then B) = row o s (first_of B) ∷ (rows_in s ++ rows_of o B)

-- The table of a program: row n is that of statement n.
abbrev pub table_of : Program → List Row
table_of p = rows_of None (text_of p)
