-- A table that is filled while a program is read: the row of a statement is set after the rows of its blocks, since only then is known where they begin.
use Rattle.std.specs.Prelude.{◌≡◌, ℕ, ◌≤◌, List, length, take, Some, None, Option, slice_set}
use Rattle.rules.specs.Numbering.{Step, Text, text_of}
use Rattle.rules.specs.Text.{nothing, assign, pause, branch, loop, par, abort, end, ◌then◌, Program, count}
use Rattle.table.specs.Rows.{mark_of, first_of, row, table_of}
use Rattle.table.specs.declared.rows.Task.TheVariants.{Nothing}
use Rattle.table.specs.declared.rows.Row.{Row}

-- The row that stands where no statement is yet: it does nothing, at place 0 of thread 0, in no block and before no statement.
abbrev pub blank_row : Row
blank_row = record { task = Nothing; place = 0; thread = 0; inside = None; next = None }

-- The table after the rows of a statement's blocks are set, in order.
abbrev mutual
  pub filled_in : Step → List Row → List Row
  filled_in (nothing a) T = T
  filled_in (assign a v e) T = T
  filled_in (pause a) T = T
  filled_in (branch a e X Y) T = filled (Some a.number) Y (filled (Some a.number) X T)
  filled_in (loop a bound e X) T = filled (Some a.number) X T
  filled_in (par a X Y) T = filled (Some a.number) Y (filled (Some a.number) X T)
  filled_in (abort a w i e X) T = filled (Some a.number) X T

  -- The table after the rows of a block are set, which stands in the block of statement `inside`, if in one.
  pub filled : (inside : Option ℕ) → Text → List Row → List Row
  filled o end T = T
  filled o (s then B) T = filled o B (slice_set (filled_in s T) (mark_of s).number (row o s (first_of B)))

-- Whatever stood in a table that is long enough, once it is filled its first rows are those of the program's statements in reading order.
abbrev pub FillingGivesTheTable : Type 0
FillingGivesTheTable = (p : Program) (T : List Row) → count p.main ≤ length T → take (count p.main) (filled None (text_of p) T) ≡ table_of p
