-- A table that is filled while a program is read is the table of the program.
use Rattle.std.proofs.Common.{◌≡◌, ℕ, suc, ◌+◌, ◌*◌, ◌≤◌, List, ◌∷◌, ◌++◌, length, take, drop, set, Some, None, Option, sym, refl, ap, ◌∙◌, arith}
use Rattle.std.proofs.lemmas.List.{length-set, take_at}
use Rattle.rules.specs.Numbering.{Step, Text, number_statement, number_block, text_of}
use Rattle.rules.specs.Text.{Stmt, nothing, assign, pause, branch, loop, par, abort, Block, end, ◌then◌, Program, count_of, count}
use Rattle.table.specs.Filling.{filled_in, filled}
use Rattle.table.specs.Rows.{mark_of, first_of, row, rows_in, rows_of, table_of}
use Rattle.table.specs.declared.rows.Row.{Row}
use Rattle.table.proofs.Counts.{rows_in_count, rows_count, number_count_of, number_count}
use Rattle.table.proofs.Parts.{over, over_nothing, length_over, over_both, over_first}

mutual
  -- Filling in the blocks of a statement leaves the table's length.
  pub filled_in_length : (s : Step) (T : List Row) → length (filled_in s T) ≡ length T
  filled_in_length (nothing a) T = refl
  filled_in_length (assign a v e) T = refl
  filled_in_length (pause a) T = refl
  filled_in_length (branch a e X Y) T = let o = Some a.number in filled_length o Y (filled o X T) ∙ filled_length o X T
  filled_in_length (loop a bound e X) T = filled_length (Some a.number) X T
  filled_in_length (par a X Y) T = let o = Some a.number in filled_length o Y (filled o X T) ∙ filled_length o X T
  filled_in_length (abort a w i e X) T = filled_length (Some a.number) X T

  -- Filling in a block leaves the table's length.
  pub filled_length : (o : Option ℕ) (B : Text) (T : List Row) → length (filled o B T) ≡ length T
  filled_length o end T = refl
  filled_length o (s then B) T =
      filled_length o B (set (filled_in s T) (mark_of s).number (row o s (first_of B)))
      ∙ length-set (filled_in s T) (mark_of s).number (row o s (first_of B))
      ∙ filled_in_length s T

-- A statement's number is the one that it is given.
number_given : (n p t u : ℕ) (s : Stmt (Unit {0})) → (mark_of (number_statement n p t u s)).number ≡ n
number_given n p t u (nothing a) = refl
number_given n p t u (assign a v e) = refl
number_given n p t u (pause a) = refl
number_given n p t u (branch a e X Y) = refl
number_given n p t u (loop a bound e X) = refl
number_given n p t u (par a X Y) = refl
number_given n p t u (abort a w i e X) = refl

-- The rows of a numbered block are as many as its statements.
pub block_rows : (o : Option ℕ) (n p t u : ℕ) (B : Block (Unit {0})) → length (rows_of o (number_block n p t u B)) ≡ count B
block_rows o n p t u B = rows_count o (number_block n p t u B) ∙ number_count n p t u B

module _ (o : Option ℕ) (n : ℕ) (T : List Row) where
  -- Two blocks, one behind the other, fill in one part.
  two_blocks : (X Y : Text) (c : ℕ) → length (rows_of o X) ≡ c → n + c ≤ length T → filled o X T ≡ over n (rows_of o X) T → ((U : List Row) → length U ≡ length T → filled o Y U ≡ over (n + c) (rows_of o Y) U) → filled o Y (filled o X T) ≡ over n (rows_of o X ++ rows_of o Y) T
  two_blocks X Y c e h x y =
      ap (filled o Y) x
      ∙ y (over n (rows_of o X) T) (length_over n (rows_of o X) T (omega arith))
      ∙ over_both n c (rows_of o X) (rows_of o Y) T e h

  -- A statement's row before those of its blocks, and the rest of its block behind them.
  statement_then : (s : Step) (B : Text) (c : ℕ) → (mark_of s).number ≡ n → count_of s ≡ c → n + c ≤ length T → filled_in s T ≡ over (n + 1) (rows_in s) T → ((U : List Row) → length U ≡ length T → filled o B U ≡ over (n + c) (rows_of o B) U) → filled o (s then B) T ≡ over n (rows_of o (s then B)) T
  statement_then s B c m k h x y =
      let r = row o s (first_of B) in
      let R = rows_in s in
      let l : suc (length R) ≡ c = rows_in_count s ∙ k in
      (λ i. filled o B (set (x i) (m i) r))
      ∙ ap (filled o B) (over_first n r R T (omega arith))
      ∙ y (over n (r ∷ R) T) (length_over n (r ∷ R) T (omega arith))
      ∙ over_both n c (r ∷ R) (rows_of o B) T l h

mutual
  -- The rows of a numbered statement's blocks stand behind its number.
  statement_filled : (n p t u : ℕ) (s : Stmt (Unit {0})) (T : List Row) → n + count_of s ≤ length T → filled_in (number_statement n p t u s) T ≡ over (n + 1) (rows_in (number_statement n p t u s)) T
  statement_filled n p t u (nothing a) T h = sym (over_nothing (n + 1) T)
  statement_filled n p t u (assign a v e) T h = sym (over_nothing (n + 1) T)
  statement_filled n p t u (pause a) T h = sym (over_nothing (n + 1) T)
  statement_filled n p t u (branch a e X Y) T h =
      two_blocks (Some n) (n + 1) T _ _ (count X) (block_rows (Some n) _ _ _ _ X) (omega arith)
      (block_over (Some n) (n + 1) _ _ _ X T (omega arith))
      (λ U l. block_over (Some n) (n + 1 + count X) _ _ _ Y U (omega arith))
  statement_filled n p t u (loop a bound e X) T h = block_over (Some n) (n + 1) _ _ _ X T (omega arith)
  statement_filled n p t u (par a X Y) T h =
      two_blocks (Some n) (n + 1) T _ _ (count X) (block_rows (Some n) _ _ _ _ X) (omega arith)
      (block_over (Some n) (n + 1) _ _ _ X T (omega arith))
      (λ U l. block_over (Some n) (n + 1 + count X) _ _ _ Y U (omega arith))
  statement_filled n p t u (abort a w i e X) T h = block_over (Some n) (n + 1) _ _ _ X T (omega arith)

  -- The rows of a numbered block stand from its first number on.
  block_over : (o : Option ℕ) (n p t u : ℕ) (B : Block (Unit {0})) (T : List Row) → n + count B ≤ length T → filled o (number_block n p t u B) T ≡ over n (rows_of o (number_block n p t u B)) T
  block_over o n p t u end T h = sym (over_nothing n T)
  block_over o n p t u (s then B) T h =
      statement_then o n T (number_statement n p t u s) (number_block (n + count_of s) _ _ _ B) (count_of s) (number_given n p t u s) (number_count_of n p t u s) (omega arith)
      (statement_filled n p t u s T (omega arith))
      (λ U l. block_over o (n + count_of s) _ _ _ B U (omega arith))

-- A numbered block that is filled in stands between what was before it and what was behind it.
pub block_filled : (o : Option ℕ) (n p t u : ℕ) (B : Block (Unit {0})) (T : List Row) → n + count B ≤ length T → filled o (number_block n p t u B) T ≡ take n T ++ (rows_of o (number_block n p t u B) ++ drop (n + count B) T)
block_filled o n p t u B T h =
    let R = rows_of o (number_block n p t u B) in
    block_over o n p t u B T h ∙ ap (λ c. take n T ++ (R ++ drop (n + c) T)) (block_rows o n p t u B)

-- A program's table has a row for each statement.
pub table_length : (p : Program) → length (table_of p) ≡ count p.main
table_length p = block_rows None 0 (1 + 16 * length p.variables) 0 1 p.main

-- A table that is filled in with a program's text begins with the program's table.
pub table_filled : (p : Program) (T : List Row) → count p.main ≤ length T → take (count p.main) (filled None (text_of p) T) ≡ table_of p
table_filled p T h =
    let n = count p.main in
    ap (take n) (block_filled None 0 (1 + 16 * length p.variables) 0 1 p.main T (omega arith)) ∙ take_at (table_of p) (drop (0 + n) T) n (table_length p)
