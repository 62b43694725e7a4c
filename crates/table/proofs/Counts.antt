-- A block of a program has as many rows as statements.
use Rattle.std.proofs.Common.{◌≡◌, ℕ, suc, ◌+◌, length, Some, Option, refl, ap, arith, length-append}
use Rattle.rules.specs.Numbering.{Step, Text, number_statement, number_block}
use Rattle.rules.specs.Text.{Stmt, nothing, assign, pause, branch, loop, par, abort, Block, end, ◌then◌, count_of, count}
use Rattle.table.specs.Rows.{rows_in, rows_of}

mutual
  -- A statement's blocks have a row less than it has statements.
  pub rows_in_count : (s : Step) → suc (length (rows_in s)) ≡ count_of s
  rows_in_count (nothing a) = refl
  rows_in_count (assign a v e) = refl
  rows_in_count (pause a) = refl
  rows_in_count (branch a e X Y) = let o = Some a.number in omega (arith, rows_count o X, rows_count o Y, length-append (rows_of o X) (rows_of o Y))
  rows_in_count (loop a bound e X) = omega (arith, rows_count (Some a.number) X)
  rows_in_count (par a X Y) = let o = Some a.number in omega (arith, rows_count o X, rows_count o Y, length-append (rows_of o X) (rows_of o Y))
  rows_in_count (abort a w i e X) = omega (arith, rows_count (Some a.number) X)

  -- A block has as many rows as statements.
  pub rows_count : (o : Option ℕ) (B : Text) → length (rows_of o B) ≡ count B
  rows_count o end = refl
  rows_count o (s then B) = omega (arith, rows_in_count s, rows_count o B, length-append (rows_in s) (rows_of o B))

-- Equal numbers have equal sums.
same_sum : {a b c d : ℕ} → a ≡ b → c ≡ d → a + c ≡ b + d
same_sum e f = λ i. e i + f i

mutual
  -- A statement that is numbered has as many statements.
  pub number_count_of : (n p t u : ℕ) (s : Stmt (Unit {0})) → count_of (number_statement n p t u s) ≡ count_of s
  number_count_of n p t u (nothing a) = refl
  number_count_of n p t u (assign a v e) = refl
  number_count_of n p t u (pause a) = refl
  number_count_of n p t u (branch a e X Y) = ap (λ k. 1 + k) (same_sum (number_count _ _ _ _ X) (number_count _ _ _ _ Y))
  number_count_of n p t u (loop a bound e X) = ap (λ k. 1 + k) (number_count _ _ _ _ X)
  number_count_of n p t u (par a X Y) = ap (λ k. 1 + k) (same_sum (number_count _ _ _ _ X) (number_count _ _ _ _ Y))
  number_count_of n p t u (abort a w j e X) = ap (λ k. 1 + k) (number_count _ _ _ _ X)

  -- A block that is numbered has as many statements.
  pub number_count : (n p t u : ℕ) (B : Block (Unit {0})) → count (number_block n p t u B) ≡ count B
  number_count n p t u end = refl
  number_count n p t u (s then B) = same_sum (number_count_of n p t u s) (number_count _ _ _ _ B)
