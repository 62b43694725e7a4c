-- The text as it is run: each statement with its number, its byte place, its thread, and the number that the next arm takes.
use Rattle.std.specs.Prelude.{ℕ, ◌+◌, ◌*◌, length}
use Rattle.rules.specs.Encoding.{statement_bytes, block_bytes}
use Rattle.rules.specs.Reading.{head_size}
use Rattle.rules.specs.Text.{Stmt, nothing, assign, pause, branch, loop, par, abort, Block, end, ◌then◌, Program, count_of, count, arms, arms_of}

-- Statements and threads are numbered in reading order, places counted from the program's byte 0.
pub record Mark : Type 0 where
  pub number : ℕ
  pub place : ℕ
  pub thread : ℕ
  pub next : ℕ

-- A statement as it is run carries its mark.
abbrev pub Step : Type 0
Step = Stmt Mark

-- A block as it is run: each of its statements carries its mark.
abbrev pub Text : Type 0
Text = Block Mark

-- A par's first arm takes the next thread number.
abbrev pub first_arm : Mark → ℕ
first_arm m = m.next

-- A par's second arm takes the number after the first arm and all arms inside that.
abbrev pub second_arm : Mark → Text → ℕ
second_arm m X = m.next + 1 + arms X

-- n is the number, p the place, t the thread of the first statement, u the number that the next arm takes.
abbrev mutual
  -- The blocks of a statement are numbered after it; an arm is a thread of its own, another block is its statement's thread's.
  pub number_statement : (n p t u : ℕ) → Stmt (Unit {0}) → Step
  number_statement n p t u (nothing a) = nothing (record { number = n; place = p; thread = t; next = u })
  number_statement n p t u (assign a v e) = assign (record { number = n; place = p; thread = t; next = u }) v e
  number_statement n p t u (pause a) = pause (record { number = n; place = p; thread = t; next = u })
  number_statement n p t u (branch a e X Y) =
      branch (record { number = n; place = p; thread = t; next = u }) e
      (number_block (n + 1) (p + head_size (branch a e X Y) (length (block_bytes X) + length (block_bytes Y))) t u X)
      (number_block (n + 1 + count X) (p + head_size (branch a e X Y) (length (block_bytes Y))) t (u + arms X) Y)
  number_statement n p t u (loop a bound e X) =
      loop (record { number = n; place = p; thread = t; next = u }) bound e
      (number_block (n + 1) (p + head_size (loop a bound e X) (length (block_bytes X))) t u X)
  number_statement n p t u (par a X Y) =
      par (record { number = n; place = p; thread = t; next = u })
      (number_block (n + 1) (p + head_size (par a X Y) (length (block_bytes X) + length (block_bytes Y))) u (u + 1) X)
      (number_block (n + 1 + count X) (p + head_size (par a X Y) (length (block_bytes Y))) (u + 1 + arms X) (u + 2 + arms X) Y)
  number_statement n p t u (abort a w i e X) =
      abort (record { number = n; place = p; thread = t; next = u }) w i e
      (number_block (n + 1) (p + head_size (abort a w i e X) (length (block_bytes X))) t u X)

  -- Each statement of a block is numbered after the one before it and all that stands inside that.
  pub number_block : (n p t u : ℕ) → Block (Unit {0}) → Text
  number_block n p t u end = end
  number_block n p t u (s then B) =
      number_statement n p t u s then number_block (n + count_of s) (p + length (statement_bytes s)) t (u + arms_of s) B

-- Main is thread 0; its block comes after the declarations.
abbrev pub text_of : Program → Text
text_of p = number_block 0 (1 + 16 * length p.variables) 0 1 p.main
