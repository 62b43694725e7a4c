-- Tick length, and which blocks must pause.
use Rattle.std.specs.Prelude.{ℕ, zero, suc, ◌+◌, ◌*◌, max, Bool, true, false, ◌&&◌, ◌||◌}
use Rattle.rules.specs.Text.{Stmt, nothing, assign, pause, branch, loop, par, abort, Block, end, ◌then◌, Program}

-- The greatest tick length of a program.
abbrev pub longest_tick : ℕ
longest_tick = 60000

-- A loop of bound n: n + 1 tests and n passes of its block; a pausing loop: one test and two passes.
abbrev pub loop_length : (bound block : ℕ) → ℕ
loop_length zero x = 1 + 2 * x
loop_length (suc n) x = (suc n + 1) + suc n * x

-- The most steps that statements and blocks take in a tick.
abbrev mutual
  -- 1 for nothing, set and pause; 1 + the longer block for if; 3 + both arms for par; 1 + block for abort; a loop by its bound.
  pub length_of : {A : Type 0} → Stmt A → ℕ
  length_of (nothing a) = 1
  length_of (assign a v e) = 1
  length_of (pause a) = 1
  length_of (branch a e X Y) = 1 + max (block_length X) (block_length Y)
  length_of (loop a bound e X) = loop_length bound (block_length X)
  length_of (par a X Y) = 3 + block_length X + block_length Y
  length_of (abort a w i e X) = 1 + block_length X

  -- Blocks add up.
  pub block_length : {A : Type 0} → Block A → ℕ
  block_length end = 0
  block_length (s then B) = length_of s + block_length B

-- A program's tick length is main's block and one step at its end.
abbrev pub tick_length : Program → ℕ
tick_length p = block_length p.main + 1

-- Which statements and blocks pause on every way through.
abbrev mutual
  -- Pause always pauses; an if does when both blocks do; a par when either arm does; nothing else does.
  pub pauses : {A : Type 0} → Stmt A → Bool
  pauses (nothing a) = false
  pauses (assign a v e) = false
  pauses (pause a) = true
  pauses (branch a e X Y) = must_pause X && must_pause Y
  pauses (loop a bound e X) = false
  pauses (par a X Y) = must_pause X || must_pause Y
  pauses (abort a w i e X) = false

  -- A block always pauses when one of its statements does.
  pub must_pause : {A : Type 0} → Block A → Bool
  must_pause end = false
  must_pause (s then B) = pauses s || must_pause B
