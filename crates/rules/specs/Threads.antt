-- Threads: what each has of its own, and where it is in its text.
use Rattle.std.specs.Prelude.{ℕ, Bool, true, false, List, Some, None, Option}
use Rattle.rules.specs.Numbering.{Mark, Step, Text}
use Rattle.rules.specs.Text.{Expression}

-- What a thread does when the block at hand ends: its text ends; it goes on after an if; it goes back to a loop's test; it goes on after an abort.
pub data After : Type 0 where
  leave : After
  on : (B : Text) (k : After) → After
  again : (m : Mark) (bound : ℕ) (e : Expression) (X B : Text) (k : After) → After
  out_of : (m : Mark) (weak : Bool) (e : Expression) (B : Text) (k : After) → After

-- A ready thread is at a statement, with the rest of its block and what comes after that, or at its text's end.
pub data Place : Type 0 where
  at : Step → (B : Text) (k : After) → Place
  at_end : Place

-- A thread waits, is held or is paused at a statement, with the rest of the block and what comes after that.
pub data State : Type 0 where
  fresh : State
  ready : Place → State
  waiting held paused : (m : Mark) (B : Text) (k : After) → State
  ended past out : State

-- What belongs to a thread: its copies of shared variables and its privates, by variable; the set marks of its copies; passes left of its loops and marks of its aborts, by statement number.
pub record Memo (V : Type 0) : Type 0 where
  pub values : List V
  pub sets : List Bool
  pub passes : ℕ → ℕ
  pub marks : ℕ → Bool

-- A thread's state, and what belongs to it; threads below it are kept apart.
pub record Own (V : Type 0) : Type 0 where
  pub state : State
  pub memo : Memo V

-- The arms of a thread's pars in the order of its text: the two arms' thread numbers, each arm with the arms below it, the other pars' arms.
pub data Arms (V : Type 0) : Type 0 where
  no_arms : Arms V
  both : (a b : ℕ) (l : Own V) (L : Arms V) (r : Own V) (R : Arms V) (rest : Arms V) → Arms V

-- A thread with all threads below it.
pub record Thread (V : Type 0) : Type 0 where
  pub own : Own V
  pub below : Arms V

-- The stores, by variable, and main with all threads below it. A private's value lies with its owner.
pub record Config (V : Type 0) : Type 0 where
  pub stores : List V
  pub main : Thread V

-- Paused, held, ended or past: what both arms have to be for a join.
abbrev pub quiet : State → Bool
quiet fresh = false
quiet (ready p) = false
quiet (waiting m B k) = false
quiet (held m B k) = true
quiet (paused m B k) = true
quiet ended = true
quiet past = true
quiet out = false

-- Paused, held or ended: what main has to be for a closing.
abbrev pub closable : State → Bool
closable fresh = false
closable (ready p) = false
closable (waiting m B k) = false
closable (held m B k) = true
closable (paused m B k) = true
closable ended = true
closable past = false
closable out = false

-- Ended or past: what both arms have to be for the parent to go on.
abbrev pub over : State → Bool
over fresh = false
over (ready p) = false
over (waiting m B k) = false
over (held m B k) = false
over (paused m B k) = false
over ended = true
over past = true
over out = false

-- Past arms take no part in a join.
abbrev pub takes_part : State → Bool
takes_part fresh = true
takes_part (ready p) = true
takes_part (waiting m B k) = true
takes_part (held m B k) = true
takes_part (paused m B k) = true
takes_part ended = true
takes_part past = false
takes_part out = true

-- Ready: what a thread has to be for a step.
abbrev pub is_ready : State → Bool
is_ready fresh = false
is_ready (ready p) = true
is_ready (waiting m B k) = false
is_ready (held m B k) = false
is_ready (paused m B k) = false
is_ready ended = false
is_ready past = false
is_ready out = false

-- Ended: what main must not be for an opening.
abbrev pub is_ended : State → Bool
is_ended fresh = false
is_ended (ready p) = false
is_ended (waiting m B k) = false
is_ended (held m B k) = false
is_ended (paused m B k) = false
is_ended ended = true
is_ended past = false
is_ended out = false

-- The par that a waiting thread waits at, by its first arm's number.
abbrev pub waits : State → Option ℕ
waits fresh = None
waits (ready p) = None
waits (waiting m B k) = Some m.next
waits (held m B k) = None
waits (paused m B k) = None
waits ended = None
waits past = None
waits out = None

module _ {V : Type 0} where
  -- A thread of what it has itself and the arms below it.
  abbrev pub thread : Own V → Arms V → Thread V
  thread o F = record { own = o; below = F }

  -- A thread is in state s, and m belongs to it.
  abbrev pub is : State → Memo V → Own V
  is s m = record { state = s; memo = m }
