-- Joins that are due.
use Rattle.std.specs.Prelude.{◌≡◌, ℕ, true, false, ◌&&◌, List, ◌==◌}
use Rattle.arithmetic.specs.Meaning.{Meaning}
use Rattle.rules.specs.Calls.{Call, Machine, empty, running}
use Rattle.rules.specs.Runs.{after_calls}
use Rattle.rules.specs.Threads.{State, fresh, ready, waiting, held, paused, ended, past, out, Arms, no_arms, both, Thread, quiet}

-- Of a waiting thread, something is said of the par that it waits at.
abbrev pub WhereItWaits : State → (ℕ → Type 0) → Type 0
WhereItWaits fresh P = Unit {0}
WhereItWaits (ready p) P = Unit {0}
WhereItWaits (waiting w B k) P = P w.next
WhereItWaits (held w B k) P = Unit {0}
WhereItWaits (paused w B k) P = Unit {0}
WhereItWaits ended P = Unit {0}
WhereItWaits past P = Unit {0}
WhereItWaits out P = Unit {0}

module _ {V : Type 0} where
  -- Not both arms of the par are paused, held, ended or past, and below them no join is due either.
  abbrev pub NoneDueBelow : Arms V → ℕ → Type 0
  NoneDueBelow no_arms n = Unit {0}
  NoneDueBelow (both a b l L r R rest) n = elim (n == a) [
    | true ↦ ((quiet l.state && quiet r.state) ≡ false) × WhereItWaits l.state (NoneDueBelow L) × WhereItWaits r.state (NoneDueBelow R)
    | false ↦ NoneDueBelow rest n
  ]

  -- No thread waits at a par whose join is due.
  abbrev pub NoJoinDue : Thread V → Type 0
  NoJoinDue h = WhereItWaits h.own.state (NoneDueBelow h.below)

  -- In a machine no join is due while a tick is open.
  abbrev pub NoJoinDueIn : Machine V → Type 0
  NoJoinDueIn (empty n) = Unit {0}
  NoJoinDueIn (running n bs p σ b c) = b ≡ true → NoJoinDue σ.main

-- In an open tick no join is due between calls: none after an opening, and every step does the joins that it makes due.
abbrev pub NoJoinStaysDue : Type 0 → Type 0
NoJoinStaysDue V = (M : Meaning V) (places : ℕ) (cs : List Call) → NoJoinDueIn (after_calls M places cs).0
