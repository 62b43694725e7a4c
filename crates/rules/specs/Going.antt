-- Going on in the text: arriving at a loop, pausing and holding with the innermost weak abort, going out.
use Rattle.std.specs.Prelude.{ℕ, Bool, true, false, cond, ◌&&◌, Some, None, Option, ◌==◌}
use Rattle.rules.specs.Numbering.{Step, Text}
use Rattle.rules.specs.Text.{nothing, assign, pause, branch, loop, par, abort, end, ◌then◌}
use Rattle.rules.specs.Threads.{After, leave, on, again, out_of, at, at_end, State, ready, out, Memo, Own, Arms, no_arms, both, Thread, thread, is}

-- A function that gives a at n, and elsewhere what it gave before.
abbrev pub put {ℓ} : {A : Type ℓ} → ℕ → A → (ℕ → A) → ℕ → A
put n a f m = cond (m == n) a (f m)

-- What comes after the innermost weak abort with mark 1, if there is one round the place.
abbrev pub weak_abort : After → (marks : ℕ → Bool) → Option (Text × After)
weak_abort leave marks = None
weak_abort (on B k) marks = weak_abort k marks
weak_abort (again m bound e X B k) marks = weak_abort k marks
weak_abort (out_of m w e B k) marks = elim (w && marks m.number) [ true ↦ Some (B, k) | false ↦ weak_abort k marks ]

module _ {V : Type 0} where
  -- The loop of number n has p passes left; all else stays.
  abbrev pub with_passes : (n p : ℕ) → Memo V → Memo V
  with_passes n p m = record { values = m.values; sets = m.sets; passes = put n p m.passes; marks = m.marks }

  -- The abort of number n has mark h; all else stays.
  abbrev pub with_mark : (n : ℕ) → Bool → Memo V → Memo V
  with_mark n h m = record { values = m.values; sets = m.sets; passes = m.passes; marks = put n h m.marks }

  -- Arriving at a loop from above sets its passes left to the bound.
  abbrev pub arriving : Step → Memo V → Memo V
  arriving (nothing a) m = m
  arriving (assign a v e) m = m
  arriving (pause a) m = m
  arriving (branch a e X Y) m = m
  arriving (loop a bound e X) m = with_passes a.number bound m
  arriving (par a X Y) m = m
  arriving (abort a w i e X) m = m

  -- The thread is ready at the block's first statement; at an inner block's end it goes on after its if or abort, or back to its loop's test.
  abbrev pub go_on : Text → After → Memo V → Own V
  go_on (s then B) k m = is (ready (at s B k)) (arriving s m)
  go_on end leave m = is (ready at_end) m
  go_on end (on B k) m = go_on B k m
  go_on end (again a bound e X B k) m = is (ready (at (loop a bound e X) B k)) m
  go_on end (out_of a w e B k) m = go_on B k m

  -- A thread that goes out keeps its copies and marks.
  abbrev pub goes_out : Own V → Own V
  goes_out o = is out o.memo

  -- All threads below go out.
  abbrev pub all_out : Arms V → Arms V
  all_out no_arms = no_arms
  all_out (both a b l L r R rest) = both a b (goes_out l) (all_out L) (goes_out r) (all_out R) (all_out rest)

  -- A thread becomes paused or held, unless a weak abort ends.
  abbrev pub ends_weakly : State → Memo V → Arms V → Option (Text × After) → Thread V
  ends_weakly s m F None = thread (is s m) F
  ends_weakly s m F (Some c) = thread (go_on c.0 c.1 m) (all_out F)

  -- When a thread becomes paused or held, its innermost weak abort with mark 1 round that place ends: threads below go out, and it goes on after the abort.
  abbrev pub becomes : State → After → Memo V → Arms V → Thread V
  becomes s k m F = ends_weakly s m F (weak_abort k m.marks)
