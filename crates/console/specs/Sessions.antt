-- What a job has chosen and done, and what it answers to a line.
use Rattle.std.specs.Prelude.{◌≡◌, ℕ, ◌+◌, ◌-◌, ◌^◌, min, List, Some, None, Ok, Err, Option, Result, ◌≢◌, option_and_then}
use Rattle.std.specs.Option.{option_map_or}
use Rattle.arithmetic.specs.Plain.{plain}
use Rattle.arithmetic.specs.Tracing.{tracing}
use Rattle.evaluator.specs.Outcomes.{mapped}
use Rattle.evaluator.specs.Rates.{rate_of}
use Rattle.evaluator.specs.declared.refusal.Refusal.{Refusal}
use Rattle.console.specs.Lines.{Asked, Said, arithmetic, evaluate, summary, Means}
use Rattle.console.specs.declared.answer.Answer.{Answer}
use Rattle.console.specs.declared.answer.Answer.TheVariants as answers
use Rattle.console.specs.declared.answer.Rate.{Rate}
use Rattle.console.specs.declared.answer.Rate.TheVariants as rates
use Rattle.console.specs.declared.choice.Choice.{Choice}
use Rattle.console.specs.declared.choice.Choice.TheVariants.{Plain, Tracing}
use Rattle.console.specs.declared.problem.Problem.{Problem}
use Rattle.console.specs.declared.problem.Problem.TheVariants.{OutOfMemory}
use Rattle.console.specs.declared.session.Session.{Session}
use Rattle.console.specs.declared.tally.Tally.{Tally}

-- Nothing was done: every number is 0.
abbrev pub nothing_done : Tally
nothing_done = record { loads = 0; ticks = 0; steps = 0; refusals = 0; longest_tick = 0; tick_length = 0 }

-- A job begins in the plain arithmetic.
abbrev pub fresh : Session
fresh = record { choice = Plain; tally = nothing_done }

-- The rate in the chosen arithmetic, or its refusal.
abbrev pub evaluated_by : Choice → Asked → Result Rate Refusal
evaluated_by Plain a = mapped rates.Plain (rate_of plain a.low a.high a.code a.readings)
evaluated_by Tracing a = mapped rates.Traced (rate_of tracing a.low a.high a.code a.readings)

-- One refusal more; the count stops at 2^64 - 1.
abbrev pub refused_once : Tally → Tally
refused_once t = record t { refusals = min (t.refusals + 1) (2 ^ 64 - 1) }

-- A refusal is counted, and nothing else.
abbrev pub counted : Result Rate Refusal → Tally → Tally
counted (Ok x) t = t
counted (Err e) t = refused_once t

-- The job after a line: `arithmetic` chooses, and `evaluate` counts a refusal.
abbrev pub performed : Session → Said → Session
performed s (arithmetic c) = record s { choice = c }
performed s (evaluate a) = record s { tally = counted (evaluated_by s.choice a) s.tally }
performed s summary = s

-- The answer to a line: a rate or a refusal to `evaluate`, the tally to `summary`, and none to `arithmetic`.
abbrev pub answered : Session → Said → Option Answer
answered s (arithmetic c) = None
answered s (evaluate a) = Some (answers.Evaluated (evaluated_by s.choice a))
answered s summary = Some (answers.Summary s.tally)

-- A line that asks for something is performed and answered; one that asks for nothing has no answer and changes nothing; a bad line changes nothing.
abbrev pub Took : Session → List ℕ → Result (Option Answer) Problem → Session → Type 0
Took before text (Ok a) after =
    (s : Option Said) × Means text (Ok s) × (a ≡ option_and_then (answered before) s) × (after ≡ option_map_or (performed before) s before)
Took before text (Err e) after = (after ≡ before) × ((e ≢ OutOfMemory) → Means text (Err e))
