-- Calls: from a machine and a call to an answer and a machine. A refused call changes nothing.
use Rattle.std.specs.Prelude.{ℕ, suc, Bool, true, false, List, [], ◌∷◌, length, ℤ, Ok, Err, Result, ◌==◌, nat_le}
use Rattle.arithmetic.specs.Meaning.{Meaning}
use Rattle.evaluator.specs.Evaluating.{all_places}
use Rattle.rules.specs.Numbering.{text_of}
use Rattle.rules.specs.Opening.{opening}
use Rattle.rules.specs.Reading.{read}
use Rattle.rules.specs.Report.{Rate, rates, reported_in, report_size}
use Rattle.rules.specs.Scopes.{is_input}
use Rattle.rules.specs.Stepping.{ready?, step}
use Rattle.rules.specs.Text.{Program}
use Rattle.rules.specs.Threads.{Config, closable, is_ended}
use Rattle.rules.specs.Ticks.{closing, finishing, loaded}
use Rattle.rules.specs.declared.faults.LoadFault.{LoadFault}
use Rattle.rules.specs.declared.program.Variable.{Variable}
use Rattle.rules.specs.declared.refusals.CallRefusal.{CallRefusal}
use Rattle.rules.specs.declared.refusals.CallRefusal.TheVariants as Refusal

-- A call with its arguments.
pub data Call : Type 0 where
  load : (bytes : List ℕ) → Call
  open_tick : (readings : List ℤ) → Call
  step_thread : (t : ℕ) → Call
  close finish : Call
  report : (space : List ℕ) → Call

-- What a call answers: no number; the open tick; a count of steps; the space with the report in it; a refusal.
pub data Answer : Type 0 where
  accepted opened : Answer
  steps : ℕ → Answer
  reported : (space : List ℕ) → Answer
  refused : CallRefusal → Answer

-- A machine over a value memory of a certain length: nothing loaded, or a program with its stores and threads, whether a tick is open, and the step count.
pub data Machine (V : Type 0) : Type 0 where
  empty : (places : ℕ) → Machine V
  running : (places : ℕ) (bytes : List ℕ) (p : Program) (σ : Config V) (open? : Bool) (count : ℕ) → Machine V

-- How many inputs are declared.
abbrev pub inputs : List Variable → ℕ
inputs [] = 0
inputs (d ∷ ds) = elim (is_input d.kind) [ true ↦ suc (inputs ds) | false ↦ inputs ds ]

module _ {V : Type 0} (M : Meaning V) where
  -- How many places the machine's value memory has.
  abbrev pub places_of : Machine V → ℕ
  places_of (empty n) = n
  places_of (running n bs p σ b c) = n

  -- A program that was read is loaded; a fault of it refuses the load.
  abbrev pub load_read : Machine V → (places : ℕ) → List ℕ → Result Program LoadFault → Answer × Machine V
  load_read m n bs (Ok p) = (accepted, running n bs p (loaded M p.variables (text_of p)) false 0)
  load_read m n bs (Err f) = (refused (Refusal.Program f), m)

  -- Loading: 12 a tick is open, then the faults of the bytes.
  abbrev pub load_call : List ℕ → Machine V → Answer × Machine V
  load_call bs (empty n) = load_read (empty n) n bs (read bs)
  load_call bs (running n old p σ true c) = (refused Refusal.TickOpen, running n old p σ true c)
  load_call bs (running n old p σ false c) = load_read (running n old p σ false c) n bs (read bs)

  -- Opening: 14 main ended, then 15 count of readings.
  abbrev pub open_closed : List ℤ → (places : ℕ) → List ℕ → Program → Config V → ℕ → Answer × Machine V
  open_closed rs n bs p σ c = elim (is_ended σ.main.own.state) [
    | true ↦ (refused Refusal.MainEnded, running n bs p σ false c)
    | false ↦ elim (length rs == inputs p.variables) [
      | true ↦ (opened, running n bs p (opening M p.variables (text_of p) rs σ) true 0)
      | false ↦ (refused Refusal.Readings, running n bs p σ false c)
    ]
  ]

  -- Opening: 12 a tick is open, 13 nothing loaded, then what stands above.
  abbrev pub open_call : List ℤ → Machine V → Answer × Machine V
  open_call rs (empty n) = (refused Refusal.NothingLoaded, empty n)
  open_call rs (running n bs p σ true c) = (refused Refusal.TickOpen, running n bs p σ true c)
  open_call rs (running n bs p σ false c) = open_closed rs n bs p σ c

  -- The step of thread t in an open tick.
  abbrev pub stepped : Program → ℕ → Config V → Config V
  stepped p t σ = record { stores = σ.stores; main = step M p.variables σ.stores t σ.main }

  -- Stepping: 16 no tick open, then 17 thread not ready; an accepted step is counted.
  abbrev pub step_call : ℕ → Machine V → Answer × Machine V
  step_call t (empty n) = (refused Refusal.NoTick, empty n)
  step_call t (running n bs p σ false c) = (refused Refusal.NoTick, running n bs p σ false c)
  step_call t (running n bs p σ true c) = elim (ready? t σ.main) [
    | true ↦ (accepted, running n bs p (stepped p t σ) true (suc c))
    | false ↦ (refused Refusal.NotReady, running n bs p σ true c)
  ]

  -- Closing needs main paused, held or ended, and answers the count.
  abbrev pub close_call : Machine V → Answer × Machine V
  close_call (empty n) = (refused Refusal.NoTick, empty n)
  close_call (running n bs p σ false c) = (refused Refusal.NoTick, running n bs p σ false c)
  close_call (running n bs p σ true c) = elim (closable σ.main.own.state) [
    | true ↦ (steps c, running n bs p (closing M p.variables σ) false c)
    | false ↦ (refused Refusal.StepsRemain, running n bs p σ true c)
  ]

  -- Finishing steps the lowest ready thread until closing is accepted, and closes.
  abbrev pub finish_call : Machine V → Answer × Machine V
  finish_call (empty n) = (refused Refusal.NoTick, empty n)
  finish_call (running n bs p σ false c) = (refused Refusal.NoTick, running n bs p σ false c)
  finish_call (running n bs p σ true c) =
      let e = finishing M p.variables (text_of p) c σ in (steps e.0, running n bs p e.1 false e.0)

  -- The rates of a configuration.
  abbrev pub rates_of : Program → Config V → List Rate
  rates_of p σ = rates M p.variables 0 σ.stores

  -- Reporting: 13 nothing loaded, then 19 too little space.
  abbrev pub report_call : List ℕ → Machine V → Answer × Machine V
  report_call space (empty n) = (refused Refusal.NothingLoaded, empty n)
  report_call space (running n bs p σ b c) = elim (nat_le (report_size (rates_of p σ)) (length space)) [
    | true ↦ (reported (reported_in space (rates_of p σ)), running n bs p σ b c)
    | false ↦ (refused Refusal.Space, running n bs p σ b c)
  ]

  -- Each call is performed by its own rule.
  abbrev pub perform_right : Call → Machine V → Answer × Machine V
  perform_right (load bs) m = load_call bs m
  perform_right (open_tick rs) m = open_call rs m
  perform_right (step_thread t) m = step_call t m
  perform_right close m = close_call m
  perform_right finish m = finish_call m
  perform_right (report space) m = report_call space m

  -- On all calls 11 comes first.
  abbrev pub perform : Call → Machine V → Answer × Machine V
  perform c m = elim (places_of m == all_places) [ true ↦ perform_right c m | false ↦ (refused Refusal.Memory, m) ]
