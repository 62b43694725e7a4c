-- The outside numbers of the refusals of calls.
use Rattle.std.specs.Prelude.{ℕ}
use Rattle.rules.specs.Faults.{load_number}
use Rattle.rules.specs.declared.refusals.CallRefusal.{CallRefusal}
use Rattle.rules.specs.declared.refusals.CallRefusal.TheVariants.{Program, Memory, TickOpen, NothingLoaded, MainEnded, Readings, NoTick, NotReady, StepsRemain, Space}

-- 1 to 10 a program's fault; 11 value memory not 1,040 places; 12 tick open; 13 nothing loaded; 14 main ended; 15 count of readings is not the count of inputs;
-- 16 no tick open; 17 thread not ready or unknown; 18 steps remain; 19 space too small.
abbrev pub call_number : CallRefusal → ℕ
call_number (Program f) = load_number f
call_number Memory = 11
call_number TickOpen = 12
call_number NothingLoaded = 13
call_number MainEnded = 14
call_number Readings = 15
call_number NoTick = 16
call_number NotReady = 17
call_number StepsRemain = 18
call_number Space = 19
