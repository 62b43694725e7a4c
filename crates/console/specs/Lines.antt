-- What the words of a line ask for.
use Rattle.std.specs.Prelude.{◌≡◌, ℕ, Bool, if◌then◌else◌, List, [], ◌∷◌, length, ℤ, Some, None, Ok, Err, vec_items, codes, Option, Result, ◌==◌, ◌≢◌, int_lt, nat_le, slice_index}
use Rattle.std.specs.Option.{option_map}
use Rattle.std.specs.Str.{bytes_eq}
use Rattle.evaluator.specs.Outcomes.{and_then, mapped}
use Rattle.evaluator.specs.Rates.{most_variables}
use Rattle.evaluator.specs.declared.limits.Limits.{Limits}
use Rattle.console.specs.Choices.{choice_in}
use Rattle.console.specs.Decimal.{number_at, numbers_from}
use Rattle.console.specs.Hexadecimal.{expression_at}
use Rattle.console.specs.Splitting.{Words}
use Rattle.console.specs.declared.choice.Choice.{Choice}
use Rattle.console.specs.declared.line.Evaluation.{Evaluation}
use Rattle.console.specs.declared.line.Line.{Line}
use Rattle.console.specs.declared.line.Line.TheVariants.{Arithmetic, Evaluate, Summary}
use Rattle.console.specs.declared.problem.Problem.{Problem}
use Rattle.console.specs.declared.problem.Problem.TheVariants.{NoSuchCommand, MissingWord, ExtraWord, LowOverHigh, TooManyReadings, OutOfMemory}

-- An expression, the limits of its rate, and the readings.
pub record Asked : Type 0 where
  pub low : ℤ
  pub high : ℤ
  pub code : List ℕ
  pub readings : List ℤ

-- What a line asks for, where it asks for something.
pub data Said : Type 0 where
  arithmetic : Choice → Said
  evaluate : Asked → Said
  summary : Said

-- An evaluation as it is asked for: limits, bytes and readings.
abbrev pub evaluation_said : Evaluation → Asked
evaluation_said e = record { low = e.limits.low; high = e.limits.high; code = vec_items e.code; readings = vec_items e.readings }

-- What a line of the code asks for.
abbrev pub said : Line → Said
said (Arithmetic c) = arithmetic c
said (Evaluate e) = evaluate (evaluation_said e)
said Summary = summary

-- What a line asks for, if anything.
abbrev pub asked_for : Option Line → Option Said
asked_for = option_map said

-- The two numbers of limits.
abbrev pub limits_shown : Limits → ℤ × ℤ
limits_shown l = (l.low, l.high)

-- Low over high is no pair of limits.
abbrev pub ordered : ℤ → ℤ → Result (ℤ × ℤ) Problem
ordered l h = if int_lt h l then Err LowOverHigh else Ok (l, h)

-- The limits are words 2 and 3 of their line.
abbrev pub limits_in : List ℕ → List ℕ → Result (ℤ × ℤ) Problem
limits_in low high = and_then (number_at 2 low) (λ l. and_then (number_at 3 high) (ordered l))

-- The readings stand from word 5 on, at most 32.
abbrev pub readings_in : List (List ℕ) → Result (List ℤ) Problem
readings_in ws = if nat_le (length ws) most_variables then numbers_from 5 ws else Err TooManyReadings

-- Limits, bytes and readings are what an evaluation asks for.
abbrev pub asked : ℤ × ℤ → List ℕ → List ℤ → Asked
asked l bs ns = record { low = l.0; high = l.1; code = bs; readings = ns }

-- After `evaluate` stand LOW HIGH HEX R R ..; the first problem counts.
abbrev pub evaluation_in : List (List ℕ) → Result Asked Problem
evaluation_in [] = Err MissingWord
evaluation_in (low ∷ []) = Err MissingWord
evaluation_in (low ∷ high ∷ []) = Err MissingWord
evaluation_in (low ∷ high ∷ code ∷ rs) =
    and_then (limits_in low high) (λ l. and_then (expression_at 4 code) (λ bs. mapped (asked l bs) (readings_in rs)))

-- A command that takes no words.
abbrev pub only_word : Said → List (List ℕ) → Result Said Problem
only_word s [] = Ok s
only_word s (w ∷ ws) = Err ExtraWord

-- The commands by name.
abbrev pub command_line : List ℕ → List (List ℕ) → Result Said Problem
command_line w ws =
    if bytes_eq w (codes "arithmetic") then mapped arithmetic (choice_in ws)
    else (if bytes_eq w (codes "evaluate") then mapped evaluate (evaluation_in ws)
    else (if bytes_eq w (codes "summary") then only_word summary ws else Err NoSuchCommand))

-- A word that begins with `#`.
abbrev pub comment : List ℕ → Bool
comment w = slice_index w 0 == 35

-- No words, or a comment, ask for nothing.
abbrev pub line_of : List (List ℕ) → Result (Option Said) Problem
line_of [] = Ok None
line_of (w ∷ ws) = if comment w then Ok None else mapped Some (command_line w ws)

-- The words of a text give that by the rule.
abbrev pub Means : List ℕ → Result (Option Said) Problem → Type 0
Means text s = (ws : List (List ℕ)) × Words text ws × (line_of ws ≡ s)

-- A text is read as it means; of a want of memory nothing is said.
abbrev pub ReadsAs : List ℕ → Result (Option Line) Problem → Type 0
ReadsAs text (Ok l) = Means text (Ok (asked_for l))
ReadsAs text (Err e) = (e ≢ OutOfMemory) → Means text (Err e)
