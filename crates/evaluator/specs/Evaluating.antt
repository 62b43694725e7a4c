-- What an expression's value is.
use Rattle.std.specs.Prelude.{ℕ, cond, ◌&&◌, List, [], ◌∷◌, length, take, Some, None, Ok, Err, Option, Result, ◌==◌, nat_le, nat_lt}
use Rattle.std.specs.List.{slice_get}
use Rattle.arithmetic.specs.Meaning.{Meaning, two, inverse}
use Rattle.evaluator.specs.Commands.{Command, constant, variable, operator, inversion, Placed, commands_of}
use Rattle.evaluator.specs.Outcomes.{and_then, mapped}
use Rattle.evaluator.specs.declared.refusal.Refusal.{Refusal}
use Rattle.evaluator.specs.declared.refusal.Refusal.TheVariants.{BadExpression, WrongVariable, Memory}

-- At most 16 values are stacked.
abbrev pub deepest : ℕ
deepest = 16

-- An expression has at most 64 bytes.
abbrev pub longest : ℕ
longest = 64

module _ {V : Type 0} where
  -- One value more, while fewer than 16 are stacked; the last stacked stands first.
  abbrev pub stack_one : ℕ → V → List V → Result (List V) Refusal
  stack_one p x st = cond (nat_lt (length st) deepest) (Ok (x ∷ st)) (Err (BadExpression p))

  -- A variable's value, if the variable can be read; want of room is found first.
  abbrev pub stack_found : ℕ → Option V → List V → Result (List V) Refusal
  stack_found p (Some x) st = stack_one p x st
  stack_found p None st = cond (nat_lt (length st) deepest) (Err (WrongVariable p)) (Err (BadExpression p))

  -- An operator on two values: the earlier stacked is the first.
  abbrev pub operate_two : ℕ → (V → V → V) → List V → Result (List V) Refusal
  operate_two p f [] = Err (BadExpression p)
  operate_two p f (y ∷ []) = Err (BadExpression p)
  operate_two p f (y ∷ x ∷ st) = Ok (f x y ∷ st)

  -- An operator on one value.
  abbrev pub operate_one : ℕ → (V → V) → List V → Result (List V) Refusal
  operate_one p f [] = Err (BadExpression p)
  operate_one p f (x ∷ st) = Ok (f x ∷ st)

  -- Exactly one value remains; another remainder is a bad expression at place 0.
  abbrev pub only : List V → Result V Refusal
  only [] = Err (BadExpression 0)
  only (x ∷ []) = Ok x
  only (x ∷ y ∷ st) = Err (BadExpression 0)

  -- What a variable's place holds, if it has a place.
  abbrev pub value_at : List V → Option ℕ → Option V
  value_at vs None = None
  value_at vs (Some p) = slice_get vs p

  -- What a variable holds, where `places` gives the place of each variable that can be read.
  abbrev pub value_of : List V → (places : ℕ → Option ℕ) → ℕ → Option V
  value_of vs places v = value_at vs (places v)

-- M says what values are; look gives the value of each variable that can be read.
module _ {V : Type 0} (M : Meaning V) (look : ℕ → Option V) where
  -- What the command at place p does to the stacked values.
  abbrev pub performed : ℕ → Command → List V → Result (List V) Refusal
  performed p (constant n) st = stack_one p (M.constant n) st
  performed p (variable v) st = stack_found p (look v) st
  performed p (operator o) st = operate_two p (λ x y. M.operated (two o x y)) st
  performed p inversion st = operate_one p (λ x. M.operated (inverse x)) st

  -- A command that could not be read is a bad expression at its place.
  abbrev pub step : ℕ → Option Command → List V → Result (List V) Refusal
  step p None st = Err (BadExpression p)
  step p (Some c) st = performed p c st

  -- All commands in turn.
  abbrev pub run : List Placed → List V → Result (List V) Refusal
  run [] st = Ok st
  run (c ∷ cs) st = and_then (step c.place c.command st) (run cs)

  -- The value of an expression's bytes; a length outside 1 to 64 is a bad expression at place 0.
  abbrev pub evaluated : List ℕ → Result V Refusal
  evaluated bs = cond (nat_le 1 (length bs) && nat_le (length bs) longest) (and_then (run (commands_of bs) []) only) (Err (BadExpression 0))

  -- The command that was read at place p, with the bytes after it: the values then stacked, and those bytes.
  abbrev pub taken : ℕ → Option (Command × List ℕ) → List V → Result (List V × List ℕ) Refusal
  taken p None st = Err (BadExpression p)
  taken p (Some c) st = mapped (λ st'. (st', c.1)) (performed p c.0 st)

-- The value memory: 1,024 places of variables, then 16 work places.
abbrev pub variable_places : ℕ
variable_places = 1024

-- All of its places.
abbrev pub all_places : ℕ
all_places = 1040

-- Evaluating over a value memory, where `places` gives the place of each variable that can be read.
abbrev pub evaluated_in : {V : Type 0} → Meaning V → (places : ℕ → Option ℕ) → (memory : List V) → List ℕ → Result V Refusal
evaluated_in M places memory bs = cond (length memory == all_places)
    (evaluated M (value_of (take variable_places memory) places) bs)
    (Err Memory)
