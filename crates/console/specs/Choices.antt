-- The two arithmetics by their names.
use Rattle.std.specs.Prelude.{ℕ, if◌then◌else◌, List, [], ◌∷◌, Ok, Err, codes, Result}
use Rattle.std.specs.Str.{bytes_eq}
use Rattle.console.specs.declared.choice.Choice.{Choice}
use Rattle.console.specs.declared.choice.Choice.TheVariants.{Plain, Tracing}
use Rattle.console.specs.declared.problem.Problem.{Problem}
use Rattle.console.specs.declared.problem.Problem.TheVariants.{NoSuchArithmetic, MissingWord, ExtraWord}

-- `plain` and `tracing` name them, and no other word does.
abbrev pub choice_named : List ℕ → Result Choice Problem
choice_named w =
    if bytes_eq w (codes "plain") then Ok Plain
    else (if bytes_eq w (codes "tracing") then Ok Tracing else Err NoSuchArithmetic)

-- After `arithmetic` stands its name.
abbrev pub choice_in : List (List ℕ) → Result Choice Problem
choice_in [] = Err MissingWord
choice_in (w ∷ []) = choice_named w
choice_in (w ∷ v ∷ ws) = Err ExtraWord
