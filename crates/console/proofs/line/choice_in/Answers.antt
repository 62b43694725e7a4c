use Rattle.std.proofs.Common.{◌≡◌, ℕ, ◌≤◌, List, [], ◌∷◌, length, Err, sym, refl, arith, Bor}
use Rattle.console.specs.Choices.{choice_in}
use Rattle.console.specs.Splitting.{texts}
use Rattle.console.specs.declared.problem.Problem.TheVariants.{ExtraWord}
use Rattle.console.proofs.line.choice_in.Goals as goal

pub two_names : (ws : List (Bor (List ℕ))) → 2 ≤ length ws → choice_in (texts ws) ≡ Err ExtraWord
two_names [] h = absurd (omega arith)
two_names (w ∷ []) h = absurd (omega arith)
two_names (w ∷ v ∷ ws) h = refl

pub returns-in_default : goal.returns-in_default
returns-in_default c = sym (two_names c.args.words.now c.in_default.len_at_least)
