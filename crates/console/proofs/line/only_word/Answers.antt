use Rattle.std.proofs.Common.{◌≡◌, ℕ, List, [], ◌∷◌, length, Err, sym, refl, Bor}
use Rattle.std.proofs.lemmas.Bool.{eqb-false}
use Rattle.console.specs.Lines.{Said, said, only_word}
use Rattle.console.specs.Splitting.{texts}
use Rattle.console.specs.declared.problem.Problem.TheVariants.{ExtraWord}
use Rattle.console.proofs.line.only_word.Goals as goal

pub not_alone : (s : Said) (ws : List (Bor (List ℕ))) → (length ws ≡ 0 → ⊥) → only_word s (texts ws) ≡ Err ExtraWord
not_alone s [] h = absurd (h refl)
not_alone s (w ∷ ws) h = refl

pub returns-else-is_empty : goal.returns-else-is_empty
returns-else-is_empty c =
    sym (not_alone (said c.args.line) c.args.words.now (eqb-false _ 0 (sym c.if-is_empty.ensures)))
