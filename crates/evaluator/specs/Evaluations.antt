-- What stays the same throughout an evaluation.
use Rattle.std.specs.Prelude.{◌≡◌}
use Rattle.arithmetic.specs.declared.Arithmetic.{Ghosts}
use Rattle.evaluator.specs.declared.evaluation.Evaluation.{Evaluation}

module _ {A S V : Type 0} {g : Ghosts A V} where
  -- The arithmetic, the scope and the variables' values are the same.
  pub record SameSetting (old new : Evaluation A S V g) : Type 0 where
    pub arithmetic : new.arithmetic ≡ old.arithmetic
    pub scope : new.scope ≡ old.scope
    pub variables : new.variables ≡ old.variables
