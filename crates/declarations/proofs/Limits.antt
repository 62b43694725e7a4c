-- Declarations of variables whose limits are tested.
use Rattle.std.proofs.Common.{◌≡◌, true, Ok, Err, Result, MatchResult, IsErrAnd, refl, rules}
use Rattle.std.proofs.lemmas.Result.{err_from_is_err_and}
use Rattle.evaluator.specs.Outcomes.{mapped}
use Rattle.rules.specs.Outcomes.{◌>>=◌, ensure}
use Rattle.rules.specs.declared.program.Variable.{Variable}
use Rattle.rules.specs.declared.faults.LoadFault.{LoadFault}
use Rattle.declarations.specs.Declaring.{ordered, variable_of, DeclarationOf}
use Rattle.declarations.specs.declared.declaration.Declaration.{Declaration}
use Rattle.declarations.specs.declared.declaration.NotWithinLimits.{NotWithinLimits}

-- A declaration's initial value is within its limits.
declared-ordered : (d : Declaration) → ordered d.variable.low d.variable.initial d.variable.high ≡ true
declared-ordered d = search rules

module _ (v : Variable) (f : LoadFault) (P : NotWithinLimits → LoadFault → Type 0) where
  -- A variable is declared, or refused with the fault that stands for the error.
  pub within_limits : (r : Result Declaration NotWithinLimits) (s : Result Declaration LoadFault) → ((e : NotWithinLimits) (g : LoadFault) → P e g → g ≡ f) → DeclarationOf v r → MatchResult r (λ d. s ≡ Ok d) (λ e. IsErrAnd s (P e)) → mapped variable_of s ≡ (ensure (ordered v.low v.initial v.high) f >>= λ _. Ok v)
  within_limits (Ok d) s k h m = rw (m, ← h, declared-ordered d) refl
  within_limits (Err e) s k h m = let p = err_from_is_err_and s m in rw (p.1, k e p.0 p.2, h) refl
