-- Each kind, policy and operator is found by its number.
use Rattle.std.proofs.Common.{◌≡◌, Some, refl}
use Rattle.arithmetic.specs.Operators.{combining_number}
use Rattle.arithmetic.specs.declared.operators.Combining.{Combining}
use Rattle.arithmetic.specs.declared.operators.Combining.TheVariants.{Sum, Least, Greatest, Left}
use Rattle.rules.specs.Encoding.{kind_number, policy_number}
use Rattle.rules.specs.Outcomes.{numbered}
use Rattle.rules.specs.Reading.{kinds, policies, combinings}
use Rattle.rules.specs.declared.program.Kind.{Kind}
use Rattle.rules.specs.declared.program.Policy.{Policy}

pub kind_found : (k : Kind) → numbered kind_number kinds (kind_number k) ≡ Some k
kind_found Kind.Input = refl
kind_found Kind.Private = refl
kind_found Kind.Shared = refl
kind_found Kind.Output = refl

pub policy_found : (p : Policy) → numbered policy_number policies (policy_number p) ≡ Some p
policy_found Policy.All = refl
policy_found Policy.New = refl
policy_found Policy.Mod = refl

pub operator_found : (o : Combining) → numbered combining_number combinings (combining_number o) ≡ Some o
operator_found Sum = refl
operator_found Least = refl
operator_found Greatest = refl
operator_found Left = refl
