-- The variable of 16 bytes is a declaration where its initial value is within its limits.
use Rattle.std.proofs.Common.{◌≡◌, Some, get_or, refl, arith, rules}
use Rattle.arithmetic.specs.Operators.{combining_number}
use Rattle.rules.specs.Encoding.{kind_number, policy_number}
use Rattle.rules.specs.Outcomes.{numbered}
use Rattle.rules.specs.Reading.{kinds, policies, combinings}
use Rattle.rules.specs.declared.faults.LoadFault.TheVariants.{BadDeclaration}
use Rattle.declarations.proofs.Numbers.{combining_named, known_at}
use Rattle.declarations.proofs.Limits.{within_limits}
use Rattle.declarations.proofs.reading.declaration_in.Goals as goal
use Rattle.declarations.proofs.reading.declaration_in.Goals.{In_ok-map_err-3}

-- The first three bytes are the numbers of the kind, the policy and the operator.
numbers : (c : In_ok-map_err-3) →
    (numbered kind_number kinds (get_or c.args.bytes.now 0 0) ≡ Some c.in_ok-map_err.field-0)
    × (numbered policy_number policies (get_or c.args.bytes.now 1 0) ≡ Some c.in_ok-map_err-2.field-0)
    × (numbered combining_number combinings (get_or c.args.bytes.now 2 0) ≡ Some c.in_ok-map_err-3.field-0)
numbers c = (
  known_at kind_number kinds (get_or c.args.bytes.now 0 0) _ _ _ c.try_from.result c.in_ok-map_err.ensures.cases c.try_from.ensures refl (omega arith),
  known_at policy_number policies (get_or c.args.bytes.now 1 0) _ _ _ c.try_from-2.result c.in_ok-map_err-2.ensures.cases c.try_from-2.ensures refl (omega arith),
  known_at combining_number combinings (get_or c.args.bytes.now 2 0) _ _ _ c.try_from-3.result c.in_ok-map_err-3.ensures.cases (combining_named _ c.try_from-3.result c.try_from-3.ensures) refl (omega arith),
)

pub returns-in_err-map_err-3 : goal.returns-in_err-map_err-3
returns-in_err-map_err-3 c =
    let o = combining_named _ c.try_from-3.result c.try_from-3.ensures in
    search rules

pub returns-then-not-zeros_right : goal.returns-then-not-zeros_right
returns-then-not-zeros_right c =
    let n = numbers (goal.at.returns-then-not-zeros_right c).In_ok-map_err-3 in
    rw (n.0, n.1, n.2) (search rules)

pub returns : goal.returns
returns c =
    let n = numbers (goal.at.returns c).In_ok-map_err-3 in
    let e = within_limits _ (BadDeclaration c.args.place) _ c.try_from-4.result c.map_err-4.result (λ e g h. search rules) c.try_from-4.ensures c.map_err-4.ensures.cases in
    rw (n.0, n.1, n.2) (search rules)
