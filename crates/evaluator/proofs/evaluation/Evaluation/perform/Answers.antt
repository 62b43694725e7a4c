use Rattle.std.proofs.Common.{◌≡◌, get_or, arith}
use Rattle.std.proofs.lemmas.Grind.{common_steps}
use Rattle.arithmetic.specs.Operators.{operator_byte}
use Rattle.evaluator.specs.Commands.{operator, next_command}
use Rattle.stack.specs.Stacks.{stacked}
use Rattle.evaluator.proofs.Taking.{from, operators_cover, operator_first, taken_ok, refused_first}
use Rattle.evaluator.proofs.evaluation.Evaluation.perform.Goals as goal

pub returns-in_err-operator-in-66-to-72-default-clause-answer :
    goal.returns-in_err-operator-in-66-to-72-default-clause-answer
returns-in_err-operator-in-66-to-72-default-clause-answer g c =
    let cover = operators_cover (get_or c.args.code.now 0 0) (grind arith) (grind arith) in
    let e = c.try_from.ensures in
    absurd (grind (arith, common_steps))

pub returns-in_ok-operate_on_two-in-66-to-72-default-clause-answer :
    goal.returns-in_ok-operate_on_two-in-66-to-72-default-clause-answer
returns-in_ok-operate_on_two-in-66-to-72-default-clause-answer g c =
    let bs = c.args.code.now in
    let o = c.in_ok-operator-in-66-to-72-default.operator in
    let e = c.try_from.ensures in
    let byte : operator_byte o ≡ get_or bs 0 0 = grind (arith, common_steps) in
    taken_ok (g.A.Arithmetic.meaning c.args.self.now.arithmetic.now) _ _ (next_command bs) (operator o) (from 1 bs) _ _ (operator_first bs o byte) c.in_ok-operate_on_two-in-66-to-72-default.ensures.answer

pub returns-in_default-clause-answer : goal.returns-in_default-clause-answer
returns-in_default-clause-answer g c =
    refused_first (g.A.Arithmetic.meaning c.args.self.now.arithmetic.now) _ _ c.args.code.now (stacked c.args.self.now.stack) (λ e h. grind arith) (λ e h. grind arith) (λ e h k. grind arith) (λ e h. grind arith)
