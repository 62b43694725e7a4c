-- The bytes that no arm takes begin with no command, or with one that the stack has no values or no room for.
use Rattle.std.proofs.Common.{arith}
use Rattle.reader.proofs.Commands.{refused_first}
use Rattle.reader.proofs.checker.Checker.step.Goals as goal

pub returns-in_default-clause-answer : goal.returns-in_default-clause-answer
returns-in_default-clause-answer c =
    refused_first c.args.self.now.variables.now c.args.thread c.args.place c.args.depth c.args.left.now
    (λ e h. grind arith) (λ e h. grind arith) (λ e h k. grind arith) (λ e h. grind arith)
