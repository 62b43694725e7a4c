-- The first command, each further one, and a fault that a command has.
use Rattle.std.proofs.Common.{Err, ap, ◌∙◌, rules}
use Rattle.std.proofs.lemmas.Result.{err_from_is_err_and}
use Rattle.reader.proofs.Commands.{begun, one_more, stopped}
use Rattle.reader.proofs.checker.Checker.check_expression.Goals as goal

pub loop-left-init : goal.loop-left-init
loop-left-init c = search (rules, begun)

pub loop-left-preserved : goal.loop-left-preserved
loop-left-preserved c = search (rules, one_more, c.in_ok-depth.ensures)

pub returns-in_err-depth : goal.returns-in_err-depth
returns-in_err-depth c =
    let f = err_from_is_err_and c.from_residual.result c.from_residual.ensures.1 in
    f.1 ∙ ap Err f.2
    ∙ stopped c.args.self.now.variables.now c.args.thread c.args.from c.args.statement c.args.code.now c.loop-left.left.now c.loop-left.depth _ c.loop-left.invariant (search rules) c.in_err-depth.ensures.answer
