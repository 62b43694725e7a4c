use Rattle.std.proofs.Common.{◌<◌, length, arith, rules}
use Rattle.std.proofs.lemmas.Grind.{common_steps}
use Rattle.evaluator.proofs.Turns.{next_turn, refused_turn}
use Rattle.evaluator.proofs.evaluation.Evaluation.run.Goals as goal

pub loop-rest-preserved : goal.loop-rest-preserved
loop-rest-preserved g c =
    let inv = c.loop-rest.invariant in
    let e = c.in_ok-rest.ensures in
    record {
      setting = search rules;
      turn = next_turn _ _ _ _ _ _ _ inv.turn e.shorter (rw (inv.setting.arithmetic, inv.setting.scope, inv.setting.variables) at e.answer);
    }

pub returns-in_err-rest-clause-answer : goal.returns-in_err-rest-clause-answer
returns-in_err-rest-clause-answer g c =
    let inv = c.loop-rest.invariant in
    let e = c.in_err-rest.ensures in
    let some : 0 < length c.loop-rest.rest.now = grind arith in
    let whole = refused_turn _ _ _ _ _ _ inv.turn some (rw (inv.setting.arithmetic, inv.setting.scope, inv.setting.variables) at e.answer) in
    grind (arith, common_steps)
