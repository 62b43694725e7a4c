use Rattle.std.proofs.Common.{length}
use Rattle.evaluator.specs.Evaluating.{value_of}
use Rattle.evaluator.specs.Evaluations.{SameSetting}
use Rattle.stack.specs.Stacks.{stacked}
use Rattle.evaluator.proofs.Turns.{Turn}
use Rattle.evaluator.proofs.evaluation.Evaluation.run.Given as goal

abbrev pub invariant-loop-rest : goal.invariant-loop-rest
invariant-loop-rest g l = record {
  setting : SameSetting l.initial.self l.self;
  turn : Turn (g.A.Arithmetic.meaning l.initial.self.arithmetic.now) (value_of l.initial.self.variables.now (g.S.Scope.places l.initial.self.scope.now)) l.code l.rest (stacked l.self.stack);
}

abbrev pub decreases-loop-rest : goal.decreases-loop-rest
decreases-loop-rest g l = length l.rest
