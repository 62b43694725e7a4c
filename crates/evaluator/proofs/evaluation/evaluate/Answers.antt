use Rattle.std.proofs.Common.{◌∙◌}
use Rattle.std.proofs.lemmas.List.{take_at}
use Rattle.evaluator.proofs.evaluation.evaluate.Goals as goal

pub returns-clause-variables : goal.returns-clause-variables
returns-clause-variables g c =
    let cut = c.split_at_mut-variables.ensures in
    take_at _ _ 1024 cut.front_len ∙ cut.front
