use Rattle.laws.proofs.Steps.{diamond}
use Rattle.laws.proofs.promises.steps_can_be_exchanged.Goals as goal

pub returns : goal.returns
returns g c = λ M ds stores. diamond M ds stores
