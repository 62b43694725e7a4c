use Rattle.rules.specs.Stepping.{ready?, step}
use Rattle.laws.proofs.Confluence.{one_outcome}
use Rattle.laws.proofs.Steps.{diamond}
use Rattle.laws.proofs.promises.orders_have_one_outcome.Goals as goal

pub returns : goal.returns
returns g c = λ M ds stores. one_outcome ready? (step M ds stores) (diamond M ds stores)
