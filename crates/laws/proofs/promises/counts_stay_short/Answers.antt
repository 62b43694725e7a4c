use Rattle.laws.proofs.Order.{counts_stay_short}
use Rattle.laws.proofs.promises.counts_stay_short.Goals as goal

pub returns : goal.returns
returns g c = counts_stay_short g.row.V.Denot
