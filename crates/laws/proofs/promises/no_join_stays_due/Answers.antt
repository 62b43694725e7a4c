use Rattle.laws.proofs.Order.{no_join_stays_due}
use Rattle.laws.proofs.promises.no_join_stays_due.Goals as goal

pub returns : goal.returns
returns g c = no_join_stays_due g.row.V.Denot
