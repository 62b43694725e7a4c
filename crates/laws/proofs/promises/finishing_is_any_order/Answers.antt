use Rattle.laws.proofs.Order.{finishing_is_any_order}
use Rattle.laws.proofs.promises.finishing_is_any_order.Goals as goal

pub returns : goal.returns
returns g c = finishing_is_any_order g.row.V.Denot
