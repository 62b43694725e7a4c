use Rattle.laws.proofs.Order.{order_leaves_no_trace}
use Rattle.laws.proofs.promises.order_leaves_no_trace.Goals as goal

pub returns : goal.returns
returns g c = order_leaves_no_trace g.row.V.Denot
