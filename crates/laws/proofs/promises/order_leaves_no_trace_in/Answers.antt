use Rattle.laws.proofs.Order.{order_leaves_no_trace}
use Rattle.laws.proofs.promises.order_leaves_no_trace_in.Goals as goal

pub returns : goal.returns
returns g c = λ memory calls. order_leaves_no_trace g.row.A-Value.Denot (g.A.Arithmetic.meaning c.args.arithmetic.now) memory calls
