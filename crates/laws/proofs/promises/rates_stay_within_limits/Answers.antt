use Rattle.laws.proofs.Rates.{rates_stay_within_limits}
use Rattle.laws.proofs.promises.rates_stay_within_limits.Goals as goal

pub returns : goal.returns
returns g c =
    let a = c.args.arithmetic.now in
    rates_stay_within_limits (g.A.Arithmetic.meaning a) (g.met.A.Arithmetic.constants a) (g.met.A.Arithmetic.limits a)
