use Rattle.std.proofs.Common.{sym, ap, ◌∙◌}
use Rattle.evaluator.specs.Outcomes.{mapped}
use Rattle.evaluator.specs.Rates.{shown_number}
use Rattle.evaluator.proofs.Tracing.{tracing_keeps_the_rate, absent_probes_did_not_enter}
use Rattle.evaluator.proofs.rate.Formula.traced_rate.Goals as goal

pub returns-clause-number : goal.returns-clause-number
returns-clause-number c =
    let f = c.args.self in
    ap (mapped shown_number) c.rate.ensures.answer ∙ tracing_keeps_the_rate f.limits.low f.limits.high f.code.now c.args.readings.now

pub returns-clause-probes : goal.returns-clause-probes
returns-clause-probes c = λ i others differ x ok absent.
    let f = c.args.self in
    absent_probes_did_not_enter f.limits.low f.limits.high f.code.now c.args.readings.now others i differ x (sym c.rate.ensures.answer ∙ ok) absent
