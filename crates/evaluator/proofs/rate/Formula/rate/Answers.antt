use Rattle.std.proofs.Common.{◌≡◌, Ok, sym, ap, ◌∙◌, subst, arith, rules}
use Rattle.std.proofs.lemmas.Grind.{common_steps}
use Rattle.evaluator.specs.Outcomes.{mapped}
use Rattle.evaluator.specs.Rates.{Within}
use Rattle.evaluator.proofs.Sampling.{rate_is}
use Rattle.evaluator.proofs.rate.Formula.rate.Goals as goal

pub returns-in_err-value-clause-answer : goal.returns-in_err-value-clause-answer
returns-in_err-value-clause-answer g c =
    let f = c.args.self in
    let same = rate_is (g.A.Arithmetic.meaning c.args.arithmetic.now) c.args.readings.now c.place_readings.new.memory f.code.now f.limits.low f.limits.high
    (omega arith) (omega arith) c.place_readings.ensures in
    grind (arith, common_steps)

pub returns-clause-answer : goal.returns-clause-answer
returns-clause-answer g c =
    let M = g.A.Arithmetic.meaning c.args.arithmetic.now in
    let f = c.args.self in
    let limited : c.limited.result ≡ M.limited f.limits.low f.limits.high c.in_ok-value.value = search rules in
    ap Ok limited ∙ ap (mapped (M.limited f.limits.low f.limits.high)) c.in_ok-value.ensures.answer
    ∙ rate_is M c.args.readings.now c.place_readings.new.memory f.code.now f.limits.low f.limits.high (omega arith) (omega arith) c.place_readings.ensures

pub returns-clause-within : goal.returns-clause-within
returns-clause-within g c =
    let M = g.A.Arithmetic.meaning c.args.arithmetic.now in
    let l = c.args.self.limits in
    let law = g.met.A.Arithmetic.limits c.args.arithmetic.now l.low l.high c.in_ok-value.value l.ordered in
    let limited : c.limited.result ≡ M.limited l.low l.high c.in_ok-value.value = search rules in
    subst (Within M l.low l.high) (sym limited) (law.above, law.below)
