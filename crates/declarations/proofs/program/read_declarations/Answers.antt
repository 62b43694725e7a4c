-- Each declaration is read, or refused.
use Rattle.std.proofs.Common.{◌+◌, length, get_or, ap, ◌∙◌}
use Rattle.std.proofs.lemmas.List.{length_push}
use Rattle.std.proofs.lemmas.Result.{err_from_is_err_and}
use Rattle.declarations.specs.Declaring.{variable_of}
use Rattle.declarations.specs.Listing.{listed}
use Rattle.declarations.proofs.InOrder.{turn_read, turn_refused}
use Rattle.declarations.proofs.program.read_declarations.Goals as goal

pub returns-in_err-declaration_at : goal.returns-in_err-declaration_at
returns-in_err-declaration_at c =
    let p = c.args.program.now in
    let r = err_from_is_err_and c.from_residual.result c.from_residual.ensures.1 in
    rw (r.1, r.2) (turn_refused p (listed c.loop-i.declarations) (get_or p 0 0) c.loop-i.i c.loop-i-test.true c.loop-i.invariant.1 _ c.place_of.ensures _ c.in_err-declaration_at.ensures)

pub loop-i-preserved : goal.loop-i-preserved
loop-i-preserved c =
    let p = c.args.program.now in
    let ds = listed c.loop-i.declarations in
    let d = variable_of c.in_ok-declaration_at.field-0 in (
      ap length c.push.ensures ∙ length_push ds d ∙ ap (λ n. n + 1) c.loop-i.invariant.0,
      turn_read p ds (get_or p 0 0) c.loop-i.i c.loop-i-test.true c.loop-i.invariant.1 _ c.place_of.ensures d _ c.in_ok-declaration_at.ensures c.push.ensures,
    )
