-- The first owner that is none of the threads decides.
use Rattle.std.proofs.Common.{◌≡◌, position, ap, ◌∙◌, rules, tests}
use Rattle.std.proofs.lemmas.Iterator.{YieldsList-from_slice}
use Rattle.std.proofs.lemmas.Iterator.Search.{position_from_yields_List}
use Rattle.declarations.specs.Listing.{listed}
use Rattle.declarations.proofs.Owners.{bad_at, is_dead, first_dead_decides}
use Rattle.declarations.proofs.program.owners_live.Goals as goal

pub returns : goal.returns
returns c =
    let p = is_dead c.args.threads in
    let ds = c.as_slice.result.now in
    let e : c.position-dead.result ≡ position p ds = position_from_yields_List p _ _ c.position-dead.result c.position-dead.ensures.ran (YieldsList-from_slice ds cc) (λ x b q k. search (rules, tests)) in
    let m : c.map_or.result ≡ bad_at c.position-dead.result = search rules in
    m ∙ ap bad_at e ∙ first_dead_decides c.args.threads ds (listed c.args.declarations.now) c.as_slice.ensures.same
