use Rattle.std.proofs.Common.{rules}
use Rattle.console.specs.Lines.{asked_for}
use Rattle.console.proofs.session.Session.take_line.Goals as goal

pub returns : goal.returns
returns c =
    let line = c.as_ref.ensures.value in
    (asked_for c.in_ok-line.line, c.in_ok-line.ensures, search (rules, line, c.perform.ensures.answer), search (rules, line, c.perform.ensures.state))
