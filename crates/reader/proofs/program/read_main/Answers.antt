-- Main's block that was read, and the fault that reading it found.
use Rattle.std.proofs.Common.{Err, ap, ◌∙◌, arith}
use Rattle.std.proofs.lemmas.Bool.{le-leb}
use Rattle.std.proofs.lemmas.Result.{err_from_is_err_and}
use Rattle.reader.proofs.Mains.{main_read, main_stopped}
use Rattle.reader.proofs.program.read_main.Goals as goal

pub returns : goal.returns
returns c =
    let k = c.new-checker.ensures in
    main_read c.args.variables.now c.args.from c.args.program.now (le-leb _ 4096 (omega arith)) _ _ c.in_ok-text.ensures _ k.variables _ k.counts _ _ c.in_ok-extent.ensures.answer

pub returns-in_err-extent : goal.returns-in_err-extent
returns-in_err-extent c =
    let f = err_from_is_err_and c.from_residual-in_err-extent.result c.from_residual-in_err-extent.ensures.1 in let k = c.new-checker.ensures in
    f.1 ∙ ap Err f.2 ∙ main_stopped c.args.variables.now c.args.from c.args.program.now (le-leb _ 4096 (omega arith)) _ _ c.in_ok-text.ensures _ k.variables _ k.counts _ c.in_err-extent.ensures.answer
