-- The block by its statements, and the statement by its blocks.
use Rattle.std.proofs.Common.{◌∙◌, rules}
use Rattle.reader.specs.Counting.{counted}
use Rattle.reader.specs.Readers.{left_of}
use Rattle.reader.specs.Told.{with_counts, with_counts_and_left}
use Rattle.reader.proofs.Mapped.{err_mapped}
use Rattle.reader.proofs.Turns.{begun_at, one_more_at, stopped_at}
use Rattle.reader.proofs.Ways.{no_head, first_stopped, second_stopped, both_read}
use Rattle.reader.proofs.checker.Checker.+reading.Goals as goal

pub read_statements-loop-command-init : goal.read_statements-loop-command-init
read_statements-loop-command-init t c = search (rules, begun_at)

pub read_statements-loop-command-preserved : goal.read_statements-loop-command-preserved
read_statements-loop-command-preserved t c =
    let f = c.in_ok-one.ensures in
    one_more_at c.args.self.now c.args.scope.now c.args.block _ _ _ _ c.loop-command.invariant _ c.byte.new.self c.in-Some.ensures.answer c.in-Some.ensures.end c.read_statement.new.self c.read_statement.new.scope c.read_statement.new.block c.in_ok-one.one _ f.answer f.shorter f.end f.variables f.scope c.joined-extent.ensures

pub read_statements-returns-in_err-one-clause-answer : goal.read_statements-returns-in_err-one-clause-answer
read_statements-returns-in_err-one-clause-answer t c =
    err_mapped (with_counts (counted c.read_statement.new.self.counts)) c.from_residual.result c.in_err-one.field-0.0 c.from_residual.ensures.1
    ∙ stopped_at c.args.self.now c.args.scope.now c.args.block _ _ _ _ c.loop-command.invariant _ c.byte.new.self c.in-Some.ensures.answer c.in-Some.ensures.end _ c.in_err-one.ensures.answer

pub read_statement-returns-in_err-head-clause-answer : goal.read_statement-returns-in_err-head-clause-answer
read_statement-returns-in_err-head-clause-answer t c =
    err_mapped (with_counts_and_left (counted c.args.self.now.counts) (left_of c.read_head.new.block)) c.from_residual.result _ c.from_residual.ensures.1
    ∙ no_head c.args.self.now c.args.scope.now c.args.block.now c.args.command _ c.in_err-head.ensures.answer

pub read_statement-returns-in_err-first-clause-answer : goal.read_statement-returns-in_err-first-clause-answer
read_statement-returns-in_err-first-clause-answer t c =
    let f = c.in_ok-head.ensures in
    err_mapped (with_counts_and_left (counted c.read_block.new.self.counts) (left_of c.read_head.new.block)) c.from_residual-in_err-first.result _ c.from_residual-in_err-first.ensures.1
    ∙ first_stopped c.args.self.now c.args.scope.now c.args.block.now c.args.command c.read_head.new.block c.in_ok-head.head _ _ f.answer f.in_turn c.par_count-forks.ensures.0 c.block_thread-owner.ensures _ c.in_err-first.ensures.answer

pub read_statement-returns-in_err-second-clause-answer : goal.read_statement-returns-in_err-second-clause-answer
read_statement-returns-in_err-second-clause-answer t c =
    let f = c.in_ok-head.ensures in let x = c.in_ok-first.ensures in
    err_mapped (with_counts_and_left (counted c.read_block-2.new.self.counts) (left_of c.read_head.new.block)) c.from_residual-in_err-second.result _ c.from_residual-in_err-second.ensures.1
    ∙ second_stopped c.args.self.now c.args.scope.now c.args.block.now c.args.command c.read_head.new.block c.in_ok-head.head _ _ f.answer f.in_turn c.par_count-forks.ensures.0 c.block_thread-owner.ensures
    c.in_ok-first.first c.read_block.new.self c.read_block.new.scope x.answer x.variables x.scope _ c.block_thread-owner-2.ensures _ c.in_err-second.ensures.answer

pub read_statement-returns-clause-answer : goal.read_statement-returns-clause-answer
read_statement-returns-clause-answer t c =
    let f = c.in_ok-head.ensures in let x = c.in_ok-first.ensures in
    both_read c.args.self.now c.args.scope.now c.args.block.now c.args.command c.read_head.new.block c.in_ok-head.head _ _ f.answer f.in_turn c.par_count-forks.ensures.0 c.block_thread-owner.ensures
    c.in_ok-first.first c.read_block.new.self c.read_block.new.scope x.answer x.variables x.scope _ c.block_thread-owner-2.ensures c.in_ok-second.second _ (counted c.read_block-2.new.self.counts) c.built.ensures f.fine.no_first f.fine.no_second c.in_ok-second.ensures.answer
