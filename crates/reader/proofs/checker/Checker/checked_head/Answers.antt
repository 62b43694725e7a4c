-- A head that passed every check, and one whose expression is wrong.
use Rattle.std.proofs.Common.{◌≡◌, ◌∙◌, Ok, ap, rules}
use Rattle.evaluator.specs.Outcomes.{mapped}
use Rattle.reader.specs.Counting.{counted}
use Rattle.reader.specs.Pieces.{pieces}
use Rattle.reader.specs.Readers.{left_of}
use Rattle.reader.specs.Seen.{seen}
use Rattle.rules.specs.Reading.{parts_in}
use Rattle.rules.specs.declared.faults.ReadingFault.TheVariants.{Cut}
use Rattle.reader.proofs.Mapped.{err_mapped, ok_or_other}
use Rattle.reader.proofs.Exits.{right_head, wrong_code}
use Rattle.reader.proofs.Sizes.{fine_head}
use Rattle.reader.proofs.checker.Checker.checked_head.Goals as goal
use Rattle.reader.proofs.checker.Checker.checked_head.Goals.{In_ok-parts}

-- The parts that were taken are those of the rules, whatever fault their absence would give.
parts_there : (c : In_ok-parts) → mapped (pieces (left_of c.take_parts.new.self)) (Ok c.in_ok-parts.parts) ≡ parts_in c.statement-statement.result c.in_ok-form.form (left_of c.args.block.now)
parts_there c =
    let there = ok_or_other _ _ (Cut c.statement-statement.result) _ c.in_ok-parts.ensures.value in
    ap (mapped (pieces (left_of c.take_parts.new.self))) there ∙ c.take_parts.ensures.answer c.statement-statement.result

pub returns-in_err-parts-clause-answer : goal.returns-in_err-parts-clause-answer
returns-in_err-parts-clause-answer c =
    search (rules, c.take_parts.ensures.answer c.statement-statement.result)

pub returns-then-not-flags_known-clause-answer : goal.returns-then-not-flags_known-clause-answer
returns-then-not-flags_known-clause-answer c =
    let parts = parts_there (goal.at.returns-then-not-flags_known-clause-answer c).In_ok-parts in
    search (rules, parts)

pub returns-then-not-set_right-clause-answer : goal.returns-then-not-set_right-clause-answer
returns-then-not-set_right-clause-answer c =
    let parts = parts_there (goal.at.returns-then-not-set_right-clause-answer c).In_ok-parts in
    search (rules, parts)

pub returns-clause-answer : goal.returns-clause-answer
returns-clause-answer c =
    let left = left_of c.take_parts.new.self in
    let parts = parts_there (goal.at.returns-clause-answer c).In_ok-parts in
    right_head c.args.self.now.variables.now c.args.scope.nesting c.args.scope.thread (counted c.args.self.now.counts) c.args.command (left_of c.args.block.now) c.statement-statement.result _ c.code_begin-code_place.result c.in_ok-form.form (pieces left c.in_ok-parts.parts) _ c.statement-statement.ensures c.code_begin-code_place.ensures.0 (search rules) (search rules) parts (search rules) (search rules) c.in_ok-check_code.ensures

pub returns-clause-fine : goal.returns-clause-fine
returns-clause-fine c =
    let parts = parts_there (goal.at.returns-clause-fine c).In_ok-parts in
    fine_head (left_of c.args.block.now) (left_of c.take_parts.new.self) c.args.scope.nesting c.statement-statement.result c.args.self.now.counts _ (search rules) parts

pub returns-in_err-check_code-clause-answer : goal.returns-in_err-check_code-clause-answer
returns-in_err-check_code-clause-answer c =
    let left = left_of c.take_parts.new.self in
    let parts = parts_there (goal.at.returns-in_err-check_code-clause-answer c).In_ok-parts in
    err_mapped (seen left) c.from_residual-in_err-check_code.result c.in_err-check_code.field-0.0 (search rules)
    ∙ wrong_code c.args.self.now.variables.now c.args.scope.nesting c.args.scope.thread (counted c.args.self.now.counts) c.args.command (left_of c.args.block.now) c.statement-statement.result _ c.code_begin-code_place.result c.in_ok-form.form (pieces left c.in_ok-parts.parts) _ c.statement-statement.ensures c.code_begin-code_place.ensures.0 (search rules) (search rules) parts (search rules) (search rules) c.in_err-check_code.ensures
