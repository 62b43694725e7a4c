-- All parts in turn.
use Rattle.std.proofs.Common.{◌≡◌, ◌-◌, length, rules, Ok, sym, ap, ◌∙◌, arith}
use Rattle.std.proofs.lemmas.Grind.{common_steps}
use Rattle.reader.specs.Readers.{left_of, end_of}
use Rattle.rules.specs.Forms.{has_byte, has_expression, has_block, has_second_block}
use Rattle.rules.specs.Reading.{byte_in, length_in, part_in}
use Rattle.reader.proofs.Lefts.{part_there, all_there, in_turn}
use Rattle.reader.proofs.reader.Reader.take_parts.Goals as goal

pub returns-clause-answer : goal.returns-clause-answer
returns-clause-answer c p =
    let byte : byte_in p (has_byte c.args.form) (left_of c.args.self.now) ≡ Ok (c.if-has_byte.byte, left_of c.if-has_byte.rest) = grind (arith, common_steps) in
    let long : byte_in p (has_expression c.args.form) (left_of c.if-has_byte.rest) ≡ Ok (c.into.result, left_of c.if-has_expression.rest) = grind (arith, common_steps) in
    let code : part_in p c.into.result (left_of c.if-has_expression.rest) ≡ Ok (c.left-code.result.now, left_of c.part.new.self) = part_there p _ _ _ c.in_ok-part.field-0 c.in_ok-part.ensures.answer ∙ ap (λ b. Ok (b, left_of c.part.new.self)) (sym c.left-code.ensures) in
    let first_length : length_in p (has_block c.args.form) (left_of c.part.new.self) ≡ Ok (c.if-has_block.first_length, left_of c.if-has_block.rest) = grind (arith, common_steps) in
    let second_length : length_in p (has_second_block c.args.form) (left_of c.if-has_block.rest) ≡ Ok (c.if-has_second_block.second_length, left_of c.if-has_second_block.rest) = grind (arith, common_steps) in
    sym (all_there p c.args.form (left_of c.args.self.now) _ _ _ _ _ _ _ byte long code first_length second_length (part_there p _ _ _ c.in_ok-first.first c.in_ok-first.ensures.answer) (part_there p _ _ _ c.in_ok-second.second c.in_ok-second.ensures.answer))

pub returns-clause-in_turn : goal.returns-clause-in_turn
returns-clause-in_turn c =
    let ends : end_of c.if-has_second_block.rest ≡ end_of c.args.self.now = search rules in
    let second_end = c.in_ok-second.ensures.part_end ∙ ap (λ e. e - length (left_of c.part-3.new.self)) (c.part-2.ensures.end ∙ ends) in
    in_turn (end_of c.args.self.now) _ (left_of c.part-2.new.self) _ _ _ (c.in_ok-first.ensures.part_end ∙ ap (λ e. e - length (left_of c.part-2.new.self)) ends) c.in_ok-second.ensures.answer second_end
