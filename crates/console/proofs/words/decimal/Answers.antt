use Rattle.std.proofs.Common.{◌∙◌}
use Rattle.console.proofs.Signs.{parsed_decimal}
use Rattle.console.proofs.words.decimal.Goals as goal

pub returns : goal.returns
returns c = c.ok.ensures.value ∙ parsed_decimal c.args.word.now c.parse.result c.parse.ensures.value.0
