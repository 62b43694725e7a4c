use Rattle.evaluator.proofs.Reading.{reading_inverts_writing}
use Rattle.evaluator.proofs.promises.reading_inverts_writing.Goals as goal

pub returns : goal.returns
returns c = reading_inverts_writing
