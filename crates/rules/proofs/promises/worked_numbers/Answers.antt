use Rattle.rules.proofs.Worked.{worked_numbers}
use Rattle.rules.proofs.promises.worked_numbers.Goals as goal

pub returns : goal.returns
returns c = worked_numbers
