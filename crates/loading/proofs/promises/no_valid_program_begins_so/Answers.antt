use Rattle.loading.proofs.Begins.{no_valid_program_begins_so}
use Rattle.loading.proofs.promises.no_valid_program_begins_so.Goals as goal

pub returns : goal.returns
returns c = no_valid_program_begins_so
