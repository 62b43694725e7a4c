use Rattle.loading.proofs.Writing.{written_is_read}
use Rattle.loading.proofs.promises.written_is_read.Goals as goal

pub returns : goal.returns
returns c = written_is_read
