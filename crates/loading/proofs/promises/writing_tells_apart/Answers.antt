use Rattle.loading.proofs.Writing.{writing_tells_apart}
use Rattle.loading.proofs.promises.writing_tells_apart.Goals as goal

pub returns : goal.returns
returns c = writing_tells_apart
