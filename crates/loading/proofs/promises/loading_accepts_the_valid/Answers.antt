use Rattle.loading.proofs.Whole.{loading_accepts_the_valid}
use Rattle.loading.proofs.promises.loading_accepts_the_valid.Goals as goal

pub returns : goal.returns
returns c = loading_accepts_the_valid
