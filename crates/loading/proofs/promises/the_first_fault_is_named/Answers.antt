use Rattle.loading.proofs.FirstFault.{the_first_fault_is_named}
use Rattle.loading.proofs.promises.the_first_fault_is_named.Goals as goal

pub returns : goal.returns
returns c = the_first_fault_is_named
