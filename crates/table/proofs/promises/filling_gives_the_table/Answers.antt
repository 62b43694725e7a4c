use Rattle.table.proofs.Filling.{table_filled}
use Rattle.table.proofs.promises.filling_gives_the_table.Goals as goal

pub returns : goal.returns
returns c = table_filled
