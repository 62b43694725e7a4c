-- No valid program begins as bytes do in which a fault is met.
use Rattle.std.proofs.Common.{sym, ◌∙◌}
use Rattle.rules.specs.Encoding.{encode}
use Rattle.rules.proofs.Results.{not_both}
use Rattle.loading.specs.Begins.{NoValidProgramBeginsSo}
use Rattle.loading.proofs.FirstFault.{the_first_fault_is_named}
use Rattle.loading.proofs.Whole.{read_back}

pub no_valid_program_begins_so : NoValidProgramBeginsSo
no_valid_program_begins_so bs f p h y long same v = not_both (sym (the_first_fault_is_named bs (encode p) f h y (long, same)).1 ∙ read_back p v)
