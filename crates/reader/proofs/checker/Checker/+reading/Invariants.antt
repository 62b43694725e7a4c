-- Each block that is entered allows one nested block less, and each statement leaves fewer bytes.
use Rattle.std.proofs.Common.{◌+◌, ◌*◌, length}
use Rattle.reader.specs.Readers.{left_of}
use Rattle.reader.proofs.Turns.{ReadOn}
use Rattle.reader.proofs.checker.Checker.+reading.Given as goal

abbrev pub decreases-read_block : goal.decreases-read_block
decreases-read_block l = 3 * l.scope.now.nesting

abbrev pub decreases-read_statement : goal.decreases-read_statement
decreases-read_statement l = 3 * l.scope.now.nesting + 1

abbrev pub decreases-read_statements : goal.decreases-read_statements
decreases-read_statements l = 3 * l.scope.now.nesting + 2

abbrev pub invariant-read_statements-loop-command : goal.invariant-read_statements-loop-command
invariant-read_statements-loop-command l = ReadOn l.initial.self l.initial.scope l.initial.block l.self l.scope l.block l.extent

abbrev pub decreases-read_statements-loop-command : goal.decreases-read_statements-loop-command
decreases-read_statements-loop-command l = length (left_of l.block)
