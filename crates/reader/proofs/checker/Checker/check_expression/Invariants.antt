-- What holds of the commands left.
use Rattle.std.proofs.Common.{length}
use Rattle.reader.proofs.Commands.{CheckedTo}
use Rattle.reader.proofs.checker.Checker.check_expression.Given as goal

abbrev pub invariant-loop-left : goal.invariant-loop-left
invariant-loop-left l = CheckedTo l.self.variables.now l.thread l.from l.statement l.code l.left l.depth

abbrev pub decreases-loop-left : goal.decreases-loop-left
decreases-loop-left l = length l.left
