use Rattle.std.proofs.Common.{vec_items}
use Rattle.console.proofs.Gathering.{NumbersSoFar}
use Rattle.console.proofs.line.numbers_in.Given as goal

abbrev pub invariant-loop-i : goal.invariant-loop-i
invariant-loop-i l = NumbersSoFar l.words (vec_items l.numbers) l.i
