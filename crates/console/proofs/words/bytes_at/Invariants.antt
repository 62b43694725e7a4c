use Rattle.std.proofs.Common.{length, vec_items}
use Rattle.console.proofs.Gathering.{BytesSoFar}
use Rattle.console.proofs.words.bytes_at.Given as goal

abbrev pub invariant-loop-rest : goal.invariant-loop-rest
invariant-loop-rest l = BytesSoFar l.word (vec_items l.bytes) l.rest

abbrev pub decreases-loop-rest : goal.decreases-loop-rest
decreases-loop-rest l = length l.rest
