-- The part, and what is left after it.
use Rattle.std.proofs.Common.{rules}
use Rattle.reader.proofs.Lefts.{part_taken}
use Rattle.reader.proofs.reader.Reader.part.Goals as goal

pub returns-clause-answer : goal.returns-clause-answer
returns-clause-answer c = part_taken _ _ _ _ c.args.self.now.within c.args.self.now.inside (search rules)
