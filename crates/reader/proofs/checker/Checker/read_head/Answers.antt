-- The head, or its fault with the site added.
use Rattle.std.proofs.Common.{rules}
use Rattle.reader.specs.Counting.{counted}
use Rattle.reader.specs.Readers.{left_of}
use Rattle.reader.proofs.Exits.{sited}
use Rattle.reader.proofs.checker.Checker.read_head.Goals as goal

pub returns-clause-answer : goal.returns-clause-answer
returns-clause-answer c =
    sited c.args.self.now.variables.now c.args.scope.nesting c.args.scope.thread (counted c.args.self.now.counts) c.args.command (left_of c.args.block.now) c.args.block.now.end (left_of c.checked_head.new.block) c.checked_head.result c.map_err.result c.map_err.ensures.cases (λ f s is. search rules) c.checked_head.ensures.answer
