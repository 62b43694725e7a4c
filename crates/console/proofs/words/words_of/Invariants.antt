use Rattle.std.proofs.Common.{vec_items}
use Rattle.std.specs.Str.Iter.{split_whitespace_rest}
use Rattle.console.proofs.Parted.{Sofar}
use Rattle.console.proofs.words.words_of.Given as goal

abbrev pub invariant-loop-word : goal.invariant-loop-word
invariant-loop-word l = Sofar l.text (split_whitespace_rest l.word-iterator) (vec_items l.words)
