use Rattle.std.proofs.Common.{vec_items, sym, ap, ◌∙◌, subst}
use Rattle.std.specs.Str.Iter.{split_whitespace_rest}
use Rattle.console.proofs.Parted.{Sofar, first_of, none_yet, one_more, no_more}
use Rattle.console.proofs.words.words_of.Goals as goal

pub loop-word-init : goal.loop-word-init
loop-word-init c =
    let whole = ap split_whitespace_rest c.into_iter-word-iterator.ensures.into_iter_gives ∙ c.split_whitespace-word-items.ensures.rest in
    subst (λ rest. Sofar c.args.text.now rest (vec_items c.new-words.result)) (sym whole) (none_yet c.args.text.now _ c.new-words.ensures.items)

pub loop-word-preserved : goal.loop-word-preserved
loop-word-preserved c =
    let first = first_of _ c.in-Some.word.now _ c.in-Some.ensures.steps in
    one_more c.args.text.now _ _ (vec_items c.loop-word.words) (vec_items c.push.new.self) c.in-Some.word c.loop-word.invariant first c.in_ok-push.ensures.items

pub returns : goal.returns
returns c = no_more _ _ _ c.loop-word.invariant c.in-None.ensures.steps.1
