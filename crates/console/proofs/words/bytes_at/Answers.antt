use Rattle.std.proofs.Common.{vec_items, sym, ap, ◌∙◌}
use Rattle.std.specs.Result.{result_ok}
use Rattle.console.proofs.Gathering.{bytes_more}
use Rattle.console.proofs.words.bytes_at.Goals as goal

pub loop-rest-preserved : goal.loop-rest-preserved
loop-rest-preserved c =
    let byte = sym c.pair_value.ensures ∙ c.ok_or.ensures.ok_part ∙ ap result_ok c.in_ok-byte.was in
    bytes_more c.args.word.now (vec_items c.loop-rest.bytes) c.loop-rest.rest.now (vec_items c.push.new.self) c.in_ok-byte.byte c.in-len2-up.len_at_least c.loop-rest.invariant byte c.in_ok-push.ensures.items
