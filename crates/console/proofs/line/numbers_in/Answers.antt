use Rattle.std.proofs.Common.{◌≡◌, [], ◌∷◌, ◌++◌, ℤ, vec_items, sym, ap, ◌∙◌, w32, to_z, of_z, rules}
use Rattle.console.proofs.Gathering.{numbers_more}
use Rattle.console.proofs.line.numbers_in.Goals as goal

pub loop-i-preserved : goal.loop-i-preserved
loop-i-preserved c =
    let n = c.in_ok-number.number in
    let same : to_z w32 (of_z w32 n) ≡ n = search rules in
    numbers_more c.args.words.now (vec_items c.loop-i.numbers) (vec_items c.push.new.self) c.loop-i.i _ n c.loop-i-test.true c.loop-i.invariant (sym c.number_at.ensures ∙ c.in_ok-number.was)
    (c.in_ok-push.ensures.items ∙ ap (λ (k : ℤ). vec_items c.loop-i.numbers ++ (k ∷ [])) same)
