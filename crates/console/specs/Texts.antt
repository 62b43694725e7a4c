-- The text of each answer.
use Rattle.std.specs.Prelude.{ℕ, ◌-◌, ◌^◌, false, List, [], ◌++◌, Ok, Err, codes, decimal}
use Rattle.std.specs.Fmt.{signed_decimal, padded_integral, format_spec, digits}
use Rattle.evaluator.specs.Refusals.{refusal_number, refusal_place}
use Rattle.console.specs.declared.answer.Answer.{Answer}
use Rattle.console.specs.declared.answer.Answer.TheVariants.{Evaluated, Summary}
use Rattle.console.specs.declared.answer.Rate.{Rate}
use Rattle.console.specs.declared.answer.Rate.TheVariants.{Plain, Traced}
use Rattle.console.specs.declared.tally.Tally.{Tally}

-- What the job has done: loads L ticks T steps S refusals R longest tick K of LENGTH.
abbrev pub tally_text : Tally → List ℕ
tally_text t =
    codes "loads " ++ (decimal t.loads ++ (codes " ticks " ++ (decimal t.ticks ++ (codes " steps " ++ (decimal t.steps ++ (codes " refusals " ++ (decimal t.refusals ++ (codes " longest tick " ++ (decimal t.longest_tick ++ (codes " of " ++ decimal t.tick_length))))))))))

-- A mask is eight hexadecimal digits, zeros in front.
abbrev pub mask_text : ℕ → List ℕ
mask_text m = padded_integral (format_spec 32 0 4 8 (2 ^ 64 - 1)) false [] (digits 16 false m)

-- A rate is the number, and `-` where it is plain or the mask where it is traced.
abbrev pub rate_text : Rate → List ℕ
rate_text (Plain n) = signed_decimal n ++ codes " -"
rate_text (Traced x) = signed_decimal x.number ++ (codes " " ++ mask_text x.mask)

-- A rate, or the number and the place of a refusal, after `evaluate: `; the tally after `summary: `.
abbrev pub answer_text : Answer → List ℕ
answer_text (Evaluated (Ok r)) = codes "evaluate: " ++ rate_text r
answer_text (Evaluated (Err e)) = codes "evaluate: refused " ++ (decimal (refusal_number e) ++ (codes " place " ++ decimal (refusal_place e)))
answer_text (Summary t) = codes "summary: " ++ tally_text t
