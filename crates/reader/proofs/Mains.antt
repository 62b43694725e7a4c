-- Main's block, as the code reads it.
use Rattle.std.proofs.Common.{◌≡◌, ℕ, true, leb, List, length, Ok, Err, Result, sym, ap, ◌∙◌, arith}
use Rattle.std.proofs.lemmas.Grind.{common_steps}
use Rattle.evaluator.specs.Outcomes.{mapped}
use Rattle.rules.specs.Outcomes.{◌>>=◌}
use Rattle.rules.specs.Reading.{Counts, start, read_block}
use Rattle.rules.specs.Text.{Block}
use Rattle.rules.specs.declared.faults.LoadFault.{LoadFault}
use Rattle.rules.specs.declared.program.Variable.{Variable}
use Rattle.reader.specs.declared.extents.Extent.{Extent}
use Rattle.reader.specs.declared.counts.Counts.{Counts as Kept}
use Rattle.reader.specs.Counting.{counted, kept}
use Rattle.reader.specs.Readers.{from_place}
use Rattle.reader.specs.Summaries.{main_in, summary}
use Rattle.reader.specs.Told.{sum_block}
use Rattle.reader.proofs.Mapped.{mapped_ok, mapped_err}

module _ (ds : List Variable) (k : ℕ) (bs : List ℕ) where
  -- The block of the bytes before an end.
  abbrev block_of : ℕ × List ℕ → Result (Block (Unit {0})) LoadFault
  block_of q = read_block ds 16 0 start q.0 q.1

  -- The block from what the reader finds.
  abbrev block_from : Result (ℕ × List ℕ) LoadFault → Result (Block (Unit {0})) LoadFault
  block_from r = r >>= block_of

  -- Main's block is that of the bytes from the place on, if there are such and the program is not too long.
  by_reader : leb (length bs) 4096 ≡ true → block_from (from_place k bs) ≡ main_in ds k bs
  by_reader h = grind (arith, common_steps)

  module _ (short : leb (length bs) 4096 ≡ true) (e : ℕ) (l : List ℕ) (text : Ok (e, l) ≡ from_place k bs) (ds' : List Variable) (known : ds' ≡ ds) (a : Counts) (none : a ≡ start) where
    main_is : mapped (sum_block a) (read_block ds' 16 0 a e l) ≡ mapped (sum_block start) (main_in ds k bs)
    main_is =
        (λ i. mapped (sum_block (none i)) (read_block (known i) 16 0 (none i) e l))
        ∙ ap (mapped (sum_block start)) (ap block_from text ∙ by_reader short)

    pub main_read : (x : Extent) (b : Kept) → Ok (x, counted b) ≡ mapped (sum_block a) (read_block ds' 16 0 a e l) → Ok (record { extent = x; counts = b }) ≡ mapped summary (main_in ds k bs)
    main_read x b r =
        let m = mapped_ok (sum_block start) (main_in ds k bs) (x, counted b) (r ∙ main_is) in
        ap (λ (z : Extent × Counts). Ok (record { extent = z.0; counts = kept z.1 })) (sym m.2) ∙ ap (mapped summary) (sym m.1)

    pub main_stopped : (g : LoadFault) → Err g ≡ mapped (sum_block a) (read_block ds' 16 0 a e l) → Err g ≡ mapped summary (main_in ds k bs)
    main_stopped g r = ap (mapped summary) (sym (mapped_err (sum_block start) (main_in ds k bs) g (r ∙ main_is)))
