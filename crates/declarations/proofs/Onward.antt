-- What the declarations of a program say of loading it.
use Rattle.std.proofs.Common.{◌≡◌, ℕ, suc, ◌+◌, ◌*◌, ◌≤◌, ◌&&◌, leb, List, [], ◌∷◌, length, drop, Ok, Err, Result, sym, ap, ◌∙◌, arith}
use Rattle.std.proofs.lemmas.Bool.{leb-true, and_parts}
use Rattle.evaluator.specs.Rates.{most_variables}
use Rattle.rules.specs.Outcomes.{◌>>=◌, ensure}
use Rattle.rules.specs.Lengths.{block_length, longest_tick}
use Rattle.rules.specs.Reading.{most_bytes, most_nested, read_declarations, read_block, start, owners_live, loops_pause, read_all, read}
use Rattle.rules.specs.Text.{Program, arms}
use Rattle.rules.specs.declared.program.Variable.{Variable}
use Rattle.rules.specs.declared.faults.LoadFault.{LoadFault}
use Rattle.rules.specs.declared.faults.LoadFault.TheVariants.{BadLength, TooManyVariables, TickTooLong}
use Rattle.rules.proofs.Results.{not_both, goes_on, ensure_ok, same_ok, ensure_then, ok_then, refused_again}
use Rattle.declarations.specs.Listing.{declarations_first, declarations_in, read_main}
use Rattle.declarations.proofs.InOrder.{Several, declarations_counted}

-- The declarations alone, of what is read.
abbrev alone : Several → Result (List Variable) LoadFault
alone q = Ok q.0

-- A refusal behind the test of the length is the refusal of loading.
all_refused : (e : ℕ) (p : List ℕ) (f : LoadFault) → declarations_first e p ≡ Err f → read_all e p ≡ Err f
all_refused e [] f h = cc
all_refused e (n ∷ bs) f h =
    refused_again (ensure (leb n most_variables) TooManyVariables) _ _ _ f (λ r. r)
    (λ _ t q. goes_on _ t (refused_again (read_declarations n e bs) _ _ _ f (λ r. r) (λ _ _ no. not_both (sym no)) q)) h

-- Where the declarations of a program are refused, loading refuses it with the same fault.
pub read_refused : (p : List ℕ) (f : LoadFault) → declarations_in p ≡ Err f → read p ≡ Err f
read_refused p f h =
    refused_again (ensure (leb 1 (length p) && leb (length p) most_bytes) BadLength) _ _ _ f (λ r. r)
    (λ _ t q. goes_on _ t (all_refused (length p) p f q)) h

-- A program whose declarations are read: its length, how many it declares, and what loading it goes on with.
pub record Declares (p : List ℕ) (ds : List Variable) : Type 0 where
  pub short : length p ≤ 4096
  pub few : length ds ≤ 32
  pub within : 1 + 16 * length ds ≤ length p
  pub onward : read p ≡ read_main (length p) ds (drop (1 + 16 * length ds) p)

-- What loading goes on with, by the count of declarations and what is read of them.
abbrev going_on : (e n : ℕ) → Several → Result Program LoadFault
going_on e n q = do
  B ← read_block q.0 most_nested 0 start e q.1
  _ ← owners_live (1 + arms B) 1 q.0
  _ ← loops_pause (1 + 16 * n) 0 0 1 B
  _ ← ensure (leb (block_length B + 1) longest_tick) TickTooLong
  Ok (record { variables = q.0; main = B })

-- Behind a count of n, declarations are read: how many, within the bytes, and what loading goes on with.
record Counts (e n : ℕ) (bs : List ℕ) (ds : List Variable) : Type 0 where
  count : length ds ≡ n
  few : n ≤ 32
  within : 16 * n ≤ length bs
  onward : read_all e (n ∷ bs) ≡ read_main e ds (drop (16 * n) bs)

-- Declarations that are read behind a count are as many.
counted : (e n : ℕ) (bs : List ℕ) (ds : List Variable) → declarations_first e (n ∷ bs) ≡ Ok ds → Counts e n bs ds
counted e n bs ds h =
    let t = ensure_then (leb n most_variables) TooManyVariables (λ _. read_declarations n e bs >>= alone) ds h in
    let y = ok_then (read_declarations n e bs) alone ds t.1 in
    let same : y.0.0 ≡ ds = same_ok y.2 in
    let k = declarations_counted n e bs y.0 y.1 in
    let c : length ds ≡ n = ap length (sym same) ∙ k.count in
    record {
      count = c;
      few = leb-true n 32 t.0;
      within = k.within;
      onward = goes_on _ (ensure_ok _ t.0) (goes_on _ y.1 (λ i. going_on e (sym c i) (same i, k.after i)));
    }

-- Where the declarations of a program are read, loading goes on behind them.
pub read_onward : (p : List ℕ) (ds : List Variable) → declarations_in p ≡ Ok ds → Declares p ds
read_onward [] ds h = not_both h
read_onward (n ∷ bs) ds h =
    let e = suc (length bs) in
    let t = ensure_then (leb 1 e && leb e most_bytes) BadLength (λ _. declarations_first e (n ∷ bs)) ds h in
    let k = counted e n bs ds t.1 in
    let o : 1 + 16 * length ds ≡ suc (16 * n) = omega (arith, k.count) in
    record {
      short = leb-true e 4096 (and_parts (leb 1 e) (leb e most_bytes) t.0).1;
      few = omega (arith, k.count, k.few);
      within = omega (arith, k.count, k.within);
      onward = goes_on _ (ensure_ok _ t.0) k.onward ∙ ap (λ i. read_main e ds (drop i (n ∷ bs))) (sym o);
    }
