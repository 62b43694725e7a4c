-- Loading accepts exactly the valid programs, each by the bytes that it is written as.
use Rattle.std.proofs.Common.{◌≡◌, ℕ, suc, ◌+◌, ◌*◌, ◌≤◌, ◌&&◌, leb, List, [], ◌∷◌, ◌++◌, length, Ok, sym, refl, ◌∙◌, subst, arith}
use Rattle.std.proofs.lemmas.Bool.{le-leb, leb-true, and_from, and_parts}
use Rattle.evaluator.specs.Rates.{most_variables}
use Rattle.evaluator.proofs.Reading.{Bytes}
use Rattle.rules.specs.Encoding.{encode, declarations_bytes}
use Rattle.rules.specs.Lengths.{block_length, tick_length, longest_tick}
use Rattle.rules.specs.Promises.{LoadingAcceptsTheValid}
use Rattle.rules.specs.Reading.{most_bytes, most_nested, start, read_declarations, read_block, owners_live, loops_pause, read_all, read}
use Rattle.rules.specs.Text.{Program, arms}
use Rattle.rules.specs.Valid.{Valid}
use Rattle.rules.proofs.Results.{goes_on, ok_then, ensure_ok, ensure_then, same_ok, not_both}
use Rattle.loading.proofs.Declarations.{declarations_back, declarations_from, owners_back, owners_from}
use Rattle.loading.proofs.Pauses.{loops_pause_back, loops_pause_from}
use Rattle.loading.proofs.Read.{block_from}
use Rattle.loading.proofs.Written.{block_back}

-- A valid program is read from what it is written as.
pub read_back : (p : Program) → Valid p → read (encode p) ≡ Ok p
read_back p v =
    let ds = p.variables in
    let s = v.few_statements in let k = v.few_pars in
    goes_on _ (ensure_ok _ (and_from _ _ (le-leb 1 (length (encode p)) (omega arith)) (le-leb (length (encode p)) most_bytes v.short_enough)))
    (goes_on _ (ensure_ok _ (le-leb (length ds) most_variables v.few_variables))
    (goes_on _ (declarations_back _ _ ds _ v.declared)
    (goes_on _ (block_back ds p.main most_nested 0 start _ (record { few = omega arith; few_pars = omega arith; shallow = v.shallow; u = 1; next = refl; right = v.right }))
    (goes_on _ (owners_back _ _ ds v.declared)
    (goes_on _ (loops_pause_back p.main _ _ _ _ v.pausing)
    (goes_on _ (ensure_ok _ (le-leb (block_length p.main + 1) longest_tick v.in_time)) refl))))))

-- The parts of reading a program that was accepted.
record Opened (n : ℕ) (bs : List ℕ) (p : Program) : Type 0 where
  z : ℕ
  rest : List ℕ
  few : n ≤ most_variables
  declared : read_declarations n z bs ≡ Ok (p.variables, rest)
  block : read_block p.variables most_nested 0 start z rest ≡ Ok p.main
  owned : owners_live (1 + arms p.main) 1 p.variables ≡ Ok tt
  pausing : loops_pause (1 + 16 * n) 0 0 1 p.main ≡ Ok tt
  in_time : tick_length p ≤ longest_tick

-- If a program was accepted, each part was.
opened : (z n : ℕ) (bs : List ℕ) (p : Program) → read_all z (n ∷ bs) ≡ Ok p → Opened n bs p
opened z n bs p y =
    let y0 = ensure_then (leb n most_variables) _ _ p y in
    let y1 = ok_then (read_declarations n z bs) _ p y0.1 in
    let y2 = ok_then (read_block y1.0.0 most_nested 0 start z y1.0.1) _ p y1.2 in
    let y3 = ok_then (owners_live (1 + arms y2.0) 1 y1.0.0) _ p y2.2 in
    let y4 = ok_then (loops_pause (1 + 16 * n) 0 0 1 y2.0) _ p y3.2 in
    let y5 = ensure_then (leb (block_length y2.0 + 1) longest_tick) _ _ p y4.2 in
    subst (Opened n bs) {x = record { variables = y1.0.0; main = y2.0 }} (same_ok y5.1) (record {
      z = z;
      rest = y1.0.1;
      few = leb-true n most_variables y0.0;
      declared = y1.1;
      block = y2.1;
      owned = y3.1;
      pausing = y4.1;
      in_time = leb-true _ _ y5.0;
    })

-- A program of which each part was accepted is valid, and was written so.
closed : (n : ℕ) (bs : List ℕ) (p : Program) → Bytes bs → suc (length bs) ≤ most_bytes → Opened n bs p → Valid p × (encode p ≡ n ∷ bs)
closed n bs p h short o =
    let many = declarations_from n o.z bs (p.variables, o.rest) h o.declared in
    let came = block_from p.variables most_nested 0 start o.z o.rest p.main (omega arith) many.bytes (omega arith) (omega arith) o.block in
    let same : encode p ≡ n ∷ bs = λ i. many.long i ∷ ((λ j. declarations_bytes p.variables ++ came.same j) ∙ many.same) i in
    let long = many.long in let few = o.few in
    let s = came.few in let k = came.few_pars in (
      record {
        short_enough = subst (λ l. length l ≤ most_bytes) (sym same) short;
        few_variables = omega arith;
        declared = owners_from _ _ p.variables tt many.made o.owned;
        few_statements = omega arith;
        few_pars = omega arith;
        shallow = came.shallow;
        right = came.right;
        pausing = loops_pause_from p.main _ _ _ _ _ o.pausing;
        in_time = o.in_time;
      },
      same,
    )

-- A program that is read is valid, and was written so.
read_from : (bs : List ℕ) (p : Program) → Bytes bs → read bs ≡ Ok p → Valid p × (encode p ≡ bs)
read_from [] p h y = not_both y
read_from (n ∷ bs) p h y =
    let k = ensure_then (leb 1 (length (n ∷ bs)) && leb (length (n ∷ bs)) most_bytes) _ _ p y in
    closed n bs p h.1 (leb-true _ _ (and_parts _ _ k.0).1) (opened _ n bs p k.1)

-- Of any bytes, loading accepts p exactly if p is valid and these bytes are how p is written.
pub loading_accepts_the_valid : LoadingAcceptsTheValid
loading_accepts_the_valid bs p h = (read_from bs p h, λ v. subst (λ l. read l ≡ Ok p) v.1 (read_back p v.0))
