-- The fault that reading a program names is the first.
use Rattle.std.proofs.Common.{◌≡◌, ℕ, zero, suc, ◌+◌, ◌-◌, ◌≤◌, ◌&&◌, leb, List, [], ◌∷◌, length, get_or, take, drop, Ok, Err, sym, refl, ap, ◌∙◌, subst, arith, length-drop, length-take}
use lib.Signed.{le_z}
use Rattle.std.proofs.ByRecursion.{All-drop}
use Rattle.std.proofs.lemmas.Bool.{leb-true}
use Rattle.arithmetic.specs.Operators.{combining_number}
use Rattle.evaluator.specs.Rates.{most_variables}
use Rattle.evaluator.proofs.Reading.{Bytes}
use Rattle.rules.specs.Encoding.{kind_number, policy_number}
use Rattle.rules.specs.Faults.{load_place}
use Rattle.rules.specs.FirstFault.{all_in_order, read_in_order, longest_head}
use Rattle.rules.specs.Outcomes.{ensure, from_some, numbered}
use Rattle.rules.specs.Promises.{TheFirstFaultIsNamed}
use Rattle.rules.specs.Reading.{most_bytes, most_nested, start, kinds, policies, combinings, zeros_right, number_at, read_declaration, read_declarations, read_block, read_all, read}
use Rattle.rules.specs.declared.faults.LoadFault.{LoadFault}
use Rattle.rules.specs.declared.faults.LoadFault.TheVariants.{BadLength, TooManyVariables, CutDeclaration, BadDeclaration}
use Rattle.rules.specs.declared.faults.ReadingFault.TheVariants.{Cut}
use Rattle.rules.specs.declared.program.Variable.{Variable}
use Rattle.rules.proofs.Results.{goes_on, ok_then, ensure_ok, ensure_then, same_ok, same_err, refused_again, ensure_holds}
use Rattle.loading.proofs.Again.{Since, block_first_met}
use Rattle.loading.proofs.Alike.{Alike, alike_by_front, alike_first, alike_rest, alike_take, alike_drop, alike_all}
use Rattle.loading.proofs.Refused.{no_ok, Only, only_ok, only_some, only_ensure, only_then, only_weaker}

---------------------------------------------------------------------- declarations

-- A declaration is refused by the fault that is given for it.
declaration_only : (P : LoadFault → Type 0) (f : LoadFault) (bs : List ℕ) → P f → Only P (read_declaration f bs)
declaration_only P f bs p =
    only_then P (from_some (numbered kind_number kinds (get_or bs 0 0)) f) _ (only_some P _ f p)
    (λ k _. only_then P (from_some (numbered policy_number policies (get_or bs 1 0)) f) _ (only_some P _ f p)
    (λ q _. only_then P (from_some (numbered combining_number combinings (get_or bs 2 0)) f) _ (only_some P _ f p)
    (λ c _. only_then P (ensure (zeros_right k (get_or bs 1 0) (get_or bs 2 0) (get_or bs 3 0)) f) _ (only_ensure P _ f p)
    (λ u _. only_then P (ensure (le_z (number_at 8 bs) (number_at 4 bs) && le_z (number_at 4 bs) (number_at 12 bs)) f) _ (only_ensure P _ f p)
    (λ v _. only_ok P _)))))

-- The fault of declarations stands where they begin or after that.
declarations_late : (n s e : ℕ) (bs : List ℕ) → s + length bs ≡ e → Only (Since s) (read_declarations n e bs)
declarations_late zero s e bs w = only_ok (Since s) _
declarations_late (suc n) s e bs w =
    only_then (Since s) (ensure (leb 16 (length bs)) _) _ (only_ensure (Since s) _ _ (omega arith))
    (λ u y.
    let le = leb-true 16 (length bs) (ensure_holds _ _ u y) in
    let l = length-drop 16 bs in
    only_then (Since s) (read_declaration _ (take 16 bs)) _ (declaration_only (Since s) _ (take 16 bs) (omega arith))
    (λ d _. only_then (Since s) (read_declarations n e (drop 16 bs)) _
    (only_weaker (Since (s + 16)) (Since s) _ (λ f k. omega arith) (declarations_late n (s + 16) e (drop 16 bs) (omega arith)))
    (λ ds _. only_ok (Since s) _)))

-- What is known of declarations that were read from place s on, and of the bytes after them, which begin at place `at`.
record DeclaredAlike (n s m e : ℕ) (bs' : List ℕ) (r : List Variable × List ℕ) : Type 0 where
  at : ℕ
  onward : s ≤ at
  ends : at + length r.1 ≡ e
  bytes : Bytes r.1
  kept : at ≤ m → (rest' : List ℕ) × (read_declarations n e bs' ≡ Ok (r.0, rest')) × Alike at m r.1 rest'

-- Declarations that end before place m are read again from alike bytes.
declarations_kept : (n s m e : ℕ) (bs bs' : List ℕ) (r : List Variable × List ℕ) → Bytes bs → s + length bs ≡ e → Alike s m bs bs' → read_declarations n e bs ≡ Ok r → DeclaredAlike n s m e bs' r
declarations_kept zero s m e bs bs' r h w l y =
    subst (DeclaredAlike zero s m e bs') (same_ok y) (record { at = s; onward = omega arith; ends = w; bytes = h; kept = λ short. (bs', refl, l) })
declarations_kept (suc n) s m e bs bs' r h w l y =
    let y0 = ensure_then (leb 16 (length bs)) _ _ r y in
    let le = leb-true 16 (length bs) y0.0 in
    let y1 = ok_then (read_declaration (BadDeclaration (e - length bs)) (take 16 bs)) _ r y0.1 in
    let y2 = ok_then (read_declarations n e (drop 16 bs)) _ r y1.2 in
    let lt = length-take 16 bs in let ld = length-drop 16 bs in
    let K = declarations_kept n (s + 16) m e (drop 16 bs) (drop 16 bs') y2.0 (All-drop _ 16 bs h) (omega arith) (alike_drop s m 16 bs bs' l) y2.1 in
    let on = K.onward in
    subst (DeclaredAlike (suc n) s m e bs') (same_ok y2.2) (record {
      at = K.at;
      onward = omega arith;
      ends = K.ends;
      bytes = K.bytes;
      kept = λ short.
          let same = alike_all s m (take 16 bs) (take 16 bs') (omega arith) (alike_take s m 16 bs bs' l) in
          let k = K.kept short in (
            k.0,
            goes_on _ (ap (λ j. ensure (leb 16 j) (CutDeclaration (Cut (e - j)))) (sym l.long) ∙ ensure_ok _ y0.0)
                (goes_on _ ((λ i. read_declaration (BadDeclaration (e - sym l.long i)) (sym same i)) ∙ y1.1)
                (goes_on _ k.1 refl)),
            k.2,
          );
    })

-- The fault of declarations is met again in bytes that are alike through it.
declarations_again : (n s e : ℕ) (bs bs' : List ℕ) (f : LoadFault) → s + length bs ≡ e → Alike s (load_place f + longest_head) bs bs' → read_declarations n e bs ≡ Err f → read_declarations n e bs' ≡ Err f
declarations_again zero s e bs bs' f w l y = no_ok y
declarations_again (suc n) s e bs bs' f w l y =
    let m = load_place f + longest_head in
    let since = (declarations_late (suc n) s e bs w).only f y in
    let lt = length-take 16 bs in let ld = length-drop 16 bs in
    let long = ap (λ j. ensure (leb 16 j) (CutDeclaration (Cut (e - j)))) (sym l.long) in
    refused_again (ensure (leb 16 (length bs)) (CutDeclaration (Cut (e - length bs)))) (ensure (leb 16 (length bs')) (CutDeclaration (Cut (e - length bs')))) _ _ f
    (λ r. long ∙ r)
    (λ u r q.
    let le = leb-true 16 (length bs) (ensure_holds _ _ u r) in
    let same = alike_all s m (take 16 bs) (take 16 bs') (omega arith) (alike_take s m 16 bs bs' l) in
    let one : read_declaration (BadDeclaration (e - length bs')) (take 16 bs') ≡ read_declaration (BadDeclaration (e - length bs)) (take 16 bs) = λ i. read_declaration (BadDeclaration (e - sym l.long i)) (sym same i) in
    goes_on _ (long ∙ r)
    (refused_again (read_declaration (BadDeclaration (e - length bs)) (take 16 bs)) (read_declaration (BadDeclaration (e - length bs')) (take 16 bs')) _ _ f
    (λ r1. one ∙ r1)
    (λ d r1 q1.
    goes_on _ (one ∙ r1)
    (refused_again (read_declarations n e (drop 16 bs)) _ _ _ f
    (declarations_again n (s + 16) e (drop 16 bs) (drop 16 bs') f (omega arith) (alike_drop s m 16 bs bs' l))
    (λ ds _ no. no_ok no) q1))
    q))
    y

---------------------------------------------------------------------- the whole program

-- A fault that is met in order is met again in bytes that are alike through it.
all_again : (e : ℕ) (bs bs' : List ℕ) (f : LoadFault) → Bytes bs → length bs ≡ e → Alike 0 (load_place f + longest_head) bs bs' → all_in_order e bs ≡ Err f → all_in_order e bs' ≡ Err f
all_again e [] [] f h w l y = y
all_again e [] (n' ∷ bs') f h w l y = let k = l.long in absurd (omega arith)
all_again e (n ∷ bs) [] f h w l y = let k = l.long in absurd (omega arith)
all_again e (n ∷ bs) (n' ∷ bs') f h w l y =
    let m = load_place f + longest_head in
    let rest = alike_rest 0 m n n' bs bs' l in
    subst (λ j. all_in_order e (j ∷ bs') ≡ Err f) (alike_first 0 m n n' bs bs' (omega arith) l)
    (refused_again (ensure (leb n most_variables) TooManyVariables) (ensure (leb n most_variables) TooManyVariables) _ _ f
    (λ r. r)
    (λ u r q.
    goes_on _ r
    (refused_again (read_declarations n e bs) (read_declarations n e bs') _ _ f
    (declarations_again n 1 e bs bs' f (omega arith) rest)
    (λ ds r1 q1.
    let K = declarations_kept n 1 m e bs bs' ds h.1 (omega arith) rest r1 in
    let D = block_first_met ds.0 most_nested in
    let block = read_block ds.0 most_nested 0 start e ds.1 in
    let since = (only_then (Since K.at) block _ (D.late 0 start K.at e ds.1 K.bytes K.ends) (λ B _. only_ok (Since K.at) _)).only f q1 in
    let k = K.kept (omega arith) in
    goes_on _ k.1
    (refused_again block _ _ _ f
    (D.again 0 start K.at e ds.1 k.0 f K.bytes K.ends k.2)
    (λ B _ no. no_ok no) q1))
    q))
    y)

-- The same of the whole, with the check of the length.
read_again : (bs bs' : List ℕ) (f : LoadFault) → Bytes bs → Alike 0 (load_place f + longest_head) bs bs' → read_in_order bs ≡ Err f → read_in_order bs' ≡ Err f
read_again bs bs' f h l y =
    let long = ap (λ j. ensure (leb 1 j && leb j most_bytes) BadLength) (sym l.long) in
    refused_again (ensure (leb 1 (length bs) && leb (length bs) most_bytes) BadLength) (ensure (leb 1 (length bs') && leb (length bs') most_bytes) BadLength) _ _ f
    (λ r. long ∙ r)
    (λ u r q. goes_on _ (long ∙ r) (subst (λ j. all_in_order j bs' ≡ Err f) l.long (all_again (length bs) bs bs' f h refl l q)))
    y

-- A fault that is met in order is the one that reading names.
all_named : (e : ℕ) (bs : List ℕ) (f : LoadFault) → all_in_order e bs ≡ Err f → read_all e bs ≡ Err f
all_named e [] f y = let k = same_err y in ap Err k
all_named e (n ∷ bs) f y =
    refused_again (ensure (leb n most_variables) TooManyVariables) _ _ _ f (λ r. r)
    (λ u r q. goes_on _ r
    (refused_again (read_declarations n e bs) _ _ _ f (λ r1. r1)
    (λ ds r1 q1. goes_on _ r1
    (refused_again (read_block ds.0 most_nested 0 start e ds.1) _ _ _ f (λ r2. r2) (λ B _ no. no_ok no) q1)) q)) y

read_named : (bs : List ℕ) (f : LoadFault) → read_in_order bs ≡ Err f → read bs ≡ Err f
read_named bs f y =
    refused_again (ensure (leb 1 (length bs) && leb (length bs) most_bytes) BadLength) _ _ _ f (λ r. r)
    (λ u r q. goes_on _ r (all_named (length bs) bs f q)) y

-- The fault that reading names is the first.
pub the_first_fault_is_named : TheFirstFaultIsNamed
the_first_fault_is_named bs bs' f h y same = (read_named bs f y, read_named bs' f (read_again bs bs' f h (alike_by_front (load_place f + longest_head) bs bs' same.0 same.1) y))
