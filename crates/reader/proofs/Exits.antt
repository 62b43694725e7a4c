-- The head of a statement that is right or has a wrong expression, and the site that is added to its fault.
use Rattle.std.proofs.Common.{◌≡◌, ℕ, suc, ◌-◌, true, List, length, Some, Ok, Err, Result, MatchResult, IsErrAnd, sym, ap, ◌∙◌, arith}
use Rattle.evaluator.specs.Outcomes.{mapped}
use Rattle.std.proofs.lemmas.Grind.{common_steps}
use Rattle.rules.specs.Encoding.{form_byte}
use Rattle.rules.specs.Forms.{forms, has_expression, flags_known}
use Rattle.rules.specs.Outcomes.{◌>>=◌, refused_as, numbered}
use Rattle.rules.specs.Reading.{Counts, Parts, parts_in, place_of_code, within_limits, set_right, expression_of, read_head}
use Rattle.rules.specs.declared.faults.LoadFault.{LoadFault}
use Rattle.rules.specs.declared.faults.LoadFault.TheVariants.{Statement}
use Rattle.rules.specs.declared.faults.StatementFault.{StatementFault}
use Rattle.rules.specs.declared.faults.StatementFault.TheVariants.{Reading}
use Rattle.rules.specs.declared.program.Form.{Form}
use Rattle.rules.specs.declared.program.Variable.{Variable}
use Rattle.reader.specs.Seen.{seen, seen_head}
use Rattle.reader.specs.Steps.{unit}
use Rattle.reader.specs.Told.{told_head, head_at}
use Rattle.reader.specs.declared.faults.SitedFault.{SitedFault}
use Rattle.reader.specs.declared.heads.Head.{Head}
use Rattle.rules.proofs.Results.{goes_on, some_ok, ensure_ok, upper_ok}
use Rattle.reader.proofs.Mapped.{mapped_ok, mapped_err, refused_mapped}

module _ (ds : List Variable) (n t : ℕ) (a : Counts) (c : ℕ) (bs : List ℕ) where
  -- A head whose expression is wrong, with all before it right.
  pub wrong_code : (p q from : ℕ) (k : Form) (o : Parts) (g : StatementFault) → p ≡ q → from ≡ place_of_code k p → Some k ≡ numbered form_byte forms c → true ≡ within_limits n k a → Ok o ≡ parts_in p k bs → true ≡ flags_known k o.byte → true ≡ set_right ds t k o.byte
      → Err g ≡ mapped unit (expression_of ds t from p (has_expression k) o.code) → Err g ≡ mapped (seen_head q) (read_head ds n t a q c bs)
  wrong_code p q from k o g at begins is ok here flagged named coded =
      let wrong = mapped_err unit (expression_of ds t (place_of_code k p) p (has_expression k) o.code) g (coded ∙ ap (λ f. mapped unit (expression_of ds t f p (has_expression k) o.code)) begins) in
      ap (mapped (seen_head p)) (sym (goes_on _ (some_ok _ (sym is)) (goes_on _ (ensure_ok _ (sym ok)) (goes_on _ (upper_ok Reading (sym here)) (goes_on _ (ensure_ok _ (sym flagged)) (goes_on _ (ensure_ok _ (sym named)) (ap (λ r. r >>= (λ e. Ok (record { form = k; parts = o; expression = e }))) wrong)))))))
      ∙ ap (λ p. mapped (seen_head p) (read_head ds n t a p c bs)) at

  -- A head that passed every check, as it is seen.
  pub right_head : (p q from : ℕ) (k : Form) (o : Parts) (u : Unit {0}) → p ≡ q → from ≡ place_of_code k p → Some k ≡ numbered form_byte forms c → true ≡ within_limits n k a → Ok o ≡ parts_in p k bs → true ≡ flags_known k o.byte → true ≡ set_right ds t k o.byte
      → Ok u ≡ mapped unit (expression_of ds t from p (has_expression k) o.code) → Ok (record { form = k; byte = o.byte; code = o.code; code_from = from; first = o.first; second = o.second; after = o.after }) ≡ mapped (seen_head q) (read_head ds n t a q c bs)
  right_head p q from k o u at begins is ok here flagged named coded =
      let right = mapped_ok unit (expression_of ds t (place_of_code k p) p (has_expression k) o.code) u (coded ∙ ap (λ f. mapped unit (expression_of ds t f p (has_expression k) o.code)) begins) in
      ap (λ f. Ok (record { form = k; byte = o.byte; code = o.code; code_from = f; first = o.first; second = o.second; after = o.after })) begins
      ∙ ap (mapped (seen_head p)) (sym (goes_on _ (some_ok _ (sym is)) (goes_on _ (ensure_ok _ (sym ok)) (goes_on _ (upper_ok Reading (sym here)) (goes_on _ (ensure_ok _ (sym flagged)) (goes_on _ (ensure_ok _ (sym named)) (ap (λ r. r >>= (λ e. Ok (record { form = k; parts = o; expression = e }))) right.1)))))))
      ∙ ap (λ p. mapped (seen_head p) (read_head ds n t a p c bs)) at

  -- The fault of a statement with the site that is added to it.
  abbrev at_site : StatementFault → LoadFault
  at_site f = Statement f (record { statement = a.statements; thread = t })

  told_sited : (l : List ℕ) (r : Result Head StatementFault) (z : Result Head SitedFault) {P : StatementFault → SitedFault → Type 0} → MatchResult r (λ h. z ≡ Ok h) (λ f. IsErrAnd z (P f)) → ((f : StatementFault) (s : SitedFault) → P f s → s ≡ record { fault = f; site = record { statement = a.statements; thread = t } }) → told_head l z ≡ refused_as at_site (mapped (seen l) r)
  told_sited l r z is so = grind (arith, common_steps)

  -- What the head answers, with the site added to its fault, of a statement in a block that ends at e.
  pub sited : (e : ℕ) (l : List ℕ) (r : Result Head StatementFault) (z : Result Head SitedFault) {P : StatementFault → SitedFault → Type 0} → MatchResult r (λ h. z ≡ Ok h) (λ f. IsErrAnd z (P f)) → ((f : StatementFault) (s : SitedFault) → P f s → s ≡ record { fault = f; site = record { statement = a.statements; thread = t } })
      → mapped (seen l) r ≡ mapped (seen_head (e - suc (length bs))) (read_head ds n t a (e - suc (length bs)) c bs) → told_head l z ≡ mapped (seen_head (e - suc (length bs))) (head_at ds n t a e c bs)
  sited e l r z is so h = told_sited l r z is so ∙ ap (refused_as at_site) h ∙ sym (refused_mapped (seen_head (e - suc (length bs))) at_site (read_head ds n t a (e - suc (length bs)) c bs))
