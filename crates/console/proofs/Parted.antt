-- The words of a text, one by one.
use Rattle.std.proofs.Common.{◌≡◌, ℕ, ◌<◌, List, [], ◌∷◌, ◌++◌, length, sym, refl, ap, ◌∙◌, subst, append_assoc, append-nil, Bor}
use Rattle.std.specs.Char.{is_whitespace, is_not_whitespace}
use Rattle.std.specs.Str.{NoCharPasses, EmptyOrStartsWithPassing}
use Rattle.console.specs.Splitting.{First, Words, texts}

pub first_of : (bs w rest : List ℕ) → (gap : List ℕ) × (bs ≡ gap ++ (w ++ rest)) × (0 < length w) × NoCharPasses is_not_whitespace gap × NoCharPasses is_whitespace w × ((more : List ℕ) × EmptyOrStartsWithPassing is_whitespace rest more) → First bs w rest
first_of bs w rest cut = record { gap = cut.0; cut = cut.1; some = cut.2; blank = cut.3; solid = cut.4; ends = cut.5 }

texts_push : (ws : List (Bor (List ℕ))) (w : Bor (List ℕ)) → texts (ws ++ (w ∷ [])) ≡ texts ws ++ (w.now ∷ [])
texts_push [] w = refl
texts_push (v ∷ ws) w = ap (λ xs. v.now ∷ xs) (texts_push ws w)

-- The words so far and those of the rest are the words of the text.
pub record Sofar (text rest : List ℕ) (ws : List (Bor (List ℕ))) : Type 0 where
  pub joins : (more : List (List ℕ)) → Words rest more → Words text (texts ws ++ more)

pub none_yet : (text : List ℕ) (ws : List (Bor (List ℕ))) → ws ≡ [] → Sofar text text ws
none_yet text ws e = record { joins = λ more h. subst (λ (xs : List (Bor (List ℕ))). Words text (texts xs ++ more)) (sym e) h }

pub one_more : (text rest after : List ℕ) (ws new : List (Bor (List ℕ))) (w : Bor (List ℕ)) → Sofar text rest ws → First rest w.now after → new ≡ ws ++ (w ∷ []) → Sofar text after new
one_more text rest after ws new w old first pushed = record {
  joins = λ more h.
      subst (λ (xs : List (List ℕ)). Words text xs) (sym (append_assoc (texts ws) (w.now ∷ []) more) ∙ ap (λ xs. xs ++ more) (sym (ap texts pushed ∙ texts_push ws w)))
      (old.joins (w.now ∷ more) (after, first, h));
}

pub no_more : (text rest : List ℕ) (ws : List (Bor (List ℕ))) → Sofar text rest ws → Words rest [] → Words text (texts ws)
no_more text rest ws old none = subst (Words text) (append-nil (texts ws)) (old.joins [] none)
