use Rattle.std.proofs.Common.{◌≡◌, ℕ, List, [], ◌∷◌, ◌++◌, refl, true≢false, sym, ◌∙◌}
use Rattle.gtm_data.specs.Tree.{object, entries_of}
use Rattle.gtm_data.specs.declared.data.Data.{Data}
use Rattle.trace_forms.specs.Forms.{form_of}
use Rattle.trace_forms.specs.Steps.{bad}
use Rattle.trace_forms.proofs.forms.read_members.Goals as goal

too_many : (rest : List (List ℕ × Data)) (first last : List ℕ × Data) → (rest ≡ [] → ⊥)
    → bad 5 ≡ form_of (object (entries_of ((rest ++ first ∷ []) ++ last ∷ [])))
too_many [] first last some = absurd (some refl)
too_many (pair ∷ []) first last some = refl
too_many (pair ∷ next ∷ []) first last some = refl
too_many (pair ∷ next ∷ third ∷ rest) first last some = refl

no_form : (pairs front rest : List (List ℕ × Data)) (first last : List ℕ × Data)
    → pairs ≡ front ++ last ∷ [] → front ≡ rest ++ first ∷ [] → (rest ≡ [] → ⊥)
    → bad 5 ≡ form_of (object (entries_of pairs))
no_form pairs front rest first last all less some = rw (all, less) (too_many rest first last some)

pub returns : goal.returns
returns c =
    no_form _ _ _ _ _ c.in-Some.ensures c.in-Some-pop.ensures
    (λ none. true≢false (sym (c.is_empty.ensures.1 none) ∙ c.if-is_empty.false))
