-- One condition of a list after the other.
use Rattle.std.proofs.Common.{◌≡◌, ◌<◌, ◌+◌, inl, inr, ℕ, zero, suc, List, [], ◌∷◌, drop}
use Rattle.std.proofs.Common.{length, get_or, Bool, Some, ap, sym, ◌∙◌, subst}
use Rattle.std.proofs.Common.{arith, slice_get}
use Rattle.std.specs.Prelude.{All, Contains, ◌&&◌}
use Rattle.std.specs.List.{AllByRecursion, flat_map, list_all}
use Rattle.std.proofs.lemmas.List.{drop_more}
use Rattle.std.proofs.lemmas.List.Elements.{Contains-append_left, Contains-append_right}
use Rattle.std.proofs.lemmas.List.Elements.{Contains-append_cases, recursion_from_All}
use Rattle.export_model.specs.declared.conditions.Condition.{Condition}
use Rattle.export_model.specs.declared.triggers.Trigger.{Trigger}
use Rattle.gtm_triggers.specs.Asking.{asked_with, asked_with_all}
use Rattle.gtm_variables.specs.Asked.{asked, asked_of_condition, asked_of_triggers}
use Rattle.gtm_variables.specs.Asked.{asked_of_variables}
use Rattle.gtm_variables.specs.Snapshot.{Snapshot}

-- what holds of all items holds of the one at a place
pub at_item : {A : Type 0} (P : A → Type 0) (items : List A) (at : ℕ) (item : A) → All P items
    → at < length items → item ≡ get_or items at item → P item
at_item P items at item all within is = subst P (sym is) (all at item within)

-- one turn of a loop over conditions
pub holds_turn : (test : Condition → Bool) (conditions : List Condition) (at : ℕ)
    (condition : Condition) (b : Bool) → at < length conditions
    → condition ≡ get_or conditions at condition → test condition ≡ b
    → list_all test (drop at conditions) ≡ (b && list_all test (drop (at + 1) conditions))
holds_turn test conditions at condition b within is passes =
    ap (list_all test)
    (drop_more conditions at condition within ∙ ap (λ x. x ∷ drop (at + 1) conditions) (sym is))
    ∙ ap (λ x. x && list_all test (drop (at + 1) conditions)) passes

-- the texts of one item are among those of all
pub text_among : {A : Type 0} (texts : A → List (List ℕ)) (items : List A) (at : ℕ) (item : A)
    → at < length items → item ≡ get_or items at item → (text : List ℕ)
    → Contains (texts item) text → Contains (flat_map texts items) text
text_among texts [] at item within is text has = absurd (omega (arith, within))
text_among texts (first ∷ items) zero item within is text has =
    Contains-append_left (texts first) (flat_map texts items) text
    (subst (λ x. Contains (texts x) text) is has)
text_among texts (first ∷ items) (suc at) item within is text has =
    Contains-append_right (texts first) (flat_map texts items) text
    (text_among texts items at item (omega (arith, within)) is text has)

-- what one condition asks, all of them ask
pub asked_among : (s : Snapshot) (conditions : List Condition) (at : ℕ) (condition : Condition)
    → at < length conditions → condition ≡ get_or conditions at condition → (text : List ℕ)
    → Contains (asked_with s condition) text → Contains (asked_with_all s conditions) text
asked_among s conditions at condition within is text has =
    elim (Contains-append_cases (asked s) (asked_of_condition s condition) text has) [
      | inl own ↦
          Contains-append_left (asked s) (flat_map (asked_of_condition s) conditions) text own
      | inr more ↦
          Contains-append_right (asked s) (flat_map (asked_of_condition s) conditions) text
          (text_among (asked_of_condition s) conditions at condition within is text more)
    ]

abbrev of_trigger : Snapshot → Trigger → List (List ℕ)
of_trigger s trigger = flat_map (asked_of_condition s) trigger.conditions

by_place : (s : Snapshot) (triggers : List Trigger) (at : ℕ) (trigger : Trigger)
    → slice_get triggers at ≡ Some trigger → (text : List ℕ)
    → Contains (of_trigger s trigger) text → Contains (flat_map (of_trigger s) triggers) text
by_place s [] at trigger is text has = absurd (cc is)
by_place s (first ∷ triggers) zero trigger is text has =
    let same : first ≡ trigger = cc in
    Contains-append_left (of_trigger s first) (flat_map (of_trigger s) triggers) text
    (subst (λ t. Contains (of_trigger s t) text) (sym same) has)
by_place s (first ∷ triggers) (suc at) trigger is text has =
    Contains-append_right (of_trigger s first) (flat_map (of_trigger s) triggers) text
    (by_place s triggers at trigger is text has)

-- what the conditions of a trigger ask, the snapshot asks
pub asked_by_trigger : (s : Snapshot) (at : ℕ) (trigger : Trigger)
    → slice_get s.moment.container.triggers at ≡ Some trigger → (text : List ℕ)
    → Contains (asked_with_all s trigger.conditions) text → Contains (asked s) text
asked_by_trigger s at trigger is text has =
    elim (Contains-append_cases (asked s) (of_trigger s trigger) text has) [
      | inl own ↦ own
      | inr more ↦
          Contains-append_right (asked_of_variables s) (asked_of_triggers s) text
          (by_place s s.moment.container.triggers at trigger is text more)
    ]

in_order : {A : Type 0} (P : A → Type 0) (items : List A) (at : ℕ) (item : A)
    → AllByRecursion P items → slice_get items at ≡ Some item → P item
in_order P [] at item all is = absurd (cc is)
in_order P (first ∷ items) zero item all is =
    let same : first ≡ item = cc in
    subst P same all.0
in_order P (first ∷ items) (suc at) item all is = in_order P items at item all.1 is

-- what holds of all items holds of one that is there
pub at_place : {A : Type 0} (P : A → Type 0) (items : List A) (at : ℕ) (item : A) → All P items
    → slice_get items at ≡ Some item → P item
at_place P items at item all is = in_order P items at item (recursion_from_All P items all) is
