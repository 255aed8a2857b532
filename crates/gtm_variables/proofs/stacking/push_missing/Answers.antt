use Rattle.std.proofs.Common.{◌≡◌, ◌⊎◌, inl, inr, ℕ, List, Option, Some, None, Result, Ok, Err}
use Rattle.std.proofs.Common.{true}
use Rattle.std.proofs.Common.{false, Bool, length, get_or, refl, subst, sym, ap, ◌∙◌}
use Rattle.std.specs.Prelude.{Contains, OnOk, IfOk, MatchOption}
use Rattle.std.proofs.lemmas.Option.{slice_get_read}
use Rattle.export_model.specs.Graphs.{variable_graph}
use Rattle.reference_cycles.specs.Graph.{Refers}
use Rattle.gtm_variables.proofs.KeptValues.{refers_by_name, names_by_reference}
use Rattle.gtm_variables.proofs.stacking.push_missing.Goals as goal
use Rattle.gtm_variables.specs.Kept.{is_missing}

on_only : {T E : Type 0} (result : Result T E) (start now places : List ℕ) (refers : ℕ → Type 0)
    → ((p : ℕ) → Contains places p → refers p)
    → OnOk result ((p : ℕ) → Contains now p → Contains start p ⊎ Contains places p)
    → OnOk result ((p : ℕ) → Contains now p → Contains start p ⊎ refers p)
on_only (Ok value) start now places refers named only =
    λ p has. elim (only p has) [ inl old ↦ inl old | inr new ↦ inr (named p new) ]
on_only (Err error) start now places refers named only = tt

on_next : {E : Type 0} (result : Result (Option ℕ) E) (missing : ℕ → Bool) (places : List ℕ)
    (refers : ℕ → Type 0) → ((p : ℕ) → Contains places p → refers p)
    → ((p : ℕ) → refers p → Contains places p)
    → IfOk result (λ next.
    MatchOption next ((p : ℕ) → Contains places p → missing p ≡ false)
    (λ p. (missing p ≡ true) × Contains places p))
    → IfOk result (λ next.
    MatchOption next ((p : ℕ) → refers p → missing p ≡ false)
    (λ p. (missing p ≡ true) × refers p))
on_next (Ok None) missing places refers named back next = λ p r. next p (back p r)
on_next (Ok (Some place)) missing places refers named back next =
    (next.0, named place next.1)
on_next (Err error) missing places refers named back next = tt

pub returns-clause-only : goal.returns-clause-only
returns-clause-only c =
    let container = c.args.values.now.container.now in
    let variable = c.index-as_slice-at.result in
    let entry =
    slice_get_read container.variables (length container.variables) c.args.at variable refl
    c.requires (c.index-as_slice-at.is ∙ ap (λ vs. get_or vs c.args.at variable)
    c.as_slice.ensures) in
    let same = c.as_slice-2.ensures ∙ c.in_ok-places.ensures in
    on_only c.push_missing_of.result c.args.waiting.now.items
    c.push_missing_of.new.waiting.items c.as_slice-2.result.now
    (Refers (variable_graph container) c.args.at)
    (λ p has.
    refers_by_name container c.args.at variable entry p (subst (λ ps. Contains ps p) same has))
    c.push_missing_of.ensures.only

pub returns-clause-next : goal.returns-clause-next
returns-clause-next c =
    let container = c.args.values.now.container.now in
    let variable = c.index-as_slice-at.result in
    let entry =
    slice_get_read container.variables (length container.variables) c.args.at variable refl
    c.requires (c.index-as_slice-at.is ∙ ap (λ vs. get_or vs c.args.at variable)
    c.as_slice.ensures) in
    let same = c.as_slice-2.ensures ∙ c.in_ok-places.ensures in
    on_next c.push_missing_of.result (is_missing c.args.values.now) c.as_slice-2.result.now
    (Refers (variable_graph container) c.args.at)
    (λ p has.
    refers_by_name container c.args.at variable entry p (subst (λ ps. Contains ps p) same has))
    (λ p refers.
    subst (λ ps. Contains ps p) (sym same)
    (names_by_reference container c.args.at variable entry p refers))
    c.push_missing_of.ensures.next
