-- What is kept stays the meaning when a value is computed from what is kept.
use Rattle.std.proofs.Common.{◌≡◌, ◌≢◌, ◌⊎◌, inl, inr, ◌+◌, ℕ, zero, suc, List, [], ◌∷◌, ◌++◌}
use Rattle.std.proofs.Common.{map, Option, Some, None, refl, ap, sym, ◌∙◌, subst, arith}
use Rattle.std.proofs.Common.{slice_get, append-nil, false}
use Rattle.std.specs.Prelude.{Contains, IsSomeAnd, option_map, is_none}
use Rattle.std.specs.List.{filter_map, flat_map, enumerate_from}
use Rattle.std.specs.Option.{option_map_or}
use Rattle.std.proofs.lemmas.List.{map-append}
use Rattle.std.proofs.lemmas.List.Elements.{Contains-append_left, Contains-append_right}
use Rattle.std.proofs.lemmas.List.Elements.{Contains-push}
use Rattle.std.proofs.lemmas.Option.{slice_get-map}
use Rattle.export_model.specs.declared.container.Container.{Container}
use Rattle.export_model.specs.declared.variables.Variable.{Variable}
use Rattle.export_model.specs.declared.variables.VariableKind.{VariableKind}
use Rattle.export_model.specs.declared.variables.VariableKind.TheVariants as kind
use Rattle.export_model.specs.Graphs.{variable_at, variable_graph}
use Rattle.export_model.specs.Names.{names_of_variable}
use Rattle.gtm_data.specs.declared.data.Data.{Data}
use Rattle.gtm_data.specs.Tree.{Tree, undefined, tree_of}
use Rattle.reference_cycles.specs.Graph.{Refers, HasNoCycle}
use Rattle.variable_kinds.specs.Moment.{Moment, kept_at}
use Rattle.variable_kinds.specs.Resolved.{Agree}
use Rattle.gtm_variables.specs.declared.values.Values.{Values}
use Rattle.gtm_variables.specs.Asked.{asked, asked_of_variable, asked_of_variables}
use Rattle.gtm_variables.specs.Asked.{asked_of_triggers}
use Rattle.gtm_variables.specs.Calls.{CallRecord, Templates, with_calls}
use Rattle.gtm_variables.specs.Kept.{moment_of, kept_for, value_by_kept, AreKept}
use Rattle.gtm_variables.specs.Kept.{AddsCalls, IsReady, IsTemplateAt, HasCall, MayEnter}
use Rattle.gtm_variables.specs.Meaning.{IsTemplate, after_kind, of_variable, fields_of, value}
use Rattle.gtm_variables.specs.Meaning.{value_at}
use Rattle.gtm_variables.specs.Snapshot.{Snapshot, snapshot}
use Rattle.gtm_variables.proofs.Unfolding.{names_same, own_fields_same, variable_same}
use Rattle.gtm_variables.proofs.Unfolding.{variable_unfolds}

abbrev named : Variable → List ℕ
named variable = filter_map variable_at (names_of_variable variable)

-- a variable refers to those that it names
pub refers_by_name : (c : Container) (at : ℕ) (variable : Variable)
    → slice_get c.variables at ≡ Some variable → (to : ℕ) → Contains (named variable) to
    → Refers (variable_graph c) at to
refers_by_name c at variable is to has =
    subst (λ places. IsSomeAnd places (λ ps. Contains ps to))
    (sym (slice_get-map named c.variables at ∙ ap (option_map named) is)) has

-- and names those that it refers to
pub names_by_reference : (c : Container) (at : ℕ) (variable : Variable)
    → slice_get c.variables at ≡ Some variable → (to : ℕ) → Refers (variable_graph c) at to
    → Contains (named variable) to
names_by_reference c at variable is to refers =
    subst (λ places. IsSomeAnd places (λ ps. Contains ps to))
    (slice_get-map named c.variables at ∙ ap (option_map named) is) refers

pub by_kept : (values : Values) (to : ℕ) (meaning : Tree) (found : Option Data)
    → kept_for values to ≡ found → is_none found ≡ false
    → ((kept : Data) → kept_for values to ≡ Some kept → tree_of kept ≡ meaning)
    → kept_at values.kept.items to ≡ meaning
by_kept values to meaning None is there means = absurd cc
by_kept values to meaning (Some kept) is there means =
    ap (λ o. option_map_or tree_of o undefined) is ∙ means kept is

module _ (values : Values) (templates : Templates)
    (kept : AreKept (snapshot (moment_of values) templates) templates.calls (kept_for values))
  where
    abbrev s : Snapshot
    s = snapshot (moment_of values) templates

    -- where all that it refers to is kept, the names of a variable have by what is kept the values
    -- that they have
    ready_names : (at : ℕ) (variable : Variable)
        → slice_get values.container.now.variables at ≡ Some variable → IsReady values at
        → Agree (value_by_kept values) (value s) (names_of_variable variable)
    ready_names at variable is ready =
        names_same (moment_of values) (kept_at values.kept.items) (value_at s)
        (names_of_variable variable)
        (λ to has.
        by_kept values to (value_at s to) (kept_for values to) refl
        (ready to (refers_by_name values.container.now at variable is to has)) (kept.meant to))

    pub fields_ready : (at : ℕ) (variable : Variable)
        → slice_get values.container.now.variables at ≡ Some variable → IsReady values at
        → fields_of (value_by_kept values) variable ≡ fields_of (value s) variable
    fields_ready at variable is ready =
        own_fields_same (value_by_kept values) (value s) variable (ready_names at variable is ready)

    -- and so has the variable
    pub value_ready : HasNoCycle (variable_graph values.container.now) → (at : ℕ)
        (variable : Variable) → slice_get values.container.now.variables at ≡ Some variable
        → IsReady values at
        → of_variable s (value_by_kept values) at variable ≡ value_at s at
    value_ready none at variable is ready =
        variable_same (value_by_kept values) (value s) s at variable
        (ready_names at variable is ready)
        ∙ sym (variable_unfolds s none at variable is)

-- what an entry of a list asks, all ask
enumerated : (f : ℕ → Variable → List (List ℕ)) (from : ℕ) (variables : List Variable) (at : ℕ)
    (variable : Variable) → slice_get variables at ≡ Some variable → (place : ℕ)
    → place ≡ from + at → (text : List ℕ) → Contains (f place variable) text
    → Contains (flat_map (λ entry. f entry.0 entry.1) (enumerate_from from variables)) text
enumerated f from [] at variable is place same text has = absurd cc
enumerated f from (first ∷ rest) zero variable is place same text has =
    let here : place ≡ from = omega (arith, same) in
    let this : variable ≡ first = cc in
    Contains-append_left (f from first)
    (flat_map (λ entry. f entry.0 entry.1) (enumerate_from (from + 1) rest)) text
    (subst (λ p. Contains (f p first) text) here
    (subst (λ v. Contains (f place v) text) this has))
enumerated f from (first ∷ rest) (suc at) variable is place same text has =
    Contains-append_right (f from first)
    (flat_map (λ entry. f entry.0 entry.1) (enumerate_from (from + 1) rest)) text
    (enumerated f (from + 1) rest at variable is place (omega (arith, same)) text has)

-- what a variable asks, its snapshot asks
pub asked_by_variable : (s : Snapshot) (at : ℕ) (variable : Variable)
    → slice_get s.moment.container.variables at ≡ Some variable → (text : List ℕ)
    → Contains (asked_of_variable s at variable) text → Contains (asked s) text
asked_by_variable s at variable is text has =
    Contains-append_left (asked_of_variables s) (asked_of_triggers s) text
    (enumerated (asked_of_variable s) 0 s.moment.container.variables at variable is at
    (omega arith) text has)

with_nothing : (templates : Templates) → with_calls [] templates ≡ templates
with_nothing templates =
    let e : templates.calls ++ [] ≡ templates.calls = rw append-nil refl in
    ap (λ calls.
    let made : Templates =
    record { outcome = templates.outcome; texts = templates.texts; calls = calls } in made) e

module _ (s : Snapshot) where
  pub none_added : (before now : Templates) → now ≡ before → AddsCalls s before now
  none_added before now same =
      record { more = []; after = same ∙ sym (with_nothing before); each = tt }

  added : (at : ℕ) (variable : Variable)
      → slice_get s.moment.container.variables at ≡ Some variable → (fields : Tree)
      → fields ≡ fields_of (value s) variable → (before now : Templates) → (k : VariableKind)
      → variable.kind ≡ k → now ≡ after_kind at k fields before → AddsCalls s before now
  added at variable is fields same before now (kind.Template number) kind_is after = record {
    more = record { variable = at; fields = fields } ∷ [];
    after = after;
    each = (
      subst
          (λ entry.
          IsSomeAnd entry (λ v. IsTemplate v.kind × (fields ≡ fields_of (value s) v)))
          (sym is) (subst IsTemplate (sym kind_is) tt, same),
      tt,
    );
  }
  added at variable is fields same before now kind.Layer kind_is after =
      none_added before now after
  added at variable is fields same before now kind.Constant kind_is after =
      none_added before now after
  added at variable is fields same before now kind.Cookie kind_is after =
      none_added before now after
  added at variable is fields same before now kind.Global kind_is after =
      none_added before now after
  added at variable is fields same before now kind.Url kind_is after =
      none_added before now after
  added at variable is fields same before now kind.Referrer kind_is after =
      none_added before now after
  added at variable is fields same before now kind.EventName kind_is after =
      none_added before now after
  added at variable is fields same before now kind.Lookup kind_is after =
      none_added before now after
  added at variable is fields same before now kind.RegexTable kind_is after =
      none_added before now after
  added at variable is fields same before now (kind.Unknown word) kind_is after =
      none_added before now after

  pub added_after : (at : ℕ) (variable : Variable)
      → slice_get s.moment.container.variables at ≡ Some variable → (fields : Tree)
      → fields ≡ fields_of (value s) variable → (before now : Templates)
      → now ≡ after_kind at variable.kind fields before → AddsCalls s before now
  added_after at variable is fields same before now after =
      added at variable is fields same before now variable.kind refl after

  pub may_added : (at : ℕ) (variable : Variable)
      → slice_get s.moment.container.variables at ≡ Some variable → (fields : Tree)
      → fields ≡ fields_of (value s) variable → (before now : Templates)
      → MayEnter at variable.kind fields before now → AddsCalls s before now
  may_added at variable is fields same before now (inl none) = none_added before now none
  may_added at variable is fields same before now (inr after) =
      added_after at variable is fields same before now after

  -- entries are kept
  calls_more : (calls more : List CallRecord) (at : ℕ) → HasCall calls at
      → HasCall (calls ++ more) at
  calls_more calls more at has =
      let name = λ (call : CallRecord). call.variable in
      subst (λ names. Contains names at) (sym (map-append name calls more))
      (Contains-append_left (map name calls) (map name more) at has)

  pub kept_on : (before now : Templates) (found : ℕ → Option Data) → AddsCalls s before now
      → AreKept s before.calls found → AreKept s now.calls found
  kept_on before now found adds kept = record {
    meant = kept.meant;
    called = λ at d is template.
        subst (λ t. HasCall t.calls at) (sym adds.after)
        (calls_more before.calls adds.more at (kept.called at d is template));
  }

pub snapshot_same : (s : Snapshot) (moment : Moment) (before now : Templates)
    → AddsCalls s before now → snapshot moment now ≡ snapshot moment before
snapshot_same s moment before now adds = ap (snapshot moment) adds.after

called_by : (at : ℕ) (fields : Tree) (before now : Templates) (k : VariableKind) → IsTemplate k
    → now ≡ after_kind at k fields before → HasCall now.calls at
called_by at fields before now (kind.Template number) template after =
    let name = λ (call : CallRecord). call.variable in
    let call : CallRecord = record { variable = at; fields = fields } in
    subst (λ t. HasCall t.calls at) (sym after)
    (subst (λ names. Contains names at) (sym (map-append name before.calls (call ∷ [])))
    (Contains-push (map name before.calls) at))
called_by at fields before now kind.Layer template after = absurd template
called_by at fields before now kind.Constant template after = absurd template
called_by at fields before now kind.Cookie template after = absurd template
called_by at fields before now kind.Global template after = absurd template
called_by at fields before now kind.Url template after = absurd template
called_by at fields before now kind.Referrer template after = absurd template
called_by at fields before now kind.EventName template after = absurd template
called_by at fields before now kind.Lookup template after = absurd template
called_by at fields before now kind.RegexTable template after = absurd template
called_by at fields before now (kind.Unknown word) template after = absurd template

-- after a template variable was computed, there was an entry of it
pub called_now : (c : Container) (at : ℕ) (variable : Variable)
    → slice_get c.variables at ≡ Some variable → (fields : Tree) (before now : Templates)
    → now ≡ after_kind at variable.kind fields before → IsTemplateAt c at
    → HasCall now.calls at
called_now c at variable is fields before now after template =
    called_by at fields before now variable.kind
    (subst (λ entry. IsSomeAnd entry (λ v. IsTemplate v.kind)) is template) after

same_or_not : (some other : ℕ) → (some ≡ other) ⊎ (some ≡ other → ⊥)
same_or_not zero zero = inl refl
same_or_not zero (suc other) = inr (λ e. absurd (omega (arith, e)))
same_or_not (suc some) zero = inr (λ e. absurd (omega (arith, e)))
same_or_not (suc some) (suc other) =
    elim (same_or_not some other) [
      | inl same ↦ inl (ap suc same)
      | inr apart ↦ inr (λ e. apart (omega (arith, e)))
    ]

-- one more value
pub put_kept : (s : Snapshot) (calls : List CallRecord) (before now : ℕ → Option Data) (at : ℕ)
    (kept : Data) → AreKept s calls before → now at ≡ Some kept
    → ((other : ℕ) → other ≢ at → now other ≡ before other)
    → tree_of kept ≡ value_at s at
    → (IsTemplateAt s.moment.container at → HasCall calls at) → AreKept s calls now
put_kept s calls before now at kept are here there means called = record {
  meant = λ place d is. by_place place d is (same_or_not place at);
  called = λ place d is template. by_call place d is template (same_or_not place at);
} where
  by_place : (place : ℕ) (d : Data) → now place ≡ Some d → (place ≡ at) ⊎ (place ≡ at → ⊥)
      → tree_of d ≡ value_at s place
  by_place place d is (inl same) =
      let e : Some d ≡ Some kept = sym is ∙ ap now same ∙ here in
      let d_is : d ≡ kept = cc in
      ap tree_of d_is ∙ means ∙ ap (value_at s) (sym same)
  by_place place d is (inr apart) = are.meant place d (sym (there place apart) ∙ is)

  by_call : (place : ℕ) (d : Data) → now place ≡ Some d
      → IsTemplateAt s.moment.container place → (place ≡ at) ⊎ (place ≡ at → ⊥)
      → HasCall calls place
  by_call place d is template (inl same) =
      subst (HasCall calls) (sym same)
      (called (subst (IsTemplateAt s.moment.container) same template))
  by_call place d is template (inr apart) =
      are.called place d (sym (there place apart) ∙ is) template
