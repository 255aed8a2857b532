-- What each entry of a container names is there.
use Rattle.std.proofs.Common.{ℕ, List, [], ◌∷◌, length, map, Bool, true, false, sym, subst}
use Rattle.std.specs.Prelude.{Option, Some, None, IfSome, All, option_map}
use Rattle.std.specs.Prelude.{unwrap_or, if◌then◌else◌, codes}
use Rattle.std.specs.List.{AllByRecursion}
use Rattle.std.specs.Option.{option_map_or}
use Rattle.std.specs.Str.{bytes_eq}
use Rattle.std.proofs.lemmas.List.Elements.{All-nil, All-cons, All-append, All-weaker}
use Rattle.text_places.specs.Places.{place_of}
use Rattle.folded_words.specs.Words.{among}
use Rattle.export_fields.specs.declared.params.WrittenParam.{WrittenParam}
use Rattle.export_entries.specs.declared.conditions.WrittenCondition.{WrittenCondition}
use Rattle.export_entries.specs.declared.entries.WrittenEntries.{WrittenEntries}
use Rattle.export_entries.specs.declared.formats.WrittenFormat.{WrittenFormat}
use Rattle.export_entries.specs.declared.tags.WrittenTag.{WrittenTag}
use Rattle.export_entries.specs.declared.triggers.WrittenTrigger.{WrittenTrigger}
use Rattle.export_entries.specs.declared.turns.WrittenSetup.{WrittenSetup}
use Rattle.export_entries.specs.declared.turns.WrittenTeardown.{WrittenTeardown}
use Rattle.export_entries.specs.declared.variables.WrittenVariable.{WrittenVariable}
use Rattle.export_model.specs.Sound.{IsNameIn, IsParamIn, IsConditionIn, IsFormatIn, IsTriggerIn}
use Rattle.export_model.specs.Sound.{IsSequenceIn, IsTagKindIn}
use Rattle.export_model.specs.Sound.{IsVariableKindIn, IsTagIn, IsTriggerEntryIn, IsVariableIn}
use Rattle.export_model.specs.Sound.{InRange}
use Rattle.export_model.specs.declared.container.Container.{Container}
use Rattle.export_model.specs.declared.params.NameRef.{NameRef}
use Rattle.export_model.specs.declared.params.NameRef.TheVariants.{Variable, BuiltIn, EventName}
use Rattle.export_model.specs.declared.params.NameRef.TheVariants.{Nothing}
use Rattle.export_model.specs.declared.tags.TagKind.TheVariants as tag_kind
use Rattle.export_model.specs.declared.triggers.TriggerRef.TheVariants.{Own, Never}
use Rattle.export_model.specs.declared.variables.VariableKind.TheVariants as variable_kind
use Rattle.export_names.proofs.LookUps.{no_name_in_empty, looked_up}
use Rattle.export_names.specs.LookedUp.{IsLookedUp}
use Rattle.export_names.specs.Names.{name_ref}
use Rattle.export_names.specs.Params as turned
use Rattle.export_names.specs.Lists.{Lists, lists_of}
use Rattle.export_names.specs.Members.{member_ids}
use Rattle.export_names.specs.TriggerRefs.{built_in_triggers, built_in_trigger, trigger_ref}
use Rattle.export_names.specs.Types.{template_at}
use Rattle.export_names.specs.Values.{first_with}
use Rattle.export_container.proofs.Ranges.{Within, place_within, lower_within, within_same}
use Rattle.export_container.proofs.Ranges.{same_length, zipped_length}
use Rattle.export_container.specs.Conditions.{empty_param, condition_of, conditions_of}
use Rattle.export_container.specs.Container.{container_of}
use Rattle.export_container.specs.Tags as tags
use Rattle.export_container.specs.Templates.{AreRead}
use Rattle.export_container.specs.TriggerEntries.{trigger_of}
use Rattle.export_container.specs.Variables as variables
use Rattle.export_templates.specs.declared.readings.TemplateReading.{TemplateReading}

or_later : {W : Type 0} (P : W → Type 0) (here : W) (test : Bool) (later : Option W) → P here
    → IfSome later P → IfSome (if test then Some here else later) P
or_later P here true later h rest = h
or_later P here false later h rest = rest

-- what a word of a table stands for has what all of its words have
pub among_has : {W : Type 0} (P : W → Type 0) (table : List (List ℕ × W)) (word : List ℕ)
    → AllByRecursion (λ pair. P pair.1) table → IfSome (among table word) P
among_has P [] word all = tt
among_has P (pair ∷ table) word all =
    or_later P pair.1 (bytes_eq word pair.0) (among table word) all.0 (among_has P table word all.1)

or_else : {W : Type 0} (P : W → Type 0) (found : Option W) (other : W) → IfSome found P → P other
    → P (unwrap_or found other)
or_else P None other h rest = rest
or_else P (Some w) other h rest = h

-- what all have, each made of one has
all_made : {A B : Type 0} (P : B → Type 0) (made : A → B) → ((a : A) → P (made a))
    → (items : List A) → All P (map made items)
all_made P made each [] = All-nil P
all_made P made each (a ∷ items) =
    All-cons P (made a) (map made items) (each a) (all_made P made each items)

module _ (readings : List TemplateReading) (written : WrittenEntries)
    (read : AreRead readings written.templates) where
  abbrev made : Container
  made = container_of readings written

  abbrev lists : Lists
  lists = lists_of written

  variable_within : (word : List ℕ)
      → Within (length made.variables) (place_of word lists.names.variables)
  variable_within word =
      within_same _ _ _ (same_length _ _ written.variables)
      (place_within word lists.names.variables)

  built_in_within : (word : List ℕ)
      → Within (length made.built_ins) (place_of word lists.names.built_ins)
  built_in_within word =
      within_same _ _ _ (same_length _ _ written.built_ins)
      (place_within word lists.names.built_ins)

  trigger_within : (id : List ℕ) → Within (length made.triggers) (place_of id lists.triggers)
  trigger_within id =
      within_same _ _ _ (same_length _ _ written.triggers) (place_within id lists.triggers)

  tag_within : (name : List ℕ) → Within (length made.tags) (place_of name lists.tags)
  tag_within name = within_same _ _ _ (same_length _ _ written.tags) (place_within name lists.tags)

  template_within : (kind : List ℕ) → Within (length made.templates) (template_at lists.types kind)
  template_within kind =
      lower_within _ (place_of kind lists.types.own) (place_of kind lists.types.gallery)
      (within_same _ _ _ (zipped_length _ _ readings written.templates read)
      (place_within kind lists.types.own))
      (within_same _ _ _ (zipped_length _ _ readings written.templates read)
      (place_within kind lists.types.gallery))

  -- names
  by_built_in : (place : Option ℕ) → Within (length made.built_ins) place
      → IsNameIn made (option_map_or BuiltIn place Nothing)
  by_built_in None h = tt
  by_built_in (Some at) h = h

  by_variable : (place built_in : Option ℕ) → Within (length made.variables) place
      → Within (length made.built_ins) built_in
      → IsNameIn made (option_map_or Variable place (option_map_or BuiltIn built_in Nothing))
  by_variable None built_in h more = by_built_in built_in more
  by_variable (Some at) built_in h more = h

  by_event : (test : Bool) (found : NameRef) → IsNameIn made found
      → IsNameIn made (if test then EventName else found)
  by_event true found h = tt
  by_event false found h = h

  name_in : (word : List ℕ) → IsNameIn made (name_ref lists.names word)
  name_in word =
      by_event (bytes_eq word (codes "_event")) _
      (by_variable (place_of word lists.names.variables) (place_of word lists.names.built_ins)
      (variable_within word) (built_in_within word))

  looked_up_in : (found : NameRef) → IsLookedUp lists.names found → IsNameIn made found
  looked_up_in found is = subst (IsNameIn made) (sym is.is) (name_in is.word)

  param_in : (param : WrittenParam) → IsParamIn made (turned.param_of lists.names param)
  param_in param =
      All-weaker (IsLookedUp lists.names) (IsNameIn made) looked_up_in _
      (looked_up lists.names param)

  params_in : (params : List WrittenParam)
      → All (IsParamIn made) (turned.params_of lists.names params)
  params_in params = all_made (IsParamIn made) (turned.param_of lists.names) param_in params

  -- the numbers of triggers
  by_trigger : (id : List ℕ) (place : Option ℕ) → Within (length made.triggers) place
      → IsTriggerIn made (option_map_or Own place (built_in_trigger id))
  by_trigger id None h =
      or_else (IsTriggerIn made) (among built_in_triggers id) Never
      (among_has (IsTriggerIn made) built_in_triggers id (tt, (tt, (tt, tt)))) tt
  by_trigger id (Some at) h = h

  trigger_in : (id : List ℕ) → IsTriggerIn made (trigger_ref lists.triggers id)
  trigger_in id = by_trigger id (place_of id lists.triggers) (trigger_within id)

  -- tags
  tag_kind_by : (kind : List ℕ) (place : Option ℕ) → Within (length made.templates) place
      → IsTagKindIn made (option_map_or tag_kind.Template place (tag_kind.Opaque kind))
  tag_kind_by kind None h = tt
  tag_kind_by kind (Some at) h = h

  sequence_by : (stop : Bool) (place : Option ℕ) → Within (length made.tags) place
      → IfSome (option_map (λ at. record { tag = at; stop = stop }) place) (IsSequenceIn made)
  sequence_by stop None h = tt
  sequence_by stop (Some at) h = h

  setup_in : (setup : Option WrittenSetup)
      → IfSome (tags.setup_of lists.tags setup) (IsSequenceIn made)
  setup_in None = tt
  setup_in (Some setup) =
      sequence_by setup.stop (place_of setup.tag lists.tags) (tag_within setup.tag)

  teardown_in : (teardown : Option WrittenTeardown)
      → IfSome (tags.teardown_of lists.tags teardown) (IsSequenceIn made)
  teardown_in None = tt
  teardown_in (Some teardown) =
      sequence_by teardown.stop (place_of teardown.tag lists.tags) (tag_within teardown.tag)

  tag_in : (tag : WrittenTag) → IsTagIn made (tags.tag_of lists tag)
  tag_in tag = record {
    kind = tag_kind_by tag.kind (template_at lists.types tag.kind) (template_within tag.kind);
    params = params_in tag.params;
    firing = all_made (IsTriggerIn made) (trigger_ref lists.triggers) trigger_in tag.firing;
    blocking = all_made (IsTriggerIn made) (trigger_ref lists.triggers) trigger_in tag.blocking;
    setup = setup_in tag.turn.setup;
    teardown = teardown_in tag.turn.teardown;
  }

  -- triggers
  side_in : (key : List ℕ) (found : Option WrittenParam)
      → IsParamIn made (option_map_or (turned.param_of lists.names) found (empty_param key))
  side_in key None =
      subst (All (IsNameIn made)) (sym no_name_in_empty) (All-nil (IsNameIn made))
  side_in key (Some param) = param_in param

  condition_in : (condition : WrittenCondition)
      → IsConditionIn made (condition_of lists.names condition)
  condition_in condition = record {
    left = side_in (codes "arg0") (first_with (codes "arg0") condition.params);
    right = side_in (codes "arg1") (first_with (codes "arg1") condition.params);
  }

  conditions_in : (trigger : WrittenTrigger)
      → All (IsConditionIn made) (conditions_of lists.names trigger)
  conditions_in trigger =
      All-append (IsConditionIn made) _ _
      (All-append (IsConditionIn made) _ _
      (all_made (IsConditionIn made) (condition_of lists.names) condition_in trigger.custom)
      (all_made (IsConditionIn made) (condition_of lists.names) condition_in trigger.filter))
      (all_made (IsConditionIn made) (condition_of lists.names) condition_in trigger.auto)

  trigger_entry_in : (trigger : WrittenTrigger) → IsTriggerEntryIn made (trigger_of lists trigger)
  trigger_entry_in trigger = record {
    conditions = conditions_in trigger;
    members =
        all_made (IsTriggerIn made) (trigger_ref lists.triggers) trigger_in (member_ids trigger);
  }

  -- variables
  custom_kind_by : (kind : List ℕ) (place : Option ℕ) → Within (length made.templates) place
      → IsVariableKindIn made
      (option_map_or variable_kind.Template place (variable_kind.Unknown kind))
  custom_kind_by kind None h = tt
  custom_kind_by kind (Some at) h = h

  variable_kind_in : (kind : List ℕ) → IsVariableKindIn made (variables.variable_kind lists.types kind)
  variable_kind_in kind =
      or_else (IsVariableKindIn made) (among variables.variable_words kind)
      (variables.custom_kind lists.types kind)
      (among_has (IsVariableKindIn made) variables.variable_words kind
      (tt, (tt, (tt, (tt, (tt, (tt, (tt, (tt, (tt, tt))))))))))
      (custom_kind_by kind (template_at lists.types kind) (template_within kind))

  option_in : (param : Option WrittenParam)
      → IfSome (option_map (turned.param_of lists.names) param) (IsParamIn made)
  option_in None = tt
  option_in (Some param) = param_in param

  format_in : (format : Option WrittenFormat)
      → IsFormatIn made (variables.format_of lists.names format)
  format_in None = record { null = tt; undefined = tt; yes = tt; no = tt }
  format_in (Some format) = record {
    null = option_in format.null;
    undefined = option_in format.undefined;
    yes = option_in format.yes;
    no = option_in format.no;
  }

  variable_in : (variable : WrittenVariable)
      → IsVariableIn made (variables.variable_of lists variable)
  variable_in variable = record {
    kind = variable_kind_in variable.kind;
    params = params_in variable.params;
    format = format_in variable.format;
  }

  -- every number of the container is in range
  pub in_range : InRange made
  in_range = record {
    tags = all_made (IsTagIn made) (tags.tag_of lists) tag_in written.tags;
    triggers =
        all_made (IsTriggerEntryIn made) (trigger_of lists) trigger_entry_in written.triggers;
    variables =
        all_made (IsVariableIn made) (variables.variable_of lists) variable_in written.variables;
  }
