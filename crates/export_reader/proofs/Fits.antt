-- A container uses templates as what they are, where no rule on them is broken.
use Rattle.std.proofs.Common.{◌≡◌, ◌∙◌, ◌<◌, ◌&&◌, ◌⊎◌, ℕ, zero, suc, List, [], ◌∷◌, length}
use Rattle.std.proofs.Common.{map, Bool, true, false, Option, Some, None, refl, sym, ap, subst}
use Rattle.std.proofs.Common.{inl, inr, arith}
use Rattle.std.specs.Prelude.{codes, slice_get, option_map, option_and_then, unwrap_or, not, All}
use Rattle.std.specs.Prelude.{IsSomeAnd, IfSome, Result, Ok, Err, IfOk, if◌then◌else◌}
use Rattle.std.specs.List.{zip}
use Rattle.std.specs.Option.{option_map_or}
use Rattle.std.specs.Str.{bytes_eq}
use Rattle.std.proofs.lemmas.List.{length-map}
use Rattle.std.proofs.lemmas.List.Elements.{All-nil, All-cons, All-head, All-tail}
use Rattle.std.proofs.lemmas.Option.{slice_get-map}
use Rattle.std.proofs.lemmas.Slice.Eq.{bytes_eq-Decides}
use Rattle.text_places.specs.Places.{place_of, lower_place}
use Rattle.export_entries.specs.declared.entries.WrittenEntries.{WrittenEntries}
use Rattle.export_entries.specs.declared.templates.WrittenTemplate.{WrittenTemplate}
use Rattle.export_fields.specs.Fault.{in_key, ◌then◌}
use Rattle.folded_words.specs.Words.{among}
use Rattle.export_model.specs.Sound.{IsTagKindIn, IsVariableKindIn, IsTagIn, IsVariableIn, InRange}
use Rattle.export_model.specs.Sound.{FitsTag, FitsVariable, FitsTemplates, IsConsistent, Sound}
use Rattle.export_model.specs.declared.container.Container.{Container}
use Rattle.export_model.specs.declared.tags.TagKind.TheVariants as tag_kind
use Rattle.export_model.specs.declared.templates.Template.{Template}
use Rattle.export_model.specs.declared.variables.VariableKind.{VariableKind}
use Rattle.export_model.specs.declared.variables.VariableKind.TheVariants as variable_kind
use Rattle.export_names.specs.Lists.{lists_of}
use Rattle.export_names.specs.Types.{TypeLists, own_type, gallery_id, type_of_gallery, gallery_type}
use Rattle.export_names.specs.Types.{types_of, template_at}
use Rattle.export_templates.specs.Readings.{type_of}
use Rattle.export_templates.specs.declared.readings.SectionFault.TheVariants.{Repeated, Missing}
use Rattle.export_templates.specs.declared.readings.SectionFault.TheVariants.{Before}
use Rattle.export_templates.specs.declared.readings.TemplateReading.{TemplateReading}
use Rattle.export_templates.specs.declared.readings.TemplateReading.TheVariants.{Uncut, Parts}
use Rattle.export_checks.specs.FirstFault.{items_fault, list_fault}
use Rattle.export_checks.proofs.FirstFaults.{NoneBreaks, none_exactly}
use Rattle.export_checks.specs.TemplateTexts.{place_path, reading_fault, readings_fault, without}
use Rattle.export_checks.specs.TemplateTexts.{repeat_place, lack_place, front_place, info_place}
use Rattle.export_checks.specs.UnknownTypes.{is_custom, fits, may_fit, is_answered, type_fault}
use Rattle.export_checks.specs.UnknownTypes as types
use Rattle.export_checks.specs.declared.templates.TemplateUse.{TemplateUse}
use Rattle.export_checks.specs.declared.templates.TemplateUse.TheVariants.{Tag, Variable}
use Rattle.export_checks.specs.declared.texts.TextPlace.{TextPlace}
use Rattle.export_container.specs.Container.{container_of}
use Rattle.export_container.specs.Tags as tags
use Rattle.export_container.specs.Templates.{template_of}
use Rattle.export_container.specs.Variables as variables
use Rattle.export_container.proofs.EntriesInRange.{among_has}
use Rattle.export_reader.specs.Container.{loaded_of}
use Rattle.export_reader.specs.FirstBroken.{Rule, part_rules, text_rules, container_rules}
use Rattle.export_reader.specs.FirstBroken.{first_of, Judges}
use Rattle.export_reader.specs.Rules.{in_version, unknown_template, variable_cycle, group_cycle}
use Rattle.export_reader.specs.Rules.{priority_text, section_repeated, section_missing, text_before}
use Rattle.export_reader.specs.Rules.{info_form, fields_form, table_value, permissions_form}
use Rattle.export_reader.specs.Rules.{not_built}
use Rattle.export_reader.specs.declared.loading.Loaded.{Loaded}
use Rattle.export_reader.specs.declared.top.ExportEnd.{ExportEnd}

none_some : {A : Type 0} {x : A} → None ≡ Some x → ⊥
none_some is = cc

some_same : {A : Type 0} {x y : A} → Some x ≡ Some y → x ≡ y
some_same is = cc

none_first : (found later : Option (List ℕ)) → (found then later) ≡ None → found ≡ None
none_first None later is = refl
none_first (Some path) later is = absurd (none_some (sym is))

none_later : (found later : Option (List ℕ)) → (found then later) ≡ None → later ≡ None
none_later None later is = is
none_later (Some path) later is = absurd (none_some (sym is))

unmapped : {A B : Type 0} (f : A → B) (o : Option A) → option_map f o ≡ None → o ≡ None
unmapped f None is = refl
unmapped f (Some x) is = absurd (none_some (sym is))

mapped_some : {A B : Type 0} (f : A → B) (o : Option A) (y : B) → option_map f o ≡ Some y
    → (x : A) × (o ≡ Some x)
mapped_some f None y is = absurd (none_some is)
mapped_some f (Some x) y is = (x, refl)

got : {A : Type 0} (xs : List A) (at : ℕ) → at < length xs → (x : A) × (slice_get xs at ≡ Some x)
got [] at lower = absurd (omega (arith, lower))
got (x ∷ xs) zero lower = (x, refl)
got (x ∷ xs) (suc at) lower = got xs at (omega (arith, lower))

zip_first : {A B : Type 0} (xs : List A) (ys : List B) (at : ℕ) (p : A × B)
    → slice_get (zip xs ys) at ≡ Some p → slice_get xs at ≡ Some p.0
zip_first [] ys at p is = absurd (none_some is)
zip_first (x ∷ xs) [] at p is = absurd (none_some is)
zip_first {A = A} {B = B} (x ∷ xs) (y ∷ ys) zero p is = ap (option_map (λ (q : A × B). q.0)) is
zip_first (x ∷ xs) (y ∷ ys) (suc at) p is = zip_first xs ys at p is

-- no item of the list at a key has a fault
none_in : {A : Type 0} (key : List ℕ) (fault : A → Option (List ℕ)) (xs : List A)
    → list_fault key fault xs ≡ None → NoneBreaks fault xs
none_in key fault xs is =
    (none_exactly fault xs).0 (unmapped (in_key key) (items_fault fault 0 xs) is)

-- what a reading says that breaks none of the rules on its sections and its INFO
without_none : {A : Type 0} (part : Option A) → without part ≡ None → (x : A) × (part ≡ Some x)
without_none None is = absurd (none_some (sym is))
without_none (Some x) is = (x, refl)

abbrev Typed : TemplateReading → Type 0
Typed reading = (is_tag : Bool) × (type_of reading ≡ Some is_tag)

typed : (reading : TemplateReading) → repeat_place reading ≡ None → lack_place reading ≡ None
    → front_place reading ≡ None → info_place reading ≡ None → Typed reading
typed (Uncut (Repeated place)) repeated missing before info = absurd (none_some (sym repeated))
typed (Uncut Missing) repeated missing before info = absurd (none_some (sym missing))
typed (Uncut (Before place)) repeated missing before info = absurd (none_some (sym before))
typed (Parts parts) repeated missing before info = without_none parts.is_tag info

-- no template breaks a rule on texts
none_broken : (broken : TemplateReading → Option TextPlace) (readings : List TemplateReading)
    → in_version (readings_fault broken readings) ≡ None → (at : ℕ) (reading : TemplateReading)
    → slice_get readings at ≡ Some reading → broken reading ≡ None
none_broken broken readings is at reading here =
    unmapped place_path (broken reading)
    (none_in (codes "customTemplate") (reading_fault broken) readings
    (unmapped (in_key (codes "containerVersion")) (readings_fault broken readings) is) at reading here)

abbrev AreTyped : List TemplateReading → Type 0
AreTyped readings =
    (at : ℕ) (reading : TemplateReading) → slice_get readings at ≡ Some reading → Typed reading

are_typed : (readings : List TemplateReading) → section_repeated readings ≡ None
    → section_missing readings ≡ None → text_before readings ≡ None → info_form readings ≡ None
    → AreTyped readings
unfolding section_repeated section_missing text_before info_form
are_typed readings repeated missing before info at reading here =
    typed reading (none_broken repeat_place readings repeated at reading here)
    (none_broken lack_place readings missing at reading here)
    (none_broken front_place readings before at reading here)
    (none_broken info_place readings info at reading here)

-- a type that a template has is one of custom templates
own_custom : (template : WrittenTemplate) → is_custom (own_type template) ≡ true
own_custom template = refl

by_gallery : (id : Option (List ℕ)) (template : WrittenTemplate)
    → is_custom (option_map_or type_of_gallery id (own_type template)) ≡ true
by_gallery None template = refl
by_gallery (Some id) template = refl

gallery_custom : (template : WrittenTemplate) → is_custom (gallery_type template) ≡ true
gallery_custom template = by_gallery (gallery_id template) template

placed_custom : (name : WrittenTemplate → List ℕ)
    → ((template : WrittenTemplate) → is_custom (name template) ≡ true) → (kind : List ℕ)
    (templates : List WrittenTemplate) (at : ℕ) → place_of kind (map name templates) ≡ Some at
    → is_custom kind ≡ true
placed_custom name each kind [] at is = absurd (none_some is)
placed_custom name each kind (template ∷ templates) at is =
    let later = option_map suc (place_of kind (map name templates)) in
    let here : Option ℕ = Some 0 in
    elim (bytes_eq (name template) kind) as
    (λ b. bytes_eq (name template) kind ≡ b → (if b then here else later) ≡ Some at
    → is_custom kind ≡ true) [
      | true ↦ λ same found. subst (λ k. is_custom k ≡ true)
          ((bytes_eq-Decides (name template) kind).0 same) (each template)
      | false ↦ λ other found.
          let next = mapped_some suc (place_of kind (map name templates)) at found in
          placed_custom name each kind templates next.0 next.1
    ] refl is

either : (own gallery : Option ℕ) (at : ℕ) → lower_place own gallery ≡ Some at
    → ((place : ℕ) × (own ≡ Some place)) ⊎ ((place : ℕ) × (gallery ≡ Some place))
either None gallery at is = inr (at, is)
either (Some place) gallery at is = inl (place, refl)

custom_type : (kind : List ℕ) (templates : List WrittenTemplate) (at : ℕ)
    → template_at (types_of templates) kind ≡ Some at → is_custom kind ≡ true
custom_type kind templates at is =
    elim (either (place_of kind (map own_type templates))
    (place_of kind (map gallery_type templates)) at is) [
      | inl found ↦ placed_custom own_type own_custom kind templates found.0 found.1
      | inr found ↦ placed_custom gallery_type gallery_custom kind templates found.0 found.1
    ]

unfaulted : (custom answered : Bool) (path : List ℕ)
    → (if custom && not answered then Some path else None) ≡ None → custom ≡ true
    → answered ≡ true
unfaulted true true path is holds = refl
unfaulted true false path is holds = absurd (none_some (sym is))
unfaulted false answered path is holds = absurd cc

not_true : (b : Bool) → not b ≡ true → b ≡ false
not_true true is = absurd cc
not_true false is = refl

is_tag_of : (reading : TemplateReading) (written : WrittenTemplate) (is_tag : Bool)
    → type_of reading ≡ Some is_tag → (template_of reading written).is_tag ≡ is_tag
unfolding template_of
is_tag_of reading written is_tag is = ap (λ (o : Option Bool). unwrap_or o false) is

-- what holds of each item holds of each that is made of one, where no item has a fault
all_fit : {A B : Type 0} (P Q : B → Type 0) (made : A → B) (fault : A → Option (List ℕ))
    → ((a : A) → fault a ≡ None → Q (made a) → P (made a)) → (xs : List A) → NoneBreaks fault xs
    → All Q (map made xs) → All P (map made xs)
all_fit P Q made fault each [] none all = All-nil P
all_fit P Q made fault each (x ∷ xs) none all =
    All-cons P (made x) (map made xs)
    (each x (none 0 x refl) (All-head Q (made x) (map made xs) all))
    (all_fit P Q made fault each xs (λ place y is. none (suc place) y is)
    (All-tail Q (made x) (map made xs) all))

module _ (readings : List TemplateReading) (written : WrittenEntries) (are : AreTyped readings)
  where
    abbrev made : Container
    made = container_of readings written

    abbrev its_types : TypeLists
    its_types = types_of written.templates

    abbrev pairs : List (TemplateReading × WrittenTemplate)
    pairs = zip readings written.templates

    abbrev turned : TemplateReading × WrittenTemplate → Template
    turned pair = template_of pair.0 pair.1

    -- the template that an entry uses is one for this use
    used_fits : (used : TemplateUse) (kind : List ℕ) (at : ℕ) → template_at its_types kind ≡ Some at
        → type_fault its_types readings used kind ≡ None → at < length made.templates
        → (t : Template) × (slice_get made.templates at ≡ Some t) × (fits used t.is_tag ≡ true)
    used_fits used kind at found none lower =
        let within : at < length pairs = subst (λ n. at < n) (length-map pairs turned) lower in
        let pair = got pairs at within in
        let reading : slice_get readings at ≡ Some pair.0.0 =
        zip_first readings written.templates at pair.0 pair.1 in
        let its = are at pair.0.0 reading in
        let answered : is_answered readings used (template_at its_types kind) ≡ true =
        unfaulted (is_custom kind) (is_answered readings used (template_at its_types kind))
        (in_key (codes "type") []) none (custom_type kind written.templates at found) in
        let fit : fits used its.0 ≡ true =
        ap (may_fit used) (sym (ap (option_and_then type_of) reading ∙ its.1))
        ∙ ap (is_answered readings used) (sym found) ∙ answered in (
          turned pair.0,
          slice_get-map turned pairs at ∙ ap (option_map turned) pair.1,
          ap (fits used) (is_tag_of pair.0.0 pair.0.1 its.0 its.1) ∙ fit,
        )

    tag_fits : (kind : List ℕ) (place : Option ℕ) → template_at its_types kind ≡ place
        → type_fault its_types readings Tag kind ≡ None
        → IsTagKindIn made (option_map_or tag_kind.Template place (tag_kind.Opaque kind))
        → FitsTag made (option_map_or tag_kind.Template place (tag_kind.Opaque kind))
    tag_fits kind None found none there = tt
    tag_fits kind (Some at) found none there =
        let t = used_fits Tag kind at found none there in
        subst (λ o. IsSomeAnd o (λ template. template.is_tag ≡ true)) (sym t.1) t.2

    custom_fits : (kind : List ℕ) (place : Option ℕ) → template_at its_types kind ≡ place
        → type_fault its_types readings Variable kind ≡ None
        → IsVariableKindIn made
        (option_map_or variable_kind.Template place (variable_kind.Unknown kind))
        → FitsVariable made (option_map_or variable_kind.Template place (variable_kind.Unknown kind))
    custom_fits kind None found none there = tt
    custom_fits kind (Some at) found none there =
        let t = used_fits Variable kind at found none there in
        subst (λ o. IsSomeAnd o (λ template. template.is_tag ≡ false)) (sym t.1)
        (not_true t.0.is_tag t.2)

    by_word : (kind : List ℕ) (known : Option VariableKind) → IfSome known (FitsVariable made)
        → type_fault its_types readings Variable kind ≡ None
        → IsVariableKindIn made (unwrap_or known (variables.custom_kind its_types kind))
        → FitsVariable made (unwrap_or known (variables.custom_kind its_types kind))
    by_word kind None word none there =
        custom_fits kind (template_at its_types kind) refl none there
    by_word kind (Some known) word none there = word

    variable_fits : (kind : List ℕ) → type_fault its_types readings Variable kind ≡ None
        → IsVariableKindIn made (variables.variable_kind its_types kind)
        → FitsVariable made (variables.variable_kind its_types kind)
    variable_fits kind none there =
        by_word kind (among variables.variable_words kind)
        (among_has (FitsVariable made) variables.variable_words kind
        (tt, (tt, (tt, (tt, (tt, (tt, (tt, (tt, (tt, tt)))))))))) none there

    made_fits : types.unknown_template readings written ≡ None → InRange made → FitsTemplates made
    made_fits answered there =
        let of_tags =
        list_fault (codes "tag") (λ tag. type_fault its_types readings Tag tag.kind) written.tags in
        let of_variables =
        list_fault (codes "variable")
        (λ variable. type_fault its_types readings Variable variable.kind) written.variables in
        record {
          tags =
              all_fit (λ tag. FitsTag made tag.kind) (IsTagIn made) (tags.tag_of (lists_of written))
              (λ tag. type_fault its_types readings Tag tag.kind)
              (λ tag none is. tag_fits tag.kind (template_at its_types tag.kind) refl none is.kind)
              written.tags
              (none_in (codes "tag") (λ tag. type_fault its_types readings Tag tag.kind) written.tags
              (none_first of_tags of_variables answered)) there.tags;
          variables =
              all_fit (λ variable. FitsVariable made variable.kind) (IsVariableIn made)
              (variables.variable_of (lists_of written))
              (λ variable. type_fault its_types readings Variable variable.kind)
              (λ variable none is. variable_fits variable.kind none is.kind) written.variables
              (none_in (codes "variable")
              (λ variable. type_fault its_types readings Variable variable.kind) written.variables
              (none_later of_tags of_variables answered)) there.variables;
        }

-- where none of some rules is broken, the first is not, and none of the others
none_of : (number : ℕ) (found : Option (List ℕ)) (rules : List Rule)
    → first_of ((number, found) ∷ rules) ≡ None → (found ≡ None) × (first_of rules ≡ None)
none_of number None rules is = (refl, is)
none_of number (Some path) rules is = absurd (none_some (sym is))

rules_fit : (readings : List TemplateReading) (written : WrittenEntries)
    → unknown_template readings written ≡ None
    → first_of (container_rules readings written (container_of readings written)) ≡ None
    → InRange (container_of readings written) → FitsTemplates (container_of readings written)
unfolding unknown_template container_rules text_rules part_rules
rules_fit readings written answered unbroken there =
    let made = container_of readings written in
    let from_17 =
    none_of 16 (variable_cycle made)
    ((17, group_cycle made) ∷ (18, priority_text written) ∷ text_rules readings written)
    unbroken in
    let from_18 =
    none_of 17 (group_cycle made) ((18, priority_text written) ∷ text_rules readings written)
    from_17.1 in
    let from_19 = none_of 18 (priority_text written) (text_rules readings written) from_18.1 in
    let from_20 =
    none_of 19 (section_repeated readings)
    ((20, section_missing readings) ∷ (21, text_before readings) ∷ part_rules readings written)
    from_19.1 in
    let from_21 =
    none_of 20 (section_missing readings)
    ((21, text_before readings) ∷ part_rules readings written) from_20.1 in
    let from_22 = none_of 21 (text_before readings) (part_rules readings written) from_21.1 in
    let from_23 =
    none_of 22 (info_form readings)
    ((23, fields_form readings) ∷ (24, table_value readings written)
    ∷ (25, permissions_form readings) ∷ (29, not_built written) ∷ []) from_22.1 in
    made_fits readings written
    (are_typed readings from_20.0 from_21.0 from_22.0 from_23.0)
    (unmapped (in_key (codes "containerVersion")) (types.unknown_template readings written)
    answered) there

-- what is loaded of entries that break none of these rules is sound
pub loaded_sound : (readings : List TemplateReading) (written : WrittenEntries)
    (result : Result Loaded ExportEnd) → unknown_template readings written ≡ None
    → Judges result (container_rules readings written (container_of readings written))
    (Some (loaded_of readings written)) → IfOk result (λ loaded. IsConsistent loaded.container)
    → IfOk result (λ loaded. Sound loaded.container)
loaded_sound readings written (Err end) answered judged is = tt
loaded_sound readings written (Ok made) answered judged is =
    let same : loaded_of readings written ≡ made = some_same judged.1 in
    record {
      consistent = is;
      fits =
          subst (λ (loaded : Loaded). FitsTemplates loaded.container) same
          (rules_fit readings written answered judged.0
          (subst (λ (loaded : Loaded). InRange loaded.container) (sym same) is.in_range));
    }
