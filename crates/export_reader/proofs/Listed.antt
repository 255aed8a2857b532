-- The rules that are broken are the broken ones of the list.
use Rattle.std.proofs.Common.{◌≡◌, ◌∙◌, ℕ, zero, suc, List, [], ◌∷◌, Option, Some, None, refl, sym}
use Rattle.std.proofs.Common.{ap}
use Rattle.std.specs.Prelude.{slice_get, option_and_then}
use Rattle.std.specs.Option.{option_map_or}
use Rattle.serde_json.specs.Data as json
use Rattle.gtm_data.specs.Json.{json_of}
use Rattle.gtm_data.specs.Plain.{not_whole, too_deep}
use Rattle.export_entries.specs.Entries.{written_entries}
use Rattle.export_entries.specs.declared.entries.WrittenEntries.{WrittenEntries}
use Rattle.export_reader.specs.Breaks.{of_tree, of_version, Breaks, by_size, by_text, by_number}
use Rattle.export_reader.specs.Breaks.{by_depth, by_format, by_version, by_context, by_field, by_id}
use Rattle.export_reader.specs.Breaks.{by_name, by_trigger, by_sequence_tag, by_template}
use Rattle.export_reader.specs.Breaks.{by_variable_cycle, by_group_cycle, by_priority, by_repeat}
use Rattle.export_reader.specs.Breaks.{by_lack, by_front, by_info, by_fields, by_table}
use Rattle.export_reader.specs.Breaks.{by_permissions, by_what_is_built}
use Rattle.export_reader.specs.Container.{readings_at, loaded_at}
use Rattle.export_reader.specs.FirstBroken.{Rule, part_rules, text_rules, container_rules}
use Rattle.export_reader.specs.FirstBroken.{reference_rules, entries_rules, version_rules}
use Rattle.export_reader.specs.FirstBroken.{tree_rules, rules_of, export_rules}
use Rattle.export_reader.specs.Rules.{too_large, not_json, version_in, other_format}
use Rattle.export_reader.specs.Rules.{no_version, not_web, field_kind}
use Rattle.export_reader.specs.Rules.{duplicate_id, duplicate_name, unknown_trigger}
use Rattle.export_reader.specs.Rules.{unknown_sequence_tag, unknown_template, variable_cycle}
use Rattle.export_reader.specs.Rules.{group_cycle, priority_text, section_repeated}
use Rattle.export_reader.specs.Rules.{section_missing, text_before, info_form, fields_form}
use Rattle.export_reader.specs.Rules.{table_value, permissions_form, not_built}
use Rattle.export_templates.specs.declared.readings.TemplateReading.{TemplateReading}

none_some : {A : Type 0} {x : A} → None ≡ Some x → ⊥
none_some is = cc

some_same : {A : Type 0} {x y : A} → Some x ≡ Some y → x ≡ y
some_same is = cc

-- a rule of the list, broken at this path
abbrev pub Among : List Rule → ℕ → List ℕ → Type 0
Among rules number path = (at : ℕ) × (slice_get rules at ≡ Some (number, Some path))

module _ (bytes : List ℕ) (rule : ℕ) (path : List ℕ) where
  -- a rule of this number with this fault is the one that is looked for
  abbrev Is : ℕ → Option (List ℕ) → Type 0
  Is number fault = let one : Option Rule = Some (number, fault) in one ≡ Some (rule, Some path)

  number_is : (number : ℕ) (fault : Option (List ℕ)) → Is number fault → rule ≡ number
  number_is number fault is = sym (ap (λ r. r.0) (some_same is))

  fault_is : (number : ℕ) (fault : Option (List ℕ)) → Is number fault → fault ≡ Some path
  fault_is number fault is = ap (λ r. r.1) (some_same is)

  -- it is the first rule of a list, or one of the others
  first_or : (number : ℕ) (fault : Option (List ℕ)) (rules : List Rule)
      → (rule ≡ number → fault ≡ Some path → Breaks bytes rule path)
      → ((at : ℕ) → slice_get rules at ≡ Some (rule, Some path) → Breaks bytes rule path)
      → (at : ℕ) → slice_get ((number, fault) ∷ rules) at ≡ Some (rule, Some path)
      → Breaks bytes rule path
  first_or number fault rules here later zero is =
      here (number_is number fault is) (fault_is number fault is)
  first_or number fault rules here later (suc at) is = later at is

  module _ (d : json.Data) (tree : json_of bytes ≡ Some d) where
    by_tree : (test : json.Data → Option (List ℕ)) → test d ≡ Some path
        → of_tree test bytes ≡ Some path
    by_tree test is = ap (option_and_then test) tree ∙ is

    module _ (v : json.Data) (version : version_in d ≡ Some v) where
      abbrev written : WrittenEntries
      written = written_entries v

      abbrev readings : List TemplateReading
      readings = readings_at v

      by_its_version : (test : json.Data → Option (List ℕ)) → test v ≡ Some path
          → of_version test bytes ≡ Some path
      by_its_version test is =
          ap (λ t. option_and_then test (option_and_then version_in t)) tree
          ∙ ap (option_and_then test) version ∙ is

      -- the rules from each number on
      abbrev from_29 : List Rule
      from_29 = (29, not_built written) ∷ []

      abbrev from_25 : List Rule
      from_25 = (25, permissions_form readings) ∷ from_29

      abbrev from_24 : List Rule
      from_24 = (24, table_value readings written) ∷ from_25

      abbrev from_23 : List Rule
      from_23 = (23, fields_form readings) ∷ from_24

      abbrev from_22 : List Rule
      from_22 = (22, info_form readings) ∷ from_23

      abbrev from_21 : List Rule
      from_21 = (21, text_before readings) ∷ from_22

      abbrev from_20 : List Rule
      from_20 = (20, section_missing readings) ∷ from_21

      abbrev from_19 : List Rule
      from_19 = (19, section_repeated readings) ∷ from_20

      abbrev from_18 : List Rule
      from_18 = (18, priority_text written) ∷ from_19

      abbrev from_17 : List Rule
      from_17 = (17, group_cycle (loaded_at v).container) ∷ from_18

      abbrev from_16 : List Rule
      from_16 = (16, variable_cycle (loaded_at v).container) ∷ from_17

      abbrev from_15 : List Rule
      from_15 = (15, unknown_template readings written) ∷ from_16

      abbrev from_14 : List Rule
      from_14 = (14, unknown_sequence_tag written) ∷ from_15

      abbrev from_11 : List Rule
      from_11 = (11, unknown_trigger written) ∷ from_14

      abbrev from_10 : List Rule
      from_10 = (10, duplicate_name written) ∷ from_11

      abbrev from_9 : List Rule
      from_9 = (9, duplicate_id written) ∷ from_10

      abbrev from_8 : List Rule
      from_8 = (8, field_kind v) ∷ from_9

      by_rules : (at : ℕ) → slice_get (version_rules v) at ≡ Some (rule, Some path)
          → Breaks bytes rule path
      unfolding
          version_rules entries_rules reference_rules container_rules text_rules part_rules
      by_rules =
          first_or 7 (not_web v) from_8
          (λ n f. by_context n (by_its_version not_web f))
          (first_or 8 (field_kind v) from_9
          (λ n f. by_field n (by_its_version field_kind f))
          (first_or 9 (duplicate_id written) from_10
          (λ n f. by_id n (by_its_version (λ w. duplicate_id (written_entries w)) f))
          (first_or 10 (duplicate_name written) from_11
          (λ n f. by_name n (by_its_version (λ w. duplicate_name (written_entries w)) f))
          (first_or 11 (unknown_trigger written) from_14
          (λ n f. by_trigger n (by_its_version (λ w. unknown_trigger (written_entries w)) f))
          (first_or 14 (unknown_sequence_tag written) from_15
          (λ n f. by_sequence_tag n (by_its_version (λ w. unknown_sequence_tag (written_entries w)) f))
          (first_or 15 (unknown_template readings written) from_16
          (λ n f. by_template n (by_its_version (λ w. unknown_template (readings_at w) (written_entries w)) f))
          (first_or 16 (variable_cycle (loaded_at v).container) from_17
          (λ n f. by_variable_cycle n (by_its_version (λ w. variable_cycle (loaded_at w).container) f))
          (first_or 17 (group_cycle (loaded_at v).container) from_18
          (λ n f. by_group_cycle n (by_its_version (λ w. group_cycle (loaded_at w).container) f))
          (first_or 18 (priority_text written) from_19
          (λ n f. by_priority n (by_its_version (λ w. priority_text (written_entries w)) f))
          (first_or 19 (section_repeated readings) from_20
          (λ n f. by_repeat n (by_its_version (λ w. section_repeated (readings_at w)) f))
          (first_or 20 (section_missing readings) from_21
          (λ n f. by_lack n (by_its_version (λ w. section_missing (readings_at w)) f))
          (first_or 21 (text_before readings) from_22
          (λ n f. by_front n (by_its_version (λ w. text_before (readings_at w)) f))
          (first_or 22 (info_form readings) from_23
          (λ n f. by_info n (by_its_version (λ w. info_form (readings_at w)) f))
          (first_or 23 (fields_form readings) from_24
          (λ n f. by_fields n (by_its_version (λ w. fields_form (readings_at w)) f))
          (first_or 24 (table_value readings written) from_25
          (λ n f. by_table n (by_its_version (λ w. table_value (readings_at w) (written_entries w)) f))
          (first_or 25 (permissions_form readings) from_29
          (λ n f. by_permissions n (by_its_version (λ w. permissions_form (readings_at w)) f))
          (first_or 29 (not_built written) []
          (λ n f. by_what_is_built n (by_its_version (λ w. not_built (written_entries w)) f))
          (λ at is. absurd (none_some is)))))))))))))))))))

    of_its_version : (version : Option json.Data) → version_in d ≡ version → (at : ℕ)
        → slice_get (option_map_or version_rules version []) at ≡ Some (rule, Some path)
        → Breaks bytes rule path
    of_its_version None lacks at is = absurd (none_some is)
    of_its_version (Some v) version at is = by_rules v version at is

    abbrev from_6 : List Rule
    from_6 = (6, no_version d) ∷ option_map_or version_rules (version_in d) []

    abbrev from_5 : List Rule
    from_5 = (5, other_format d) ∷ from_6

    abbrev from_4 : List Rule
    from_4 = (4, too_deep d) ∷ from_5

    by_tree_rules : (at : ℕ) → slice_get (tree_rules d) at ≡ Some (rule, Some path)
        → Breaks bytes rule path
    unfolding tree_rules
    by_tree_rules =
        first_or 3 (not_whole d) from_4 (λ n f. by_number n (by_tree not_whole f))
        (first_or 4 (too_deep d) from_5 (λ n f. by_depth n (by_tree too_deep f))
        (first_or 5 (other_format d) from_6 (λ n f. by_format n (by_tree other_format f))
        (first_or 6 (no_version d) (option_map_or version_rules (version_in d) []) (λ n f. by_version n (by_tree no_version f))
        (of_its_version (version_in d) refl))))

  of_its_tree : (tree : Option json.Data) → json_of bytes ≡ tree → (at : ℕ)
      → slice_get (option_map_or tree_rules tree []) at ≡ Some (rule, Some path)
      → Breaks bytes rule path
  of_its_tree None lacks at is = absurd (none_some is)
  of_its_tree (Some d) tree at is = by_tree_rules d tree at is

  abbrev from_2 : List Rule
  from_2 = (2, not_json (json_of bytes)) ∷ option_map_or tree_rules (json_of bytes) []

  -- a rule of the list is broken
  pub among_breaks : Among (export_rules bytes) rule path → Breaks bytes rule path
  unfolding export_rules rules_of
  among_breaks among =
      first_or 1 (too_large bytes) from_2 by_size
      (first_or 2 (not_json (json_of bytes)) (option_map_or tree_rules (json_of bytes) []) by_text
      (of_its_tree (json_of bytes) refl)) among.0 among.1

  -- the rules of the tree stand behind the first two, those of the version behind four more
  in_tree : (tree : Option json.Data) (test : json.Data → Option (List ℕ)) (number at : ℕ)
      → ((d : json.Data) → slice_get (tree_rules d) at ≡ Some (number, test d)) → rule ≡ number
      → option_and_then test tree ≡ Some path
      → slice_get (option_map_or tree_rules tree []) at ≡ Some (rule, Some path)
  in_tree None test number at stands is broken = absurd (none_some broken)
  in_tree (Some d) test number at stands is broken = stands d ∙ (λ i. Some (sym is i, broken i))

  in_version : (version : Option json.Data) (test : json.Data → Option (List ℕ)) (number at : ℕ)
      → ((v : json.Data) → slice_get (version_rules v) at ≡ Some (number, test v)) → rule ≡ number
      → option_and_then test version ≡ Some path
      → slice_get (option_map_or version_rules version []) at ≡ Some (rule, Some path)
  in_version None test number at stands is broken = absurd (none_some broken)
  in_version (Some v) test number at stands is broken =
      stands v ∙ (λ i. Some (sym is i, broken i))

  in_tree_version : (tree : Option json.Data) (test : json.Data → Option (List ℕ)) (number at : ℕ)
      → ((v : json.Data) → slice_get (version_rules v) at ≡ Some (number, test v)) → rule ≡ number
      → option_and_then test (option_and_then version_in tree) ≡ Some path
      → slice_get (option_map_or tree_rules tree []) (suc (suc (suc (suc at))))
      ≡ Some (rule, Some path)
  unfolding tree_rules
  in_tree_version None test number at stands is broken = absurd (none_some broken)
  in_tree_version (Some d) test number at stands is broken =
      in_version (version_in d) test number at stands is broken

  of_tree_among : (test : json.Data → Option (List ℕ)) (number at : ℕ)
      → ((d : json.Data) → slice_get (tree_rules d) at ≡ Some (number, test d)) → rule ≡ number
      → of_tree test bytes ≡ Some path → Among (export_rules bytes) rule path
  unfolding export_rules rules_of
  of_tree_among test number at stands is broken =
      (suc (suc at), in_tree (json_of bytes) test number at stands is broken)

  of_version_among : (test : json.Data → Option (List ℕ)) (number at : ℕ)
      → ((v : json.Data) → slice_get (version_rules v) at ≡ Some (number, test v)) → rule ≡ number
      → of_version test bytes ≡ Some path → Among (export_rules bytes) rule path
  unfolding export_rules rules_of
  of_version_among test number at stands is broken = (
    suc (suc (suc (suc (suc (suc at))))),
    in_tree_version (json_of bytes) test number at stands is broken,
  )

  -- a rule that is broken is one of the list
  pub breaks_among : Breaks bytes rule path → Among (export_rules bytes) rule path
  unfolding
      export_rules rules_of tree_rules version_rules entries_rules reference_rules container_rules
      text_rules part_rules
  breaks_among (by_size is broken) = (0, λ i. Some (sym is i, broken i))
  breaks_among (by_text is broken) = (1, λ i. Some (sym is i, broken i))
  breaks_among (by_number is broken) = of_tree_among not_whole 3 0 (λ d. refl) is broken
  breaks_among (by_depth is broken) = of_tree_among too_deep 4 1 (λ d. refl) is broken
  breaks_among (by_format is broken) = of_tree_among other_format 5 2 (λ d. refl) is broken
  breaks_among (by_version is broken) = of_tree_among no_version 6 3 (λ d. refl) is broken
  breaks_among (by_context is broken) =
      of_version_among not_web 7 0 (λ v. refl) is broken
  breaks_among (by_field is broken) =
      of_version_among field_kind 8 1 (λ v. refl) is broken
  breaks_among (by_id is broken) =
      of_version_among (λ w. duplicate_id (written_entries w)) 9 2 (λ v. refl) is broken
  breaks_among (by_name is broken) =
      of_version_among (λ w. duplicate_name (written_entries w)) 10 3 (λ v. refl) is broken
  breaks_among (by_trigger is broken) =
      of_version_among (λ w. unknown_trigger (written_entries w)) 11 4 (λ v. refl) is broken
  breaks_among (by_sequence_tag is broken) =
      of_version_among (λ w. unknown_sequence_tag (written_entries w)) 14 5 (λ v. refl) is broken
  breaks_among (by_template is broken) =
      of_version_among (λ w. unknown_template (readings_at w) (written_entries w)) 15 6 (λ v. refl) is broken
  breaks_among (by_variable_cycle is broken) =
      of_version_among (λ w. variable_cycle (loaded_at w).container) 16 7 (λ v. refl) is broken
  breaks_among (by_group_cycle is broken) =
      of_version_among (λ w. group_cycle (loaded_at w).container) 17 8 (λ v. refl) is broken
  breaks_among (by_priority is broken) =
      of_version_among (λ w. priority_text (written_entries w)) 18 9 (λ v. refl) is broken
  breaks_among (by_repeat is broken) =
      of_version_among (λ w. section_repeated (readings_at w)) 19 10 (λ v. refl) is broken
  breaks_among (by_lack is broken) =
      of_version_among (λ w. section_missing (readings_at w)) 20 11 (λ v. refl) is broken
  breaks_among (by_front is broken) =
      of_version_among (λ w. text_before (readings_at w)) 21 12 (λ v. refl) is broken
  breaks_among (by_info is broken) =
      of_version_among (λ w. info_form (readings_at w)) 22 13 (λ v. refl) is broken
  breaks_among (by_fields is broken) =
      of_version_among (λ w. fields_form (readings_at w)) 23 14 (λ v. refl) is broken
  breaks_among (by_table is broken) =
      of_version_among (λ w. table_value (readings_at w) (written_entries w)) 24 15 (λ v. refl) is broken
  breaks_among (by_permissions is broken) =
      of_version_among (λ w. permissions_form (readings_at w)) 25 16 (λ v. refl) is broken
  breaks_among (by_what_is_built is broken) =
      of_version_among (λ w. not_built (written_entries w)) 29 17 (λ v. refl) is broken
