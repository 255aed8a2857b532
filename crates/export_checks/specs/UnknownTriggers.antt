-- Numbers of triggers that stand for nothing.
use Rattle.std.specs.Prelude.{ℕ, suc, List, [], ◌∷◌, Bool, false, Option, Some, None, ◌&&◌, not}
use Rattle.std.specs.Prelude.{nat_lt, option_map, map, if◌then◌else◌, codes}
use Rattle.std.specs.Option.{option_map_or}
use Rattle.gtm_data.specs.WholeText.{digits_of}
use Rattle.export_fields.specs.Fault.{in_key, in_index, ◌then◌}
use Rattle.export_fields.specs.declared.params.WrittenParam.{WrittenParam, out-WrittenParam}
use Rattle.export_entries.specs.declared.entries.WrittenEntries.{WrittenEntries}
use Rattle.export_entries.specs.declared.tags.WrittenTag.{WrittenTag}
use Rattle.export_entries.specs.declared.triggers.WrittenTrigger.{WrittenTrigger}
use Rattle.export_names.specs.Members.{is_group, is_member_list}
use Rattle.export_names.specs.TriggerRefs.{trigger_ref, is_never}
use Rattle.export_names.specs.Values.{value_of}
use Rattle.export_checks.specs.FirstFault.{list_fault}

-- a number is one of Tag Manager's own: a decimal of at least 2147479000
abbrev pub is_reserved : List ℕ → Bool
is_reserved id = option_map_or (λ number. not (nat_lt number 2147479000)) (digits_of id) false

-- a number stands for no trigger of the container's, and for none of Tag Manager's own
abbrev pub is_unknown : List (List ℕ) → List ℕ → Bool
is_unknown ids id = is_never (trigger_ref ids id) && not (is_reserved id)

-- the fault of a number: the number itself, where it is unknown
abbrev pub id_fault : List (List ℕ) → List ℕ → Option (List ℕ)
id_fault ids id = if is_unknown ids id then Some [] else None

-- the first unknown number among those of a tag's triggers: firing ones, then blocking ones
abbrev pub tag_trigger_fault : List (List ℕ) → WrittenTag → Option (List ℕ)
tag_trigger_fault ids tag =
    list_fault (codes "firingTriggerId") (id_fault ids) tag.firing
    then list_fault (codes "blockingTriggerId") (id_fault ids) tag.blocking

-- the fault of a group's member: its text, where that is an unknown number
abbrev pub member_fault : List (List ℕ) → WrittenParam → Option (List ℕ)
member_fault ids param = option_map (in_key (codes "value")) (id_fault ids (value_of param))

-- the first unknown number in a list of members
abbrev pub members_fault : List (List ℕ) → WrittenParam → Option (List ℕ)
members_fault ids param = list_fault (codes "list") (member_fault ids) (out-WrittenParam param).list

-- the first unknown number in the first list of members among these parameters, the first of which
-- stands at this place
abbrev pub first_list_fault : List (List ℕ) → ℕ → List WrittenParam → Option (List ℕ)
first_list_fault ids place [] = None
first_list_fault ids place (param ∷ params) =
    if is_member_list param then option_map (in_index place) (members_fault ids param)
    else first_list_fault ids (suc place) params

-- the first unknown number among the members of a group
abbrev pub group_fault : List (List ℕ) → WrittenTrigger → Option (List ℕ)
group_fault ids trigger =
    if is_group trigger
    then option_map (in_key (codes "parameter")) (first_list_fault ids 0 trigger.params) else None

-- the path of the first number of a trigger that stands for none: those of tags, then those of
-- groups' members
abbrev pub unknown_trigger : WrittenEntries → Option (List ℕ)
unknown_trigger written =
    let ids = map (λ trigger. trigger.id) written.triggers in
    list_fault (codes "tag") (tag_trigger_fault ids) written.tags
    then list_fault (codes "trigger") (group_fault ids) written.triggers
