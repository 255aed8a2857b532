-- The members of groups of triggers.
use Rattle.std.specs.Prelude.{ℕ, List, [], Bool, ◌&&◌, find, if◌then◌else◌, codes}
use Rattle.std.specs.Option.{option_map_or}
use Rattle.std.specs.Str.{bytes_eq}
use Rattle.folded_words.specs.Words.{folded}
use Rattle.export_fields.specs.declared.params.WrittenParam.{WrittenParam, out-WrittenParam}
use Rattle.export_entries.specs.declared.triggers.WrittenTrigger.{WrittenTrigger}
use Rattle.export_names.specs.Values.{values_of, has_key, is_list}

-- a trigger is a group
abbrev pub is_group : WrittenTrigger → Bool
is_group written = bytes_eq (folded written.kind) (codes "triggergroup")

-- a parameter is the list of a group's members
abbrev pub is_member_list : WrittenParam → Bool
is_member_list param = is_list (out-WrittenParam param).kind && has_key (codes "triggerIds") param

-- the parameters that name the members of a group: the first list of members has them
abbrev pub member_params : WrittenTrigger → List WrittenParam
member_params written =
    if is_group written
    then option_map_or (λ param. (out-WrittenParam param).list) (find is_member_list written.params)
    [] else []

-- the numbers of a group's members
abbrev pub member_ids : WrittenTrigger → List (List ℕ)
member_ids written = values_of (member_params written)
