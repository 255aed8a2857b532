-- The form of a template's INFO and of its parameters.
use Rattle.std.specs.Prelude.{ℕ, ◌&&◌, ◌||◌, if◌then◌else◌, List, Bool, true}
use Rattle.std.specs.Prelude.{false, Option, Some, None, is_some, codes}
use Rattle.std.specs.Str.{bytes_eq}
use Rattle.folded_words.specs.Words.{folded}
use Rattle.gtm_data.specs.Paths.{member, member_of}
use Rattle.gtm_data.specs.Tree.{Tree, list, object, Trees, end, item, Entries, none, entry, text_in}

abbrev pub text_found : Option Tree → Option (List ℕ)
text_found None = None
text_found (Some t) = text_in t

-- TAG is true and MACRO is false
abbrev pub is_tag_word : List ℕ → Option Bool
is_tag_word word =
    if bytes_eq word (codes "tag") then Some true
    else (if bytes_eq word (codes "macro") then Some false else None)

abbrev pub is_tag_named : Option (List ℕ) → Option Bool
is_tag_named None = None
is_tag_named (Some word) = is_tag_word (folded word)

-- whether the template is one of tags, or of variables, or none of both
abbrev pub is_tag : Tree → Option Bool
is_tag info = is_tag_named (text_found (member_of (codes "type") info))

-- objects of these kinds are no fields
abbrev pub is_group : List ℕ → Bool
is_group kind = bytes_eq kind (codes "GROUP") || bytes_eq kind (codes "LABEL")

-- there is a kind, and a name but for groups and labels
abbrev pub is_described : Option (List ℕ) → Option (List ℕ) → Bool
is_described None name = false
is_described (Some kind) name = is_group kind || is_some name

abbrev pub text_at : List ℕ → Entries → Option (List ℕ)
text_at key es = text_found (member key es)

-- the parameters have the form of fields, and so have those below them
abbrev mutual
  pub are_fields : Trees → Bool
  are_fields end = true
  are_fields (item t ts) = is_field t && are_fields ts

  -- an object with a kind and a name
  pub is_field : Tree → Bool
  is_field (object es) =
      (is_described (text_at (codes "type") es) (text_at (codes "name") es) && has_subs es)
      && has_radios es
  is_field _ = false

  -- what the first member `subParams` has, where there is one
  pub has_subs : Entries → Bool
  has_subs none = true
  has_subs (entry key t es) = if bytes_eq key (codes "subParams") then is_list t else has_subs es

  pub is_list : Tree → Bool
  is_list (list ts) = are_fields ts
  is_list _ = false

  -- what the first member `radioItems` has, where it is a list
  pub has_radios : Entries → Bool
  has_radios none = true
  has_radios (entry key t es) =
      if bytes_eq key (codes "radioItems") then is_radio_list t else has_radios es

  pub is_radio_list : Tree → Bool
  is_radio_list (list ts) = are_radios ts
  is_radio_list _ = true

  pub are_radios : Trees → Bool
  are_radios end = true
  are_radios (item t ts) = is_radio t && are_radios ts

  -- an object among the radio items
  pub is_radio : Tree → Bool
  is_radio (object es) = has_subs es
  is_radio _ = true
