-- The numbers of triggers that never hold.
use Rattle.std.specs.Prelude.{◌≡◌, ◌<◌, ◌==◌, ℕ, suc, List, [], ◌∷◌, ◌++◌, Bool, false, Option}
use Rattle.std.specs.Prelude.{Some, None, filter, if◌then◌else◌, slice_get}
use Rattle.std.specs.List.{flat_map}
use Rattle.text_places.specs.Places.{place_of, AllDifferent, IsFirstPlace}
use Rattle.export_entries.specs.declared.tags.WrittenTag.{WrittenTag}
use Rattle.export_entries.specs.declared.triggers.WrittenTrigger.{WrittenTrigger}
use Rattle.export_names.specs.Members.{member_ids}
use Rattle.export_names.specs.TriggerRefs.{trigger_ref, is_never}

-- those of the numbers that never hold, in order
abbrev pub never_ids : List (List ℕ) → List (List ℕ) → List (List ℕ)
never_ids ids texts = filter (λ id. is_never (trigger_ref ids id)) texts

-- the numbers that never hold among those of tags, firing before blocking for each
abbrev pub never_of_tags : List (List ℕ) → List WrittenTag → List (List ℕ)
never_of_tags ids tags =
    flat_map (λ tag. never_ids ids tag.firing ++ never_ids ids tag.blocking) tags

-- the numbers that never hold among the members of groups
abbrev pub never_of_groups : List (List ℕ) → List WrittenTrigger → List (List ℕ)
never_of_groups ids triggers = flat_map (λ trigger. never_ids ids (member_ids trigger)) triggers

-- a place is this one
abbrev pub is_place : ℕ → Option ℕ → Bool
is_place place None = false
is_place place (Some at) = at == place

-- of texts that stand in a list from a place on, those that stand at their first place there
abbrev pub firsts_from : List (List ℕ) → ℕ → List (List ℕ) → List (List ℕ)
firsts_from all place [] = []
firsts_from all place (text ∷ texts) =
    if is_place place (place_of text all) then text ∷ firsts_from all (suc place) texts
    else firsts_from all (suc place) texts

-- each of the texts once, where it stands first
abbrev pub each_once : List (List ℕ) → List (List ℕ)
each_once texts = firsts_from texts 0 texts

-- the numbers that never hold, each once, in the order of the references to them
abbrev pub references_of : List (List ℕ) → List WrittenTag → List WrittenTrigger → List (List ℕ)
references_of ids tags triggers = each_once (never_of_tags ids tags ++ never_of_groups ids triggers)

-- these are the texts of a list, each once, in the order of their first places in it
pub record IsEachOnce (texts told : List (List ℕ)) : Type 0 where
  -- no text is told twice
  pub different : AllDifferent told
  -- a text that is told stands in the list
  pub stands : (at : ℕ) (text : List ℕ) → slice_get told at ≡ Some text
      → (place : ℕ) × (slice_get texts place ≡ Some text)
  -- a text of the list is told
  pub is_told : (place : ℕ) (text : List ℕ) → slice_get texts place ≡ Some text
      → (at : ℕ) × (slice_get told at ≡ Some text)
  -- of two texts, the one that is told earlier stands first earlier
  pub in_order : (some other : ℕ) (text later : List ℕ) → some < other
      → slice_get told some ≡ Some text → slice_get told other ≡ Some later
      → (first second : ℕ) → IsFirstPlace texts text first → IsFirstPlace texts later second
      → first < second
