-- What the numbers of triggers stand for.
use Rattle.std.specs.Prelude.{ℕ, List, [], ◌∷◌, Bool, true, false, map, unwrap_or, codes}
use Rattle.std.specs.Option.{option_map_or}
use Rattle.text_places.specs.Places.{place_of}
use Rattle.folded_words.specs.Words.{among}
use Rattle.export_model.specs.declared.triggers.TriggerRef.{TriggerRef}
use Rattle.export_model.specs.declared.triggers.TriggerRef.TheVariants.{Own, AllPages, Init}
use Rattle.export_model.specs.declared.triggers.TriggerRef.TheVariants.{ConsentInit, Never}

-- the built-in triggers that hold, by their numbers
abbrev pub built_in_triggers : List (List ℕ × TriggerRef)
built_in_triggers =
    (codes "2147479553", AllPages) ∷ (codes "2147479573", Init) ∷ (codes "2147479572", ConsentInit)
    ∷ []

-- the built-in trigger with a number: each other one never holds
abbrev pub built_in_trigger : List ℕ → TriggerRef
built_in_trigger id = unwrap_or (among built_in_triggers id) Never

-- what a number stands for: the first trigger of the container's own that has it, else a built-in
-- one
abbrev pub trigger_ref : List (List ℕ) → List ℕ → TriggerRef
trigger_ref ids id = option_map_or Own (place_of id ids) (built_in_trigger id)

-- what numbers stand for, in order
abbrev pub trigger_refs : List (List ℕ) → List (List ℕ) → List TriggerRef
trigger_refs ids texts = map (trigger_ref ids) texts

-- a reference never holds
abbrev pub is_never : TriggerRef → Bool
is_never (Own at) = false
is_never AllPages = false
is_never Init = false
is_never ConsentInit = false
is_never Never = true
