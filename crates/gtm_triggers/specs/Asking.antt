-- The texts that a condition may hand to the engines in a snapshot.
use Rattle.std.specs.Prelude.{ℕ, List, ◌++◌}
use Rattle.std.specs.List.{flat_map}
use Rattle.export_model.specs.declared.conditions.Condition.{Condition}
use Rattle.gtm_variables.specs.Asked.{asked, asked_of_condition}
use Rattle.gtm_variables.specs.Snapshot.{Snapshot}

-- those of the snapshot, and the condition's own pattern
abbrev pub asked_with : Snapshot → Condition → List (List ℕ)
asked_with s condition = asked s ++ asked_of_condition s condition

-- those of the snapshot, and the patterns of conditions
abbrev pub asked_with_all : Snapshot → List Condition → List (List ℕ)
asked_with_all s conditions = asked s ++ flat_map (asked_of_condition s) conditions
