-- Entries that are not run yet.
use Rattle.std.specs.Prelude.{ℕ, List, [], ◌∷◌, Option, Some, None, codes}
use Rattle.export_fields.specs.Fault.{◌then◌}
use Rattle.export_entries.specs.declared.entries.WrittenEntries.{WrittenEntries}
use Rattle.export_checks.specs.Repeats.{entry_at}

-- the path of the first of these entries
abbrev pub first_entry : {A : Type 0} → List ℕ → List A → Option (List ℕ)
first_entry key [] = None
first_entry key (x ∷ xs) = Some (entry_at key 0)

-- the path of the first entry, of which none is run yet
unfoldable pub not_built : WrittenEntries → Option (List ℕ)
not_built written =
    first_entry (codes "tag") written.tags
    then first_entry (codes "trigger") written.triggers
    then first_entry (codes "variable") written.variables
    then first_entry (codes "builtInVariable") written.built_ins
    then first_entry (codes "customTemplate") written.templates
