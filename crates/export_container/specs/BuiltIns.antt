-- The built-in variables of an export as those of the model.
use Rattle.export_entries.specs.declared.variables.WrittenBuiltIn.{WrittenBuiltIn}
use Rattle.export_model.specs.declared.variables.BuiltIn.{BuiltIn}

-- the built-in variable that a written one stands for: its name, and its type as the word
abbrev pub built_in_of : WrittenBuiltIn → BuiltIn
built_in_of written = record { name = written.name; word = written.kind }
