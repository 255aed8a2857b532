-- The words of the command.
use Rattle.std.specs.Prelude.{List, [], ◌∷◌, ℕ, Option, Some, None, if◌then◌else◌, codes, String}
use Rattle.std.specs.Prelude.{string_bytes}
use Rattle.std.specs.Str.{chars, bytes_eq}
use Rattle.std.specs.declared.alloc.Global.{Global}

-- the names of the two files
pub record Names : Type 0 where
  pub export : List ℕ
  pub trace : List ℕ

-- the characters of a word
abbrev pub name_of : String Global → List ℕ
name_of word = chars (string_bytes word)

-- the names in the words `run EXPORT TRACE`; any other words are no command
abbrev pub names_in : List (String Global) → Option Names
names_in (command ∷ export ∷ trace ∷ []) =
    if bytes_eq (string_bytes command) (codes "run")
    then Some (record { export = name_of export; trace = name_of trace }) else None
names_in _ = None
