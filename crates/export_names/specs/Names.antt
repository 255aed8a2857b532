-- What a name in a text stands for.
use Rattle.std.specs.Prelude.{◌^◌, ◌<◌, ℕ, List, length, codes, map, if◌then◌else◌}
use Rattle.std.specs.Option.{option_map_or}
use Rattle.std.specs.Str.{bytes_eq}
use Rattle.text_places.specs.Places.{place_of}
use Rattle.export_model.specs.declared.params.NameRef.{NameRef}
use Rattle.export_model.specs.declared.params.NameRef.TheVariants.{Variable, BuiltIn, EventName}
use Rattle.export_model.specs.declared.params.NameRef.TheVariants.{Nothing}
use Rattle.export_model.specs.declared.params.Piece.{Piece}
use Rattle.export_model.specs.declared.params.Piece.TheVariants.{Literal, Name}
use Rattle.export_names.specs.Cut.{WrittenPiece, literal, name, cut}

-- the names of a container's variables, and those of its built-in variables
pub record NameLists : Type 0 where
  pub variables : List (List ℕ)
  pub built_ins : List (List ℕ)

-- few enough that each place has a number of 32 bits
pub record AreFew (names : NameLists) : Type 0 where
  pub variables : length names.variables < 2 ^ 32
  pub built_ins : length names.built_ins < 2 ^ 32

-- what a name stands for: the event's name, else the first variable with the name, else the first
-- built-in variable
abbrev pub name_ref : NameLists → List ℕ → NameRef
name_ref names word =
    if bytes_eq word (codes "_event") then EventName
    else option_map_or Variable (place_of word names.variables)
    (option_map_or BuiltIn (place_of word names.built_ins) Nothing)

-- a piece with its name as a number
abbrev pub numbered : NameLists → WrittenPiece → Piece
numbered names (literal characters) = Literal characters
numbered names (name word) = Name (name_ref names word)

-- the pieces of a text, each name as a number
abbrev pub pieces_of : NameLists → List ℕ → List Piece
pieces_of names text = map (numbered names) (cut text)
