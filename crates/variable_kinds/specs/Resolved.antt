-- Parameters with the values of names put in.
use Rattle.std.specs.Prelude.{◌≡◌, ℕ, List, [], ◌∷◌, Option, Some, None, codes}
use Rattle.std.specs.Prelude.{if◌then◌else◌}
use Rattle.std.specs.List.{AllByRecursion, flat_map}
use Rattle.std.specs.Option.{option_map_or}
use Rattle.std.specs.Str.{bytes_eq}
use Rattle.data_layer.specs.Merge.{put}
use Rattle.export_model.specs.declared.params.NameRef.{NameRef}
use Rattle.export_model.specs.declared.params.Param.{Param}
use Rattle.export_model.specs.declared.params.Piece.{Piece}
use Rattle.export_model.specs.declared.params.Piece.TheVariants.{Literal, Name}
use Rattle.export_model.specs.declared.variables.VariableKind.{VariableKind}
use Rattle.export_model.specs.declared.variables.VariableKind.TheVariants as kind
use Rattle.export_model.specs.Params as params
use Rattle.export_model.specs.Params.{ValueTree, ParamTrees, params_of}
use Rattle.gtm_data.specs.TextOf.{text_of}
use Rattle.gtm_data.specs.Tree.{Tree, bool, whole, text, list, object, trees, Entries}
use Rattle.gtm_data.specs.Tree.{none}
use Rattle.variable_kinds.specs.declared.members.Choice.{Choice}
use Rattle.variable_kinds.specs.declared.members.Choice.TheVariants.{First, Last}

-- the value that counts, of a new one and an old one with the same key
abbrev pub chosen : Choice → Tree → Tree → Tree
chosen First new old = old
chosen Last new old = new

-- the name that pieces are, where they are exactly one name
abbrev pub single_name : List Piece → Option NameRef
single_name (Name name ∷ []) = Some name
single_name _ = None

module _ (values : NameRef → Tree) where
  -- the text of a piece
  abbrev pub piece_text : Piece → List ℕ
  piece_text (Literal characters) = characters
  piece_text (Name name) = text_of (values name)

  -- exactly one name has its value; else the texts of the pieces are joined
  abbrev pub pieced : List Piece → Tree
  pieced pieces = option_map_or values (single_name pieces) (text (flat_map piece_text pieces))

  -- the value of a parameter
  unfoldable mutual
    pub resolved : ValueTree → Tree
    resolved (params.template pieces) = pieced pieces
    resolved (params.integer number) = whole number
    resolved (params.bool b) = bool b
    resolved (params.list ps) = list (trees (resolved_items ps))
    resolved (params.object ps) = object (resolved_members Last ps none)
    resolved (params.reference characters) = text characters

    -- the values of parameters, in order
    pub resolved_items : ParamTrees → List Tree
    resolved_items params.end = []
    resolved_items (params.param key value ps) = resolved value ∷ resolved_items ps

    -- the members that parameters make, behind others: a repeated key keeps its place, and has the
    -- value of the first or of the last parameter
    pub resolved_members : Choice → ParamTrees → Entries → Entries
    resolved_members choice params.end members = members
    resolved_members choice (params.param key value ps) members =
        resolved_members choice ps
        (put key (chosen choice (resolved value)) (resolved value) members)

  -- the value of a row: of several parameters with one key the first counts
  abbrev pub row : ValueTree → Tree
  row (params.object ps) = object (resolved_members First ps none)
  row value = resolved value

  -- the values of rows, in order
  unfoldable pub rows : ParamTrees → List Tree
  rows params.end = []
  rows (params.param key value ps) = row value ∷ rows ps

  -- the value of a table
  abbrev pub table : ValueTree → Tree
  table (params.list ps) = list (trees (rows ps))
  table value = resolved value

  -- the value of a field: `map` is a table
  abbrev pub field_value : List ℕ → ValueTree → Tree
  field_value key value = if bytes_eq key (codes "map") then table value else resolved value

  -- the members that a variable's own parameters make, behind others: of several with one key the
  -- first counts
  unfoldable pub own_members : ParamTrees → Entries → Entries
  own_members params.end members = members
  own_members (params.param key value ps) members =
      own_members ps
      (put key (chosen First (field_value key value)) (field_value key value) members)

  -- the fields of a variable: for a template the last of several parameters with one key counts,
  -- and for every other kind the first
  abbrev pub fields_for : VariableKind → List Param → Tree
  fields_for (kind.Template number) ps = object (resolved_members Last (params_of ps) none)
  fields_for _ ps = object (own_members (params_of ps) none)

-- names have the same value by the one as by the other
abbrev pub Agree : (NameRef → Tree) → (NameRef → Tree) → List NameRef → Type 0
Agree some other names = AllByRecursion (λ name. some name ≡ other name) names
