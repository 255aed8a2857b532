-- The names that parameters and variables have in their texts.
use Rattle.std.specs.Prelude.{List, [], ◌++◌, Option, Some, None}
use Rattle.std.specs.List.{filter_map}
use Rattle.export_model.specs.declared.params.NameRef.{NameRef}
use Rattle.export_model.specs.declared.params.Param.{Param}
use Rattle.export_model.specs.declared.params.Piece.{Piece}
use Rattle.export_model.specs.declared.params.Piece.TheVariants.{Literal, Name}
use Rattle.export_model.specs.declared.variables.Format.{Format}
use Rattle.export_model.specs.declared.variables.Variable.{Variable}
use Rattle.export_model.specs.Params.{ValueTree, template, integer, bool, list, object, reference}
use Rattle.export_model.specs.Params.{ParamTrees, end, param, value_of, params_of}

-- the name that a piece of a text is, if it is one
abbrev pub name_in : Piece → Option NameRef
name_in (Literal characters) = None
name_in (Name name) = Some name

-- the names in the value of a parameter, in order
unfoldable mutual
  pub names_in : ValueTree → List NameRef
  names_in (template pieces) = filter_map name_in pieces
  names_in (integer number) = []
  names_in (bool b) = []
  names_in (list ps) = names_in_all ps
  names_in (object ps) = names_in_all ps
  names_in (reference text) = []

  -- the names in the values of parameters
  pub names_in_all : ParamTrees → List NameRef
  names_in_all end = []
  names_in_all (param key value ps) = names_in value ++ names_in_all ps

-- the names in an optional parameter
abbrev pub names_of_option : Option Param → List NameRef
names_of_option None = []
names_of_option (Some p) = names_in (value_of p.value)

-- the names in a format's parameters
abbrev pub names_of_format : Format → List NameRef
names_of_format format =
    names_of_option format.null ++ names_of_option format.undefined ++ names_of_option format.yes
    ++ names_of_option format.no

-- the names in a variable's parameters and format
abbrev pub names_of_variable : Variable → List NameRef
names_of_variable variable =
    names_in_all (params_of variable.params) ++ names_of_format variable.format
