-- Resolved parameters depend on nothing but the values of the names in them.
use Rattle.std.proofs.Common.{◌≡◌, ℕ, List, [], ◌∷◌, ◌++◌, true, false, Option, Some, None, refl}
use Rattle.std.proofs.Common.{ap, ◌∙◌}
use Rattle.std.specs.Prelude.{codes, if◌then◌else◌}
use Rattle.std.specs.List.{AllByRecursion, filter_map, flat_map}
use Rattle.std.specs.Str.{bytes_eq}
use Rattle.data_layer.specs.Merge.{put}
use Rattle.export_model.specs.declared.params.NameRef.{NameRef}
use Rattle.export_model.specs.declared.params.Param.{Param}
use Rattle.export_model.specs.declared.params.Piece.{Piece}
use Rattle.export_model.specs.declared.params.Piece.TheVariants.{Literal, Name}
use Rattle.export_model.specs.declared.variables.Format.{Format}
use Rattle.export_model.specs.declared.variables.VariableKind.{VariableKind}
use Rattle.export_model.specs.declared.variables.VariableKind.TheVariants as kind
use Rattle.export_model.specs.Names.{name_in, names_in, names_in_all, names_of_option}
use Rattle.export_model.specs.Names.{names_of_format}
use Rattle.export_model.specs.Params as params
use Rattle.export_model.specs.Params.{ValueTree, ParamTrees, params_of, value_of}
use Rattle.gtm_data.specs.TextOf.{text_of}
use Rattle.gtm_data.specs.Tree.{Tree, undefined, null, bool, whole, text, list, object, foreign}
use Rattle.gtm_data.specs.Tree.{callback, trees, Entries, none}
use Rattle.variable_kinds.specs.declared.members.Choice.{Choice}
use Rattle.variable_kinds.specs.declared.members.Choice.TheVariants.{First, Last}
use Rattle.variable_kinds.specs.Formats.{cased, converted, formatted, given_or}
use Rattle.variable_kinds.specs.Resolved.{Agree, chosen, field_value, fields_for, own_members}
use Rattle.variable_kinds.specs.Resolved.{piece_text, pieced, resolved, resolved_items}
use Rattle.variable_kinds.specs.Resolved.{resolved_members, row, rows, table}

-- what holds of each item of two joined lists holds of each item of both
pub split : {A : Type 0} (P : A → Type 0) (xs ys : List A) → AllByRecursion P (xs ++ ys)
    → AllByRecursion P xs × AllByRecursion P ys
split P [] ys all = (tt, all)
split P (x ∷ xs) ys all =
    let rest = split P xs ys all.1 in
    ((all.0, rest.0), rest.1)

module _ (some other : NameRef → Tree) where
  -- names have the same value
  abbrev pub Same : List NameRef → Type 0
  Same names = Agree some other names

  -- the first of two lists of names, and the second
  halves : (xs ys : List NameRef) → Same (xs ++ ys) → Same xs × Same ys
  halves xs ys same = split (λ name. some name ≡ other name) xs ys same

  joined_same : (pieces : List Piece) → Same (filter_map name_in pieces)
      → flat_map (piece_text some) pieces ≡ flat_map (piece_text other) pieces
  joined_same [] same = refl
  joined_same (Literal characters ∷ pieces) same =
      ap (λ rest. characters ++ rest) (joined_same pieces same)
  joined_same (Name name ∷ pieces) same =
      λ i. text_of (same.0 i) ++ joined_same pieces same.1 i

  pieced_same : (pieces : List Piece) → Same (filter_map name_in pieces)
      → pieced some pieces ≡ pieced other pieces
  pieced_same [] same = refl
  pieced_same (Literal characters ∷ pieces) same =
      ap text (joined_same (Literal characters ∷ pieces) same)
  pieced_same (Name name ∷ []) same = same.0
  pieced_same (Name name ∷ piece ∷ pieces) same =
      ap text (joined_same (Name name ∷ piece ∷ pieces) same)

  mutual
    unfolding resolved resolved_items resolved_members names_in names_in_all

    pub resolved_same : (value : ValueTree) → Same (names_in value)
        → resolved some value ≡ resolved other value
    resolved_same (params.template pieces) same = pieced_same pieces same
    resolved_same (params.integer number) same = refl
    resolved_same (params.bool b) same = refl
    resolved_same (params.list ps) same = ap (λ ts. list (trees ts)) (items_same ps same)
    resolved_same (params.object ps) same = ap object (members_same Last ps none same)
    resolved_same (params.reference characters) same = refl

    items_same : (ps : ParamTrees) → Same (names_in_all ps)
        → resolved_items some ps ≡ resolved_items other ps
    items_same params.end same = refl
    items_same (params.param key value ps) same =
        let parts = halves (names_in value) (names_in_all ps) same in
        λ i. resolved_same value parts.0 i ∷ items_same ps parts.1 i

    members_same : (choice : Choice) (ps : ParamTrees) (members : Entries)
        → Same (names_in_all ps)
        → resolved_members some choice ps members ≡ resolved_members other choice ps members
    members_same choice params.end members same = refl
    members_same choice (params.param key value ps) members same =
        let parts = halves (names_in value) (names_in_all ps) same in
        ap (λ t. resolved_members some choice ps (put key (chosen choice t) t members))
        (resolved_same value parts.0)
        ∙ members_same choice ps
        (put key (chosen choice (resolved other value)) (resolved other value) members) parts.1

  row_same : (value : ValueTree) → Same (names_in value) → row some value ≡ row other value
  unfolding names_in
  row_same (params.template pieces) same = resolved_same (params.template pieces) same
  row_same (params.integer number) same = resolved_same (params.integer number) same
  row_same (params.bool b) same = resolved_same (params.bool b) same
  row_same (params.list ps) same = resolved_same (params.list ps) same
  row_same (params.object ps) same = ap object (members_same First ps none same)
  row_same (params.reference characters) same =
      resolved_same (params.reference characters) same

  rows_same : (ps : ParamTrees) → Same (names_in_all ps) → rows some ps ≡ rows other ps
  unfolding rows names_in_all
  rows_same params.end same = refl
  rows_same (params.param key value ps) same =
      let parts = halves (names_in value) (names_in_all ps) same in
      λ i. row_same value parts.0 i ∷ rows_same ps parts.1 i

  table_same : (value : ValueTree) → Same (names_in value) → table some value ≡ table other value
  unfolding names_in
  table_same (params.template pieces) same = resolved_same (params.template pieces) same
  table_same (params.integer number) same = resolved_same (params.integer number) same
  table_same (params.bool b) same = resolved_same (params.bool b) same
  table_same (params.list ps) same = ap (λ ts. list (trees ts)) (rows_same ps same)
  table_same (params.object ps) same = resolved_same (params.object ps) same
  table_same (params.reference characters) same =
      resolved_same (params.reference characters) same

  field_value_same : (key : List ℕ) (value : ValueTree) → Same (names_in value)
      → field_value some key value ≡ field_value other key value
  field_value_same key value same =
      λ i. if bytes_eq key (codes "map") then table_same value same i
      else resolved_same value same i

  own_same : (ps : ParamTrees) (members : Entries) → Same (names_in_all ps)
      → own_members some ps members ≡ own_members other ps members
  unfolding own_members names_in_all
  own_same params.end members same = refl
  own_same (params.param key value ps) members same =
      let parts = halves (names_in value) (names_in_all ps) same in
      ap (λ t. own_members some ps (put key (chosen First t) t members))
      (field_value_same key value parts.0)
      ∙ own_same ps
      (put key (chosen First (field_value other key value)) (field_value other key value) members)
      parts.1

  pub fields_same : (variable_kind : VariableKind) (ps : List Param)
      → Same (names_in_all (params_of ps))
      → fields_for some variable_kind ps ≡ fields_for other variable_kind ps
  fields_same (kind.Template number) ps same =
      ap object (members_same Last (params_of ps) none same)
  fields_same kind.Layer ps same = ap object (own_same (params_of ps) none same)
  fields_same kind.Constant ps same = ap object (own_same (params_of ps) none same)
  fields_same kind.Cookie ps same = ap object (own_same (params_of ps) none same)
  fields_same kind.Global ps same = ap object (own_same (params_of ps) none same)
  fields_same kind.Url ps same = ap object (own_same (params_of ps) none same)
  fields_same kind.Referrer ps same = ap object (own_same (params_of ps) none same)
  fields_same kind.EventName ps same = ap object (own_same (params_of ps) none same)
  fields_same kind.Lookup ps same = ap object (own_same (params_of ps) none same)
  fields_same kind.RegexTable ps same = ap object (own_same (params_of ps) none same)
  fields_same (kind.Unknown word) ps same = ap object (own_same (params_of ps) none same)

  given_same : (param : Option Param) (value : Tree) → Same (names_of_option param)
      → given_or some param value ≡ given_or other param value
  given_same None value same = refl
  given_same (Some p) value same = resolved_same (value_of p.value) same

  pub formatted_same : (format : Format) (value : Tree) → Same (names_of_format format)
      → formatted some format value ≡ formatted other format value
  formatted_same format value same =
      let third = halves (names_of_option format.null ++ names_of_option format.undefined
      ++ names_of_option format.yes) (names_of_option format.no) same in
      let second = halves (names_of_option format.null ++ names_of_option format.undefined)
      (names_of_option format.yes) third.0 in
      let first = halves (names_of_option format.null) (names_of_option format.undefined)
      second.0 in
      by_value (cased format value) first.0 first.1 second.1 third.1 where
        by_value : (value : Tree) → Same (names_of_option format.null)
            → Same (names_of_option format.undefined) → Same (names_of_option format.yes)
            → Same (names_of_option format.no)
            → converted some format value ≡ converted other format value
        by_value null a b c d = given_same format.null null a
        by_value undefined a b c d = given_same format.undefined undefined b
        by_value (bool true) a b c d = given_same format.yes (bool true) c
        by_value (bool false) a b c d = given_same format.no (bool false) d
        by_value (whole number) a b c d = refl
        by_value (text t) a b c d = refl
        by_value (list ts) a b c d = refl
        by_value (object es) a b c d = refl
        by_value foreign a b c d = refl
        by_value (callback number) a b c d = refl
