-- Resolved parameters, one after the other.
use Rattle.std.proofs.Common.{◌≡◌, ◌<◌, ◌+◌, ℕ, List, [], ◌∷◌, ◌++◌, drop, length, get_or, map}
use Rattle.std.proofs.Common.{refl}
use Rattle.std.proofs.Common.{ap, sym, ◌∙◌, append_assoc, rules}
use Rattle.std.proofs.lemmas.List.{drop_more, map-append}
use Rattle.data_layer.specs.Merge.{put}
use Rattle.export_model.specs.declared.params.NameRef.{NameRef}
use Rattle.export_model.specs.declared.params.Param.{Param}
use Rattle.export_model.specs.declared.params.ParamValue as params
use Rattle.export_model.specs.Params as spec
use Rattle.export_model.specs.Params.{ParamTrees, ValueTree, params_of, value_of}
use Rattle.gtm_base.specs.declared.keyed.Keyed.{Keyed}
use Rattle.gtm_data.proofs.Levels.{tree_of-List, tree_of-Map}
use Rattle.gtm_data.specs.declared.data.Data as datum
use Rattle.gtm_data.specs.declared.data.Data.{Data}
use Rattle.gtm_data.specs.Tree.{Tree, undefined, list, object, trees, trees_of, entries_of, Entries}
use Rattle.gtm_data.specs.Tree.{none, tree_of}
use Rattle.variable_kinds.specs.declared.members.Choice.{Choice}
use Rattle.variable_kinds.specs.declared.members.Choice.TheVariants.{First, Last}
use Rattle.variable_kinds.specs.Resolved.{chosen, field_value, own_members, resolved}
use Rattle.variable_kinds.specs.Resolved.{resolved_items}
use Rattle.variable_kinds.specs.Resolved.{resolved_members, row, rows, table}

pub tree_of-Undefined : tree_of datum.Undefined ≡ undefined
tree_of-Undefined = search (rules, datum.the_lemmas)

pub value_of-List : (ps : List Param) → value_of (params.List ps) ≡ spec.list (params_of ps)
value_of-List ps = search (rules, params.the_lemmas)

pub value_of-Map : (ps : List Param) → value_of (params.Map ps) ≡ spec.object (params_of ps)
value_of-Map ps = search (rules, params.the_lemmas)

-- a list from a place on begins with the item there
first_of : (ps : List Param) (at : ℕ) (param : Param) → at < length ps
    → param ≡ get_or ps at param → drop at ps ≡ param ∷ drop (at + 1) ps
first_of ps at param within is =
    drop_more ps at param within ∙ ap (λ p. p ∷ drop (at + 1) ps) (sym is)

-- one turn of a loop that makes an item of each parameter
module _ (made_of : Param → Tree) (made_of_all : List Param → List Tree)
    (more : (param : Param) (rest : List Param)
    → made_of_all (param ∷ rest) ≡ made_of param ∷ made_of_all rest) where
  pub one_more_item : (ps : List Param) (at : ℕ) (param : Param) (before after : List Data)
      (made : Data) → at < length ps → param ≡ get_or ps at param
      → after ≡ before ++ made ∷ [] → tree_of made ≡ made_of param
      → map tree_of after ++ made_of_all (drop (at + 1) ps)
      ≡ map tree_of before ++ made_of_all (drop at ps)
  one_more_item ps at param before after made within is pushed value =
      let rest = made_of_all (drop (at + 1) ps) in
      ap (λ items. map tree_of items ++ rest) pushed
      ∙ ap (λ ts. ts ++ rest) (map-append tree_of before (made ∷ []))
      ∙ append_assoc (map tree_of before) (tree_of made ∷ []) rest
      ∙ ap (λ t. map tree_of before ++ t ∷ rest) value
      ∙ ap (λ ts. map tree_of before ++ ts)
      (sym (ap made_of_all (first_of ps at param within is) ∙ more param (drop (at + 1) ps)))

-- one turn of a loop that puts each parameter among members
module _ (choice : Choice) (made_of : Param → Tree)
    (made_of_all : List Param → Entries → Entries)
    (more : (param : Param) (rest : List Param) (before : Entries)
    → made_of_all (param ∷ rest) before
    ≡ made_of_all rest (put param.key (chosen choice (made_of param)) (made_of param) before))
  where
    pub one_more_member : (ps : List Param) (at : ℕ) (param : Param) (before after : Entries)
        (made : Tree) → at < length ps → param ≡ get_or ps at param
        → after ≡ put param.key (chosen choice made) made before → made ≡ made_of param
        → made_of_all (drop (at + 1) ps) after ≡ made_of_all (drop at ps) before
    one_more_member ps at param before after made within is put_there value =
        ap (made_of_all (drop (at + 1) ps))
        (put_there ∙ ap (λ t. put param.key (chosen choice t) t before) value)
        ∙ sym (ap (λ p. made_of_all p before) (first_of ps at param within is)
        ∙ more param (drop (at + 1) ps) before)

module _ (m : NameRef → Tree) where
  resolved-list : (ps : ParamTrees)
      → resolved m (spec.list ps) ≡ list (trees (resolved_items m ps))
  unfolding resolved
  resolved-list ps = refl

  resolved-object : (ps : ParamTrees)
      → resolved m (spec.object ps) ≡ object (resolved_members m Last ps none)
  unfolding resolved
  resolved-object ps = refl

  -- a List of resolved parameters
  pub resolved_as_list : (param : params.ParamValue) (ps : List Param) (items : List Data)
      → param ≡ params.List ps → trees_of items ≡ trees (resolved_items m (params_of ps))
      → tree_of (datum.List items) ≡ resolved m (value_of param)
  resolved_as_list param ps items is made =
      tree_of-List items ∙ ap list made
      ∙ sym (ap (λ p. resolved m (value_of p)) is ∙ ap (resolved m) (value_of-List ps)
      ∙ resolved-list (params_of ps))

  -- a Map of resolved parameters
  pub resolved_as_map : (param : params.ParamValue) (ps : List Param) (members : Keyed Data)
      → param ≡ params.Map ps
      → entries_of members.pairs ≡ resolved_members m Last (params_of ps) none
      → tree_of (datum.Map members) ≡ resolved m (value_of param)
  resolved_as_map param ps members is made =
      tree_of-Map members ∙ ap object made
      ∙ sym (ap (λ p. resolved m (value_of p)) is ∙ ap (resolved m) (value_of-Map ps)
      ∙ resolved-object (params_of ps))

  -- a table of rows
  pub table_as_list : (param : params.ParamValue) (ps : List Param) (items : List Data)
      → param ≡ params.List ps → trees_of items ≡ trees (rows m (params_of ps))
      → tree_of (datum.List items) ≡ table m (value_of param)
  table_as_list param ps items is made =
      tree_of-List items ∙ ap list made
      ∙ sym (ap (λ p. table m (value_of p)) is ∙ ap (table m) (value_of-List ps))

  -- a row of members
  pub row_as_map : (param : params.ParamValue) (ps : List Param) (members : Keyed Data)
      → param ≡ params.Map ps
      → entries_of members.pairs ≡ resolved_members m First (params_of ps) none
      → tree_of (datum.Map members) ≡ row m (value_of param)
  row_as_map param ps members is made =
      tree_of-Map members ∙ ap object made
      ∙ sym (ap (λ p. row m (value_of p)) is ∙ ap (row m) (value_of-Map ps))

  pub more_items : (param : Param) (rest : List Param)
      → resolved_items m (params_of (param ∷ rest))
      ≡ resolved m (value_of param.value) ∷ resolved_items m (params_of rest)
  unfolding resolved_items
  more_items param rest = refl

  pub more_rows : (param : Param) (rest : List Param)
      → rows m (params_of (param ∷ rest))
      ≡ row m (value_of param.value) ∷ rows m (params_of rest)
  unfolding rows
  more_rows param rest = refl

  pub more_members : (choice : Choice) (param : Param) (rest : List Param) (before : Entries)
      → resolved_members m choice (params_of (param ∷ rest)) before
      ≡ resolved_members m choice (params_of rest)
      (put param.key (chosen choice (resolved m (value_of param.value)))
      (resolved m (value_of param.value)) before)
  unfolding resolved_members
  more_members choice param rest before = refl

  pub more_own : (param : Param) (rest : List Param) (before : Entries)
      → own_members m (params_of (param ∷ rest)) before
      ≡ own_members m (params_of rest)
      (put param.key (chosen First (field_value m param.key (value_of param.value)))
      (field_value m param.key (value_of param.value)) before)
  unfolding own_members
  more_own param rest before = refl
