-- Each name in a parameter is what a word stands for: by induction on the written parameter.
use Rattle.std.proofs.Common.{◌≡◌, ℕ, ℤ, List, [], ◌∷◌, map, Bool, Option, Some, None, refl, sym}
use Rattle.std.proofs.Common.{ap, subst}
use Rattle.std.specs.Prelude.{All}
use Rattle.std.specs.List.{filter_map}
use Rattle.std.specs.Option.{option_map_or}
use Rattle.std.proofs.lemmas.List.Elements.{All-nil, All-cons, All-append}
use Rattle.gtm_data.specs.WholeText.{whole_text}
use Rattle.export_fields.specs.declared.params.ParamKind.{ParamKind}
use Rattle.export_fields.specs.declared.params.ParamKind.TheVariants as kinds
use Rattle.export_fields.specs.declared.params.WrittenParam.{WrittenParam, ind-WrittenParam}
use Rattle.export_fields.specs.declared.params.WrittenParam.{fold-roll-WrittenParam}
use Rattle.export_fields.specs.declared.params.WrittenParam.TheFolds.{map-WrittenParam}
use Rattle.export_model.specs.declared.params.Param.{Param, fold-Param, fold_out-Param}
use Rattle.export_model.specs.declared.params.ParamValue.{ParamValue, roll-ParamValue}
use Rattle.export_model.specs.declared.params.ParamValue.{fold-roll-ParamValue}
use Rattle.export_model.specs.declared.params.ParamValue.TheOpen.{ParamValue-F}
use Rattle.export_model.specs.Names.{name_in, names_in, names_in_all}
use Rattle.export_model.specs.declared.params.ParamValue.TheFolds.{map-ParamValue}
use Rattle.export_model.specs.Params.{ValueTree, template, integer, bool, list, object, reference}
use Rattle.export_model.specs.Params.{param_trees, value_step, param_step, value_of}
use Rattle.export_names.specs.Cut.{WrittenPiece, literal, name, cut}
use Rattle.export_names.specs.LookedUp.{IsLookedUp}
use Rattle.export_names.specs.Names.{NameLists, name_ref, numbered, pieces_of}
use Rattle.export_names.specs.Params as turned

-- a parameter inside another, as its key and value
abbrev step_of : Param → List ℕ × ValueTree
step_of = fold-Param ValueTree (List ℕ × ValueTree) value_step param_step

-- the tree of a value is the step of its layer, with the trees of the parameters inside
tree_at : (x : ParamValue-F ParamValue Param)
    → value_of (roll-ParamValue x)
    ≡ value_step (map-ParamValue ParamValue Param ValueTree (List ℕ × ValueTree) value_of step_of x)
tree_at x = fold-roll-ParamValue ValueTree (List ℕ × ValueTree) value_step param_step x

-- a text with no piece has no name
pub no_name_in_empty : names_in (value_of (roll-ParamValue (ParamValue-F.Template []))) ≡ []
unfolding names_in
no_name_in_empty = ap names_in (tree_at (ParamValue-F.Template []))

module _ (names : NameLists) where
  -- what each name of a value is
  abbrev pub AreLookedUp : ParamValue → Type 0
  AreLookedUp value = All (IsLookedUp names) (names_in (value_of value))

  -- by the tree of the value
  by_tree : (value : ParamValue) (tree : ValueTree) → value_of value ≡ tree
      → All (IsLookedUp names) (names_in tree) → AreLookedUp value
  by_tree value tree is all = subst (λ t. All (IsLookedUp names) (names_in t)) (sym is) all

  none : (value : ParamValue) (tree : ValueTree) → value_of value ≡ tree → names_in tree ≡ []
      → AreLookedUp value
  none value tree is empty =
      by_tree value tree is
      (subst (All (IsLookedUp names)) (sym empty) (All-nil (IsLookedUp names)))

  pieces_looked_up : (pieces : List WrittenPiece)
      → All (IsLookedUp names) (filter_map name_in (map (numbered names) pieces))
  pieces_looked_up [] = All-nil (IsLookedUp names)
  pieces_looked_up (literal cs ∷ pieces) = pieces_looked_up pieces
  pieces_looked_up (name word ∷ pieces) =
      All-cons (IsLookedUp names) (name_ref names word) _ (record { word = word; is = refl })
      (pieces_looked_up pieces)

  template_looked_up : (text : List ℕ) → AreLookedUp (turned.template names text)
  unfolding names_in
  template_looked_up text =
      by_tree (turned.template names text) (template (pieces_of names text))
      (tree_at (ParamValue-F.Template (pieces_of names text))) (pieces_looked_up (cut text))

  integer_looked_up : (text : List ℕ) (number : Option ℤ)
      → AreLookedUp
      (option_map_or (λ n. roll-ParamValue (ParamValue-F.Integer n)) number
      (turned.template names text))
  unfolding names_in
  integer_looked_up text None = template_looked_up text
  integer_looked_up text (Some n) = none _ (integer n) (tree_at (ParamValue-F.Integer n)) refl

  boolean_looked_up : (text : List ℕ) (truth : Option Bool)
      → AreLookedUp
      (option_map_or (λ b. roll-ParamValue (ParamValue-F.Bool b)) truth
      (turned.template names text))
  unfolding names_in
  boolean_looked_up text None = template_looked_up text
  boolean_looked_up text (Some b) = none _ (bool b) (tree_at (ParamValue-F.Bool b)) refl

  reference_looked_up : (text : List ℕ)
      → AreLookedUp (roll-ParamValue (ParamValue-F.Reference text))
  unfolding names_in
  reference_looked_up text = none _ (reference text) (tree_at (ParamValue-F.Reference text)) refl

  module _ {S : Type 0} (value : S → WrittenParam)
      (each : (s : S) → AreLookedUp (turned.param_of names (value s)).value) where
    abbrev made : List S → List Param
    made items = map (turned.param_of names) (map value items)

    inside : (s : S)
        → All (IsLookedUp names) (names_in (step_of (turned.param_of names (value s))).1)
    inside s =
        subst (λ p. All (IsLookedUp names) (names_in p.1))
        (sym (fold_out-Param ValueTree (List ℕ × ValueTree) value_step param_step
        (turned.param_of names (value s)))) (each s)

    -- the names in parameters
    all_looked_up : (items : List S)
        → All (IsLookedUp names) (names_in_all (param_trees (map step_of (made items))))
    unfolding names_in_all
    all_looked_up [] = All-nil (IsLookedUp names)
    all_looked_up (s ∷ items) = All-append (IsLookedUp names) _ _ (inside s) (all_looked_up items)

    list_looked_up : (items : List S)
        → AreLookedUp (roll-ParamValue (ParamValue-F.List (made items)))
    unfolding names_in
    list_looked_up items =
        by_tree _ (list (param_trees (map step_of (made items))))
        (tree_at (ParamValue-F.List (made items))) (all_looked_up items)

    map_looked_up : (items : List S) → AreLookedUp (roll-ParamValue (ParamValue-F.Map (made items)))
    unfolding names_in
    map_looked_up items =
        by_tree _ (object (param_trees (map step_of (made items))))
        (tree_at (ParamValue-F.Map (made items))) (all_looked_up items)

    pub value_looked_up : (kind : ParamKind) (text : List ℕ) (items members : List S)
        → AreLookedUp (turned.value_with names kind text (made items) (made members))
    value_looked_up kinds.Template text items members = template_looked_up text
    value_looked_up kinds.Integer text items members = integer_looked_up text (whole_text text)
    value_looked_up kinds.Boolean text items members = boolean_looked_up text (turned.truth_of text)
    value_looked_up kinds.List text items members = list_looked_up items
    value_looked_up kinds.Map text items members = map_looked_up members
    value_looked_up kinds.TriggerReference text items members = reference_looked_up text
    value_looked_up kinds.TagReference text items members = reference_looked_up text

  -- each name in a parameter is what a word stands for
  pub looked_up : (written : WrittenParam) → AreLookedUp (turned.param_of names written).value
  looked_up written =
      ind-WrittenParam (λ w. AreLookedUp (turned.param_of names w).value)
      (λ x y e. subst (λ p. AreLookedUp p.value)
      (sym (fold-roll-WrittenParam Param (turned.param_step names) x))
      (subst (λ z.
      AreLookedUp
      (turned.param_step names
      (map-WrittenParam WrittenParam Param (turned.param_of names) z)).value) e
      (value_looked_up (λ s. s.0) (λ s. s.1) y.kind y.value y.list y.map)))
      written
