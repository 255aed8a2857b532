-- No value has a Map with a key twice: by induction on the value, since each Map carries the fact.
use Rattle.std.proofs.Common.{◌≡◌, ℕ, List, [], ◌∷◌, map, true, not, ◌||◌, refl, sym, ap, ◌∙◌}
use Rattle.std.proofs.Common.{subst}
use Rattle.std.specs.Str.{bytes_eq}
use Rattle.gtm_base.specs.Keys.{has_key, distinct_keys}
use Rattle.gtm_base.specs.KeysStay.{on_value}
use Rattle.gtm_data.specs.declared.data.Data.{Data, ind-Data, fold-roll-Data}
use Rattle.gtm_data.specs.declared.data.Data.TheOpen.{Data-F}
use Rattle.gtm_data.specs.declared.data.Data.TheFolds.{map-Data}
use Rattle.gtm_data.specs.Distinct.{has_member, Distinct, DistinctItems, DistinctEntries}
use Rattle.gtm_data.specs.Tree.{Tree, trees, entries, tree_step, tree_of}
use Rattle.gtm_data.proofs.Lists.{and_true, not_true}

module _ {S : Type 0} (value : S → Data) (known : (s : S) → Distinct (tree_of (value s))) where
  items_distinct : (items : List S) → DistinctItems (trees (map tree_of (map value items)))
  items_distinct [] = tt
  items_distinct (x ∷ items) = (known x, items_distinct items)

  has_member-key : (key : List ℕ) (members : List (List ℕ × S))
      → has_member key (entries (map (on_value tree_of) (map (on_value value) members)))
      ≡ has_key key members
  has_member-key key [] = refl
  has_member-key key (m ∷ members) = ap (λ b. bytes_eq m.0 key || b) (has_member-key key members)

  entries_distinct : (members : List (List ℕ × S)) → distinct_keys members ≡ true
      → DistinctEntries (entries (map (on_value tree_of) (map (on_value value) members)))
  entries_distinct [] distinct = tt
  entries_distinct (m ∷ members) distinct =
      let both = and_true (not (has_key m.0 members)) (distinct_keys members) distinct in (
        has_member-key m.0 members ∙ not_true (has_key m.0 members) both.0,
        known m.1,
        entries_distinct members both.1,
      )

  pub layer_distinct : (layer : Data-F S)
      → Distinct (tree_step (map-Data Data Tree tree_of (map-Data S Data value layer)))
  layer_distinct Data-F.Undefined = tt
  layer_distinct Data-F.Null = tt
  layer_distinct (Data-F.Bool b) = tt
  layer_distinct (Data-F.Whole number) = tt
  layer_distinct (Data-F.Text t) = tt
  layer_distinct (Data-F.List items) = items_distinct items
  layer_distinct (Data-F.Map members) = entries_distinct members.pairs members.distinct
  layer_distinct Data-F.Foreign = tt
  layer_distinct (Data-F.Callback number) = tt

pub tree_of-Distinct : (d : Data) → Distinct (tree_of d)
tree_of-Distinct d =
    ind-Data (λ e. Distinct (tree_of e))
    (λ x y e. subst Distinct (sym (fold-roll-Data Tree tree_step x))
    (subst (λ z. Distinct (tree_step (map-Data Data Tree tree_of z))) e
    (layer_distinct (λ s. s.0) (λ s. s.1) y)))
    d
