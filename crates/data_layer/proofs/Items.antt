-- Items of a List beside the trees that they stand for, under a merge by index.
use Rattle.std.proofs.Common.{◌≡◌, ℕ, zero, suc, ◌<◌, ◌≤◌, List, [], ◌∷◌, ◌++◌, length, get_or}
use Rattle.std.proofs.Common.{slice_set, refl, ap, ◌∙◌, arith}
use Rattle.gtm_data.specs.declared.data.Data.{Data}
use Rattle.gtm_data.specs.Tree.{Tree, Trees, end, item, tree_of, trees_of}
use Rattle.data_layer.specs.Merge.{merge, merge_items, on_item}

-- the merge of items into those from a place on
abbrev pub merge_from : ℕ → Trees → Trees → Trees
merge_from zero ts ms = merge_items ts ms
merge_from (suc at) ts end = end
merge_from (suc at) ts (item m ms) = item m (merge_from at ts ms)

pub turn_from : (at : ℕ) (t : Tree) (ts : Trees) (model : List Data) → at ≤ length model
    → merge_from (suc at) ts (on_item at (merge t) t (trees_of model))
    ≡ merge_from at (item t ts) (trees_of model)
unfolding merge_items
turn_from zero t ts [] within = refl
turn_from zero t ts (m ∷ model) within = refl
turn_from (suc at) t ts [] within = absurd (omega arith)
turn_from (suc at) t ts (m ∷ model) within =
    ap (item (tree_of m)) (turn_from at t ts model (omega arith))

pub end_from : (at : ℕ) (ms : Trees) → merge_from at end ms ≡ ms
unfolding merge_items
end_from zero ms = refl
end_from (suc at) end = refl
end_from (suc at) (item m ms) = ap (item m) (end_from at ms)

module _ (change : Tree → Tree) (t : Tree) where
  pub set_item : (at : ℕ) (model : List Data) (was new : Data) → at < length model
      → was ≡ get_or model at was → tree_of new ≡ change (tree_of was)
      → trees_of (slice_set model at new) ≡ on_item at change t (trees_of model)
  set_item at [] was new within is made = absurd (omega arith)
  set_item zero (m ∷ model) was new within is made =
      ap (λ s. item s (trees_of model)) (made ∙ ap (λ d. change (tree_of d)) is)
  set_item (suc at) (m ∷ model) was new within is made =
      ap (item (tree_of m)) (set_item at model was new (omega arith) is made)

  pub add_item : (at : ℕ) (model : List Data) (new : Data) → at ≡ length model → tree_of new ≡ t
      → trees_of (model ++ new ∷ []) ≡ on_item at change t (trees_of model)
  add_item at [] new last made = ap (λ s. item s end) made
  add_item zero (m ∷ model) new last made = absurd (omega arith)
  add_item (suc at) (m ∷ model) new last made =
      ap (item (tree_of m)) (add_item at model new (omega arith) made)
