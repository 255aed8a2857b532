-- A value, and a JSON tree, beside its tree, level by level.
use Rattle.std.proofs.Common.{◌≡◌, ℕ, ℤ, List, Bool, Some, refl, ap, rules}
use Rattle.std.specs.Prelude.{pos, unwrap_or}
use Rattle.std.specs.Str.{chars}
use Rattle.serde_json.specs.Data as json
use Rattle.gtm_base.specs.declared.keyed.Keyed.{Keyed}
use Rattle.gtm_data.specs.declared.data.Data.{Data, List as ListOf, Map, the_lemmas}
use Rattle.gtm_data.specs.Plain.{whole_of, tree_in, trees_in, entries_in}
use Rattle.gtm_data.specs.Tree as Tree
use Rattle.gtm_data.specs.Tree.{list, object, tree_of, trees_of, entries_of}

pub tree_of-List : (items : List Data) → tree_of (ListOf items) ≡ list (trees_of items)
tree_of-List items = search (rules, the_lemmas)

pub tree_of-Map : (members : Keyed Data) → tree_of (Map members) ≡ object (entries_of members.pairs)
tree_of-Map members = search (rules, the_lemmas)

pub tree_in-null : tree_in json.null ≡ Tree.null
unfolding tree_in
tree_in-null = refl

pub tree_in-boolean : (b : Bool) → tree_in (json.boolean b) ≡ Tree.bool b
unfolding tree_in
tree_in-boolean b = refl

pub tree_in-string : (s : List ℕ) → tree_in (json.string s) ≡ Tree.text (chars s)
unfolding tree_in
tree_in-string s = refl

pub tree_in-number : (x : json.Num) (z : ℤ) → whole_of x ≡ Some z
    → tree_in (json.number x) ≡ Tree.whole z
unfolding tree_in
tree_in-number x z e = ap (λ o. Tree.whole (unwrap_or o (pos 0))) e

pub tree_in-array : (ds : json.Items) → tree_in (json.array ds) ≡ Tree.list (trees_in ds)
unfolding tree_in
tree_in-array ds = refl

pub tree_in-object : (ms : json.Members) → tree_in (json.object ms) ≡ Tree.object (entries_in ms)
unfolding tree_in
tree_in-object ms = refl
