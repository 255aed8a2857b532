-- What a merge leaves of the kind and the keys of a tree.
use Rattle.std.proofs.Common.{◌≡◌, ℕ, List, [], ◌∷◌, ◌++◌, Some, Bool, true, false, ◌||◌}
use Rattle.std.proofs.Common.{if◌then◌else◌, append_assoc, append-nil, refl, sym, ap, ◌∙◌}
use Rattle.std.specs.Str.{bytes_eq}
use Rattle.gtm_base.proofs.Pairs.{bytes_eq-sym}
use Rattle.gtm_data.proofs.Lists.{or_false}
use Rattle.gtm_data.specs.Tree.{Tree, undefined, null, bool, whole, text, list, object, foreign}
use Rattle.gtm_data.specs.Tree.{callback, Trees, Entries, none, entry}
use Rattle.gtm_data.specs.Distinct.{DistinctEntries, has_member}
use Rattle.data_layer.specs.Merge.{merge, merge_members, put}
use Rattle.data_layer.specs.After.{leaf, a_list, a_map, kind, keys, is_among, new_keys}

pub leaf_stays : (v w : Tree) → kind (Some v) ≡ leaf → merge v w ≡ v
unfolding merge
leaf_stays undefined w is = refl
leaf_stays null w is = refl
leaf_stays (bool b) w is = refl
leaf_stays (whole number) w is = refl
leaf_stays (text t) w is = refl
leaf_stays (list ts) w is = cc
leaf_stays (object es) w is = cc
leaf_stays foreign w is = refl
leaf_stays (callback number) w is = refl

list_kind : (ts : Trees) (m : Tree) → kind (Some (merge (list ts) m)) ≡ a_list
unfolding merge
list_kind ts (list ms) = refl
list_kind ts _ = refl

map_kind : (es : Entries) (m : Tree) → kind (Some (merge (object es) m)) ≡ a_map
unfolding merge
map_kind es (object ms) = refl
map_kind es _ = refl

pub kind_stays : (v w : Tree) → kind (Some (merge v w)) ≡ kind (Some v)
unfolding merge
kind_stays undefined w = refl
kind_stays null w = refl
kind_stays (bool b) w = refl
kind_stays (whole number) w = refl
kind_stays (text t) w = refl
kind_stays (list ts) w = list_kind ts w
kind_stays (object es) w = map_kind es w
kind_stays foreign w = refl
kind_stays (callback number) w = refl

pub map_onto_map : (es ms : Entries) → merge (object es) (object ms) ≡ object (merge_members es ms)
unfolding merge
map_onto_map es ms = refl

-- ---- the keys of a Map
under_if : (test : Bool) (key : List ℕ) (some other : List (List ℕ))
    → key ∷ (if test then some else other) ≡ (if test then key ∷ some else key ∷ other)
under_if true key some other = refl
under_if false key some other = refl

keys_put_at : (test : Bool) (name : List ℕ) (change : Tree → Tree) (t : Tree) (key : List ℕ)
    (m : Tree) (ms : Entries)
    → keys (put name change t ms)
    ≡ (if is_among name (keys ms) then keys ms else keys ms ++ name ∷ [])
    → keys (if test then entry key (change m) ms else entry key m (put name change t ms))
    ≡ (if test || is_among name (keys ms) then key ∷ keys ms else key ∷ (keys ms ++ name ∷ []))
keys_put_at true name change t key m ms later = refl
keys_put_at false name change t key m ms later =
    ap (λ others. key ∷ others) later
    ∙ under_if (is_among name (keys ms)) key (keys ms) (keys ms ++ name ∷ [])

pub keys_put : (name : List ℕ) (change : Tree → Tree) (t : Tree) (ms : Entries)
    → keys (put name change t ms)
    ≡ (if is_among name (keys ms) then keys ms else keys ms ++ name ∷ [])
keys_put name change t none = refl
keys_put name change t (entry key m ms) =
    keys_put_at (bytes_eq key name) name change t key m ms (keys_put name change t ms)

is_among_more : (sought name : List ℕ) (old : List (List ℕ)) → bytes_eq name sought ≡ false
    → is_among sought (old ++ name ∷ []) ≡ is_among sought old
is_among_more sought name [] apart = ap (λ test. test || false) apart
is_among_more sought name (key ∷ old) apart =
    ap (λ test. bytes_eq key sought || test) (is_among_more sought name old apart)

new_keys_more : (name : List ℕ) (old : List (List ℕ)) (es : Entries) → has_member name es ≡ false
    → new_keys (old ++ name ∷ []) (keys es) ≡ new_keys old (keys es)
new_keys_more name old none lacks = refl
new_keys_more name old (entry key t es) lacks =
    let apart = or_false (bytes_eq key name) (has_member name es) lacks in
    let among = is_among_more key name old (bytes_eq-sym name key ∙ apart.0) in
    λ i. if among i then new_keys_more name old es apart.1 i
    else key ∷ new_keys_more name old es apart.1 i

pub keys_turn : (test : Bool) (name : List ℕ) (old : List (List ℕ)) (es : Entries)
    → has_member name es ≡ false
    → (if test then old else old ++ name ∷ [])
    ++ new_keys (if test then old else old ++ name ∷ []) (keys es)
    ≡ old ++ (if test then new_keys old (keys es) else name ∷ new_keys old (keys es))
keys_turn true name old es lacks = refl
keys_turn false name old es lacks =
    ap (λ more. (old ++ name ∷ []) ++ more) (new_keys_more name old es lacks)
    ∙ append_assoc old (name ∷ []) (new_keys old (keys es))

pub keys_merged : (es ms : Entries) → DistinctEntries es
    → keys (merge_members es ms) ≡ keys ms ++ new_keys (keys ms) (keys es)
unfolding merge_members
keys_merged none ms distinct = sym (append-nil (keys ms))
keys_merged (entry name t es) ms distinct =
    keys_merged es (put name (merge t) t ms) distinct.2
    ∙ ap (λ old. old ++ new_keys old (keys es)) (keys_put name (merge t) t ms)
    ∙ keys_turn (is_among name (keys ms)) name (keys ms) es distinct.0
