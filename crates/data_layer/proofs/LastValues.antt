-- What a message leaves of the values of version 1, key by key.
use Rattle.std.proofs.Common.{◌≡◌, ℕ, List, ◌++◌, Option, Some, None, Bool, true, false}
use Rattle.std.proofs.Common.{if◌then◌else◌, append-nil, refl, sym, ap, ◌∙◌}
use Rattle.std.specs.Option.{option_or}
use Rattle.std.specs.Str.{bytes_eq}
use Rattle.gtm_data.specs.Tree.{Tree, Entries, none, entry}
use Rattle.gtm_data.specs.Paths.{member}
use Rattle.gtm_data.specs.Distinct.{DistinctEntries}
use Rattle.data_layer.specs.Layer.{version_one_after}
use Rattle.data_layer.specs.Merge.{put}
use Rattle.data_layer.specs.After.{keys, is_among, new_keys}
use Rattle.data_layer.proofs.Shapes.{keys_put, keys_turn}
use Rattle.data_layer.proofs.Steps.{changed, equal_keys, put_same, put_other, absent_member}

overwritten : (v : Tree) (old : Option Tree) → changed (λ _. v) v old ≡ v
overwritten v None = refl
overwritten v (Some m) = refl

last_value_at : (test : Bool) (sought name : List ℕ) (v : Tree) (es old : Entries)
    → bytes_eq name sought ≡ test → member name es ≡ None
    → option_or (member sought es) (member sought (put name (λ _. v) v old))
    ≡ option_or (if test then Some v else member sought es) (member sought old)
last_value_at true sought name v es old is lacks =
    let same : sought ≡ name = sym (equal_keys name sought is) in
    ap (λ k. option_or (member k es) (member k (put name (λ _. v) v old))) same
    ∙ ap (λ found. option_or found (member name (put name (λ _. v) v old))) lacks
    ∙ put_same name (λ _. v) v old
    ∙ ap Some (overwritten v (member name old))
last_value_at false sought name v es old is lacks =
    ap (option_or (member sought es)) (put_other name (λ _. v) v sought old is)

pub last_value : (sought : List ℕ) (es old : Entries) → DistinctEntries es
    → member sought (version_one_after es old) ≡ option_or (member sought es) (member sought old)
unfolding version_one_after
last_value sought none old distinct = refl
last_value sought (entry name v es) old distinct =
    last_value sought es (put name (λ _. v) v old) distinct.2
    ∙ last_value_at (bytes_eq name sought) sought name v es old refl
    (absent_member name es distinct.0)

pub keys_after : (es old : Entries) → DistinctEntries es
    → keys (version_one_after es old) ≡ keys old ++ new_keys (keys old) (keys es)
unfolding version_one_after
keys_after none old distinct = sym (append-nil (keys old))
keys_after (entry name v es) old distinct =
    keys_after es (put name (λ _. v) v old) distinct.2
    ∙ ap (λ before. before ++ new_keys before (keys es)) (keys_put name (λ _. v) v old)
    ∙ keys_turn (is_among name (keys old)) name (keys old) es distinct.0
