-- A merge of trees in which no Map has a key twice makes none that has.
use Rattle.std.proofs.Common.{◌≡◌, ℕ, List, Bool, true, false, ◌||◌, if◌then◌else◌, refl, ap, ◌∙◌}
use Rattle.std.specs.Str.{bytes_eq}
use Rattle.gtm_base.proofs.Pairs.{bytes_eq-sym}
use Rattle.gtm_data.specs.Tree.{Tree, undefined, null, bool, whole, text, list, object, foreign}
use Rattle.gtm_data.specs.Tree.{callback, Trees, end, item, Entries, none, entry}
use Rattle.gtm_data.specs.Distinct.{Distinct, DistinctItems, DistinctEntries, has_member}
use Rattle.data_layer.specs.Merge.{merge, merge_items, merge_members, on_list, on_object, put}

-- ---- a change at one key
module _ (name : List ℕ) (change : Tree → Tree) (t : Tree) where
  has_member_at : (test : Bool) (sought other : List ℕ) (m : Tree) (ms : Entries)
      → has_member sought (put name change t ms) ≡ has_member sought ms
      → has_member sought
      (if test then entry other (change m) ms else entry other m (put name change t ms))
      ≡ (bytes_eq other sought || has_member sought ms)
  has_member_at true sought other m ms later = refl
  has_member_at false sought other m ms later = ap (λ test. bytes_eq other sought || test) later

  has_member_put : (sought : List ℕ) (ms : Entries) → bytes_eq name sought ≡ false
      → has_member sought (put name change t ms) ≡ has_member sought ms
  has_member_put sought none apart = ap (λ test. test || false) apart
  has_member_put sought (entry other m ms) apart =
      has_member_at (bytes_eq other name) sought other m ms (has_member_put sought ms apart)

  module _ (keeps : (m : Tree) → Distinct m → Distinct (change m)) (distinct_t : Distinct t) where
    put_distinct_at : (test : Bool) (other : List ℕ) (m : Tree) (ms : Entries)
        → bytes_eq other name ≡ test → DistinctEntries (entry other m ms)
        → DistinctEntries (put name change t ms)
        → DistinctEntries
        (if test then entry other (change m) ms else entry other m (put name change t ms))
    put_distinct_at true other m ms is distinct later = (distinct.0, keeps m distinct.1, distinct.2)
    put_distinct_at false other m ms is distinct later =
        (has_member_put other ms (bytes_eq-sym name other ∙ is) ∙ distinct.0, distinct.1, later)

    pub put_distinct : (ms : Entries) → DistinctEntries ms → DistinctEntries (put name change t ms)
    put_distinct none distinct = (refl, distinct_t, tt)
    put_distinct (entry other m ms) distinct =
        put_distinct_at (bytes_eq other name) other m ms refl distinct (put_distinct ms distinct.2)

-- ---- a merge
on_list_distinct : (change : Trees → Trees) (t m : Tree)
    → ((ms : Trees) → DistinctItems ms → DistinctItems (change ms)) → Distinct t → Distinct m
    → Distinct (on_list change t m)
on_list_distinct change t (list ms) keeps distinct_t distinct_m = keeps ms distinct_m
on_list_distinct change t _ keeps distinct_t distinct_m = distinct_t

on_object_distinct : (change : Entries → Entries) (t m : Tree)
    → ((ms : Entries) → DistinctEntries ms → DistinctEntries (change ms)) → Distinct t → Distinct m
    → Distinct (on_object change t m)
on_object_distinct change t (object ms) keeps distinct_t distinct_m = keeps ms distinct_m
on_object_distinct change t _ keeps distinct_t distinct_m = distinct_t

mutual
  unfolding merge merge_items merge_members

  pub merge_distinct : (n m : Tree) → Distinct n → Distinct m → Distinct (merge n m)
  merge_distinct undefined m distinct_n distinct_m = tt
  merge_distinct null m distinct_n distinct_m = tt
  merge_distinct (bool b) m distinct_n distinct_m = tt
  merge_distinct (whole number) m distinct_n distinct_m = tt
  merge_distinct (text t) m distinct_n distinct_m = tt
  merge_distinct (list ts) m distinct_n distinct_m =
      on_list_distinct (merge_items ts) (list ts) m (λ ms. items_distinct ts ms distinct_n)
      distinct_n distinct_m
  merge_distinct (object es) m distinct_n distinct_m =
      on_object_distinct (merge_members es) (object es) m (λ ms. members_distinct es ms distinct_n)
      distinct_n distinct_m
  merge_distinct foreign m distinct_n distinct_m = tt
  merge_distinct (callback number) m distinct_n distinct_m = tt

  items_distinct : (ts ms : Trees) → DistinctItems ts → DistinctItems ms
      → DistinctItems (merge_items ts ms)
  items_distinct end ms distinct_ts distinct_ms = distinct_ms
  items_distinct (item t ts) end distinct_ts distinct_ms =
      (distinct_ts.0, items_distinct ts end distinct_ts.1 tt)
  items_distinct (item t ts) (item m ms) distinct_ts distinct_ms = (
    merge_distinct t m distinct_ts.0 distinct_ms.0,
    items_distinct ts ms distinct_ts.1 distinct_ms.1,
  )

  members_distinct : (es ms : Entries) → DistinctEntries es → DistinctEntries ms
      → DistinctEntries (merge_members es ms)
  members_distinct none ms distinct_es distinct_ms = distinct_ms
  members_distinct (entry name t es) ms distinct_es distinct_ms =
      members_distinct es (put name (merge t) t ms) distinct_es.2
      (put_distinct name (merge t) t (λ m. merge_distinct t m distinct_es.1) distinct_es.1 ms
      distinct_ms)
