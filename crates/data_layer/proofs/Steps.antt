-- A merge, one step down: what stands at a key or an index comes from what stood there in both.
use Rattle.std.proofs.Common.{◌≡◌, ℕ, zero, suc, List, Option, Some, None, Bool, true, false, ◌||◌}
use Rattle.std.proofs.Common.{if◌then◌else◌, ◌⊎◌, inl, inr, subst, true≢false, refl, sym, ap, ◌∙◌}
use Rattle.std.specs.Str.{bytes_eq}
use Rattle.std.proofs.lemmas.Slice.Eq.{bytes_eq-Decides}
use Rattle.gtm_data.specs.Tree.{Tree, undefined, null, bool, whole, text, list, object, foreign}
use Rattle.gtm_data.specs.Tree.{callback, Trees, end, item, Entries, none, entry}
use Rattle.gtm_data.specs.Paths.{Step, key, index, member, nth, step}
use Rattle.gtm_data.specs.Distinct.{Distinct, DistinctItems, DistinctEntries, has_member}
use Rattle.data_layer.specs.Merge.{merge, merge_items, merge_members, put}
use Rattle.data_layer.specs.After.{kind, Meet}

pub none_some : {A : Type 0} {x : A} → None ≡ Some x → ⊥
none_some e = cc

pub some_same : {A : Type 0} {x y : A} → Some x ≡ Some y → x ≡ y
some_same e = cc

pub same_key : (name : List ℕ) → bytes_eq name name ≡ true
same_key name = (bytes_eq-Decides name name).1 refl

pub equal_keys : (some other : List ℕ) → bytes_eq some other ≡ true → some ≡ other
equal_keys some other test = (bytes_eq-Decides some other).0 test

-- what the second becomes at a place, if the first has something there
abbrev pub changed : (Tree → Tree) → Tree → Option Tree → Tree
changed change t None = t
changed change t (Some m) = change m

-- what stands at a place after a merge, from what stood there in both
abbrev pub merged : Option Tree → Option Tree → Option Tree
merged None old = old
merged (Some t) old = Some (changed (merge t) t old)

-- ---- at a key
module _ (name : List ℕ) (change : Tree → Tree) (t : Tree) where
  put_same_at : (test : Bool) (other : List ℕ) (m : Tree) (ms : Entries)
      → bytes_eq other name ≡ test
      → member name (put name change t ms) ≡ Some (changed change t (member name ms))
      → member name
      (if test then entry other (change m) ms else entry other m (put name change t ms))
      ≡ Some (changed change t (if test then Some m else member name ms))
  put_same_at true other m ms is later = rw is refl
  put_same_at false other m ms is later = rw is later

  pub put_same : (ms : Entries)
      → member name (put name change t ms) ≡ Some (changed change t (member name ms))
  put_same none = rw (same_key name) refl
  put_same (entry other m ms) = put_same_at (bytes_eq other name) other m ms refl (put_same ms)

  put_other_at : (test : Bool) (sought other : List ℕ) (m : Tree) (ms : Entries)
      → bytes_eq other name ≡ test → bytes_eq name sought ≡ false
      → member sought (put name change t ms) ≡ member sought ms
      → member sought
      (if test then entry other (change m) ms else entry other m (put name change t ms))
      ≡ member sought (entry other m ms)
  put_other_at true sought other m ms is apart later =
      let unlike : bytes_eq other sought ≡ false =
      ap (λ k. bytes_eq k sought) (equal_keys other name is) ∙ apart in
      rw unlike refl
  put_other_at false sought other m ms is apart later =
      ap (λ found. if bytes_eq other sought then Some m else found) later

  pub put_other : (sought : List ℕ) (ms : Entries) → bytes_eq name sought ≡ false
      → member sought (put name change t ms) ≡ member sought ms
  put_other sought none apart = rw apart refl
  put_other sought (entry other m ms) apart =
      put_other_at (bytes_eq other name) sought other m ms refl apart (put_other sought ms apart)

absent_at : (test : Bool) (name : List ℕ) (t : Tree) (es : Entries)
    → (test || has_member name es) ≡ false → (has_member name es ≡ false → member name es ≡ None)
    → (if test then Some t else member name es) ≡ None
absent_at true name t es lacks later = absurd (true≢false lacks)
absent_at false name t es lacks later = later lacks

pub absent_member : (name : List ℕ) (es : Entries) → has_member name es ≡ false
    → member name es ≡ None
absent_member name none lacks = refl
absent_member name (entry other t es) lacks =
    absent_at (bytes_eq other name) name t es lacks (absent_member name es)

member_merged_at : (test : Bool) (sought name : List ℕ) (t : Tree) (es ms : Entries)
    → bytes_eq name sought ≡ test → member name es ≡ None
    → merged (member sought es) (member sought (put name (merge t) t ms))
    ≡ merged (if test then Some t else member sought es) (member sought ms)
member_merged_at true sought name t es ms is lacks =
    let same : sought ≡ name = sym (equal_keys name sought is) in
    ap (λ found. merged found (member sought (put name (merge t) t ms)))
    (ap (λ k. member k es) same ∙ lacks)
    ∙ ap (λ k. member k (put name (merge t) t ms)) same
    ∙ put_same name (merge t) t ms
    ∙ ap (λ k. Some (changed (merge t) t (member k ms))) (sym same)
member_merged_at false sought name t es ms is lacks =
    ap (merged (member sought es)) (put_other name (merge t) t sought ms is)

member_merged : (sought : List ℕ) (es ms : Entries) → DistinctEntries es
    → member sought (merge_members es ms) ≡ merged (member sought es) (member sought ms)
unfolding merge_members
member_merged sought none ms distinct = refl
member_merged sought (entry name t es) ms distinct =
    member_merged sought es (put name (merge t) t ms) distinct.2
    ∙ member_merged_at (bytes_eq name sought) sought name t es ms refl
    (absent_member name es distinct.0)

-- ---- at an index
nth_merged : (at : ℕ) (ts ms : Trees) → nth at (merge_items ts ms) ≡ merged (nth at ts) (nth at ms)
unfolding merge_items
nth_merged at end ms = refl
nth_merged zero (item t ts) end = refl
nth_merged (suc at) (item t ts) end = nth_merged at ts end
nth_merged zero (item t ts) (item m ms) = refl
nth_merged (suc at) (item t ts) (item m ms) = nth_merged at ts ms

-- ---- at any step: two Lists or two Maps are merged place by place, and of any other two the first
-- stays
abbrev pub MeetHere : Tree → Tree → Type 0
MeetHere n m = Meet (kind (Some n)) (kind (Some m))

abbrev pub Steps : Tree → Tree → Type 0
Steps n m = Distinct n → (s : Step) → step s (merge n m) ≡ merged (step s n) (step s m)

abbrev pub Cases : Tree → Tree → Type 0
Cases n m = (MeetHere n m × Steps n m) ⊎ ((MeetHere n m → ⊥) × (merge n m ≡ n))

lists_step : (ts ms : Trees) → Steps (list ts) (list ms)
unfolding merge
lists_step ts ms distinct (key name) = refl
lists_step ts ms distinct (index at) = nth_merged at ts ms

maps_step : (es ms : Entries) → Steps (object es) (object ms)
unfolding merge
maps_step es ms distinct (key name) = member_merged name es ms distinct
maps_step es ms distinct (index at) = refl

list_cases : (ts : Trees) (m : Tree) → Cases (list ts) m
unfolding merge
list_cases ts (list ms) = inl (tt, lists_step ts ms)
list_cases ts _ = inr ((λ h. h), refl)

map_cases : (es : Entries) (m : Tree) → Cases (object es) m
unfolding merge
map_cases es (object ms) = inl (tt, maps_step es ms)
map_cases es _ = inr ((λ h. h), refl)

pub cases : (n m : Tree) → Cases n m
unfolding merge
cases undefined m = inr ((λ h. h), refl)
cases null m = inr ((λ h. h), refl)
cases (bool b) m = inr ((λ h. h), refl)
cases (whole number) m = inr ((λ h. h), refl)
cases (text t) m = inr ((λ h. h), refl)
cases (list ts) m = list_cases ts m
cases (object es) m = map_cases es m
cases foreign m = inr ((λ h. h), refl)
cases (callback number) m = inr ((λ h. h), refl)

-- ---- one step down in a tree with distinct keys they are distinct too
nth_distinct : (at : ℕ) (ts : Trees) (t : Tree) → DistinctItems ts → nth at ts ≡ Some t → Distinct t
nth_distinct at end t distinct is = absurd (none_some is)
nth_distinct zero (item u ts) t distinct is = subst Distinct (some_same is) distinct.0
nth_distinct (suc at) (item u ts) t distinct is = nth_distinct at ts t distinct.1 is

member_distinct_at : (test : Bool) (name : List ℕ) (u : Tree) (es : Entries) (t : Tree) → Distinct u
    → (member name es ≡ Some t → Distinct t) → (if test then Some u else member name es) ≡ Some t
    → Distinct t
member_distinct_at true name u es t distinct later is = subst Distinct (some_same is) distinct
member_distinct_at false name u es t distinct later is = later is

member_distinct : (name : List ℕ) (es : Entries) (t : Tree) → DistinctEntries es
    → member name es ≡ Some t → Distinct t
member_distinct name none t distinct is = absurd (none_some is)
member_distinct name (entry other u es) t distinct is =
    member_distinct_at (bytes_eq other name) name u es t distinct.1
    (member_distinct name es t distinct.2) is

pub step_distinct : (s : Step) (n t : Tree) → Distinct n → step s n ≡ Some t → Distinct t
step_distinct (key name) (object es) t distinct is = member_distinct name es t distinct is
step_distinct (index at) (list ts) t distinct is = nth_distinct at ts t distinct is
step_distinct _ _ t distinct is = absurd (none_some is)
