-- The relation by paths determines its result.
use Rattle.std.proofs.Common.{◌≡◌, ℕ, suc, List, [], ◌∷◌, ◌++◌, Option, Some, None, Bool, true}
use Rattle.std.proofs.Common.{false, if◌then◌else◌, IsSome, ◌⊎◌, inl, inr, subst, append-nil}
use Rattle.std.proofs.Common.{true≢false, refl, sym, ap, ◌∙◌}
use Rattle.std.specs.Str.{bytes_eq}
use Rattle.gtm_data.specs.Tree.{Tree, undefined, null, bool, whole, text, list, object, foreign}
use Rattle.gtm_data.specs.Tree.{callback, Trees, end, item, Entries, none, entry}
use Rattle.gtm_data.specs.Paths.{Step, key, index, member, nth, at}
use Rattle.gtm_data.specs.Distinct.{Distinct, DistinctItems, DistinctEntries, has_member}
use Rattle.data_layer.specs.After.{Kind, leaf, a_list, a_map, kind, Meet, MeetDownTo, keys, After}
use Rattle.data_layer.specs.Shown.{nothing, plain, a_list_there, a_map_there, shown}
use Rattle.data_layer.proofs.Steps.{same_key, equal_keys, absent_member}
use Rattle.data_layer.proofs.Afters.{below}

-- ---- two trees in which the same shows at each path are equal
abbrev SameBelow : Option Tree → Option Tree → Type 0
SameBelow o u = (path : List Step) → shown (below path o) ≡ shown (below path u)

abbrev Same : Tree → Tree → Type 0
Same r s = (path : List Step) → shown (at path r) ≡ shown (at path s)

abbrev Agree : Tree → Type 0
Agree r = (s : Tree) → Distinct r → Distinct s → Same r s → r ≡ s

abbrev AgreeItems : Trees → Type 0
AgreeItems ts =
    (us : Trees) → DistinctItems ts → DistinctItems us
    → ((at : ℕ) → SameBelow (nth at ts) (nth at us)) → ts ≡ us

abbrev AgreeEntries : Entries → Type 0
AgreeEntries es =
    (fs : Entries) → DistinctEntries es → DistinctEntries fs → keys es ≡ keys fs
    → ((name : List ℕ) → SameBelow (member name es) (member name fs)) → es ≡ fs

shown_some : (t : Tree) → nothing ≡ shown (Some t) → ⊥
shown_some undefined e = cc
shown_some null e = cc
shown_some (bool b) e = cc
shown_some (whole number) e = cc
shown_some (text t) e = cc
shown_some (list ts) e = cc
shown_some (object es) e = cc
shown_some foreign e = cc
shown_some (callback number) e = cc

plain_same : (t s : Tree) → plain t ≡ shown (Some s) → t ≡ s
plain_same t undefined e = cc
plain_same t null e = cc
plain_same t (bool b) e = cc
plain_same t (whole number) e = cc
plain_same t (text u) e = cc
plain_same t (list ts) e = cc
plain_same t (object es) e = cc
plain_same t foreign e = cc
plain_same t (callback number) e = cc

list_same : (ts : Trees) (s : Tree) → AgreeItems ts → DistinctItems ts → Distinct s
    → Same (list ts) s → list ts ≡ s
list_same ts (list us) agree distinct distinct_s same =
    ap list (agree us distinct distinct_s (λ at path. same (index at ∷ path)))
list_same ts undefined agree distinct distinct_s same = absurd (let e = same [] in cc)
list_same ts null agree distinct distinct_s same = absurd (let e = same [] in cc)
list_same ts (bool b) agree distinct distinct_s same = absurd (let e = same [] in cc)
list_same ts (whole number) agree distinct distinct_s same = absurd (let e = same [] in cc)
list_same ts (text t) agree distinct distinct_s same = absurd (let e = same [] in cc)
list_same ts (object es) agree distinct distinct_s same = absurd (let e = same [] in cc)
list_same ts foreign agree distinct distinct_s same = absurd (let e = same [] in cc)
list_same ts (callback number) agree distinct distinct_s same = absurd (let e = same [] in cc)

map_same : (es : Entries) (s : Tree) → AgreeEntries es → DistinctEntries es → Distinct s
    → Same (object es) s → object es ≡ s
map_same es (object fs) agree distinct distinct_s same =
    let e : a_map_there (keys es) ≡ a_map_there (keys fs) = same [] in
    let keys_same : keys es ≡ keys fs = cc in
    ap object (agree fs distinct distinct_s keys_same (λ name path. same (key name ∷ path)))
map_same es undefined agree distinct distinct_s same = absurd (let e = same [] in cc)
map_same es null agree distinct distinct_s same = absurd (let e = same [] in cc)
map_same es (bool b) agree distinct distinct_s same = absurd (let e = same [] in cc)
map_same es (whole number) agree distinct distinct_s same = absurd (let e = same [] in cc)
map_same es (text t) agree distinct distinct_s same = absurd (let e = same [] in cc)
map_same es (list ts) agree distinct distinct_s same = absurd (let e = same [] in cc)
map_same es foreign agree distinct distinct_s same = absurd (let e = same [] in cc)
map_same es (callback number) agree distinct distinct_s same = absurd (let e = same [] in cc)

-- behind the first member, which both have
rest_same_at : (test : Bool) (name first : List ℕ) (t u : Tree) (es fs : Entries)
    → bytes_eq first name ≡ test → has_member first es ≡ false → has_member first fs ≡ false
    → SameBelow (if test then Some t else member name es) (if test then Some u else member name fs)
    → SameBelow (member name es) (member name fs)
rest_same_at true name first t u es fs is lacks_es lacks_fs same path =
    let e : first ≡ name = equal_keys first name is in
    ap (λ k. shown (below path (member k es))) (sym e)
    ∙ ap (λ found. shown (below path found))
    (absent_member first es lacks_es ∙ sym (absent_member first fs lacks_fs))
    ∙ ap (λ k. shown (below path (member k fs))) e
rest_same_at false name first t u es fs is lacks_es lacks_fs same path = same path

first_same : (test : Bool) (t u : Tree) (o v : Option Tree) → test ≡ true
    → SameBelow (if test then Some t else o) (if test then Some u else v) → Same t u
first_same true t u o v is same path = same path
first_same false t u o v is same path = absurd (true≢false (sym is))

entries_same : (first other : List ℕ) (t u : Tree) (es fs : Entries) → first ≡ other
    → keys es ≡ keys fs → Agree t → AgreeEntries es → DistinctEntries (entry first t es)
    → DistinctEntries (entry other u fs)
    → ((name : List ℕ)
    → SameBelow (member name (entry first t es))
    (member name (entry other u fs))) → entry first t es ≡ entry other u fs
entries_same first other t u es fs same_first same_keys agree agree_rest distinct distinct_s same =
    let moved : DistinctEntries (entry first u fs) =
    subst (λ k. DistinctEntries (entry k u fs)) (sym same_first) distinct_s in
    let alike : (name : List ℕ)
    → SameBelow (member name (entry first t es)) (member name (entry first u fs)) =
    subst (λ k. (name : List ℕ)
    → SameBelow (member name (entry first t es)) (member name (entry k u fs))) (sym
    same_first) same in
    let values : t ≡ u =
    agree u distinct.1 moved.1
    (first_same (bytes_eq first first) t u (member first es) (member first fs) (same_key first)
    (alike first)) in
    let rest : es ≡ fs =
    agree_rest fs distinct.2 moved.2 same_keys
    (λ name. rest_same_at (bytes_eq first name) name first t u es fs refl distinct.0 moved.0
    (alike name)) in
    λ i. entry (same_first i) (values i) (rest i)

heads_same : {A : Type 0} {x y : A} {xs ys : List A} → x ∷ xs ≡ y ∷ ys → (x ≡ y) × (xs ≡ ys)
heads_same e = (cc, cc)

mutual
  pub agree : (r : Tree) → Agree r
  agree undefined s distinct distinct_s same = plain_same undefined s (same [])
  agree null s distinct distinct_s same = plain_same null s (same [])
  agree (bool b) s distinct distinct_s same = plain_same (bool b) s (same [])
  agree (whole number) s distinct distinct_s same = plain_same (whole number) s (same [])
  agree (text t) s distinct distinct_s same = plain_same (text t) s (same [])
  agree (list ts) s distinct distinct_s same =
      list_same ts s (agree_items ts) distinct distinct_s same
  agree (object es) s distinct distinct_s same =
      map_same es s (agree_entries es) distinct distinct_s same
  agree foreign s distinct distinct_s same = plain_same foreign s (same [])
  agree (callback number) s distinct distinct_s same = plain_same (callback number) s (same [])

  pub agree_items : (ts : Trees) → AgreeItems ts
  agree_items end end distinct distinct_s same = refl
  agree_items end (item u us) distinct distinct_s same = absurd (shown_some u (same 0 []))
  agree_items (item t ts) end distinct distinct_s same = absurd (shown_some t (sym (same 0 [])))
  agree_items (item t ts) (item u us) distinct distinct_s same =
      λ i. item (agree t u distinct.0 distinct_s.0 (same 0) i)
      (agree_items ts us distinct.1 distinct_s.1 (λ at. same (suc at)) i)

  pub agree_entries : (es : Entries) → AgreeEntries es
  agree_entries none none distinct distinct_s same_keys same = refl
  agree_entries none (entry other u fs) distinct distinct_s same_keys same = absurd (cc)
  agree_entries (entry first t es) none distinct distinct_s same_keys same = absurd (cc)
  agree_entries (entry first t es) (entry other u fs) distinct distinct_s same_keys same =
      let heads = heads_same same_keys in
      entries_same first other t u es fs heads.0 heads.1 (agree t) (agree_entries es) distinct
      distinct_s same

-- ---- all the fronts of a path are good, or one is bad
abbrev Fronts : (List Step → Type 0) → (List Step → Type 0) → List Step → Type 0
Fronts Good Bad path =
    ((front rest : List Step) → front ++ rest ≡ path → Good front)
    ⊎ ((front : List Step) × (rest : List Step) × (front ++ rest ≡ path) × Bad front)

front_of_none : (Good : List Step → Type 0) → Good [] → (front rest : List Step)
    → front ++ rest ≡ [] → Good front
front_of_none Good good [] rest is = good
front_of_none Good good (s ∷ front) rest is = absurd (cc)

front_of_more : (Good : List Step → Type 0) (s : Step) (path : List Step) → Good []
    → ((front rest : List Step) → front ++ rest ≡ path → Good (s ∷ front))
    → (front rest : List Step) → front ++ rest ≡ s ∷ path → Good front
front_of_more Good s path good later [] rest is = good
front_of_more Good s path good later (t ∷ front) rest is =
    let heads = heads_same is in
    subst (λ k. Good (k ∷ front)) (sym heads.0) (later front rest heads.1)

fronts_more : (Good Bad : List Step → Type 0) (s : Step) (path : List Step) → Good []
    → Fronts (λ front. Good (s ∷ front)) (λ front. Bad (s ∷ front)) path
    → Fronts Good Bad (s ∷ path)
fronts_more Good Bad s path good (inl all) = inl (front_of_more Good s path good all)
fronts_more Good Bad s path good (inr bad) =
    inr (s ∷ bad.0, bad.1, ap (λ steps. s ∷ steps) bad.2, bad.3)

fronts_at : (Good Bad : List Step → Type 0) (path : List Step) → Good [] ⊎ Bad []
    → (Good [] → Fronts Good Bad path) → Fronts Good Bad path
fronts_at Good Bad path (inl good) later = later good
fronts_at Good Bad path (inr bad) later = inr ([], path, refl, bad)

pub fronts : (Good Bad : List Step → Type 0) (path : List Step)
    → ((front : List Step) → Good front ⊎ Bad front) → Fronts Good Bad path
fronts Good Bad [] decide =
    fronts_at Good Bad [] (decide []) (λ good. inl (front_of_none Good good))
fronts Good Bad (s ∷ path) decide =
    fronts_at Good Bad (s ∷ path) (decide [])
    (λ good. fronts_more Good Bad s path good
    (fronts (λ front. Good (s ∷ front)) (λ front. Bad (s ∷ front)) path
    (λ front. decide (s ∷ front))))

-- ---- whether two meet
pub meet : (k l : Kind) → Meet k l ⊎ (Meet k l → ⊥)
meet a_list a_list = inl tt
meet a_map a_map = inl tt
meet _ _ = inr (λ h. h)

pub meet_if_some : (o : Option Tree) (l : Kind)
    → (IsSome o → Meet (kind o) l) ⊎ (IsSome o × (Meet (kind o) l → ⊥))
meet_if_some None l = inl (λ some. absurd (true≢false (sym some)))
meet_if_some (Some t) l =
    elim (meet (kind (Some t)) l) [ inl met ↦ inl (λ _. met) | inr not_met ↦ inr (refl, not_met) ]

list_kind_shown : (o : Option Tree) → kind o ≡ a_list → shown o ≡ a_list_there
list_kind_shown None is = absurd (cc)
list_kind_shown (Some (list ts)) is = refl
list_kind_shown (Some (object es)) is = absurd (cc)
list_kind_shown (Some _) is = absurd (cc)

map_met : (es : Entries) (o : Option Tree) → Meet (kind (Some (object es))) (kind o)
    → (ms : Entries) × (o ≡ Some (object ms))
map_met es None met = absurd met
map_met es (Some (object ms)) met = (ms, refl)
map_met es (Some _) met = absurd met

-- ---- what shows at a path of two results
module _ (n m r s : Tree) (one : After n m r) (two : After n m s) where
  absent_shown : (path : List Step) → at path n ≡ None → shown (at path r) ≡ shown (at path s)
  absent_shown path lacks =
      elim (fronts (λ front. IsSome (at front n) → Meet (kind (at front n)) (kind (at front m)))
      (λ front. IsSome (at front n) × (Meet (kind (at front n)) (kind (at front m)) → ⊥)) path
      (λ front. meet_if_some (at front n) (kind (at front m)))) [
        | inl all ↦ ap shown (one.kept path lacks all ∙ sym (two.kept path lacks all))
        | inr bad ↦
            let lacks_there : at (bad.0 ++ bad.1) n ≡ None = ap (λ p. at p n) bad.2 ∙ lacks in
            let lost : at (bad.0 ++ bad.1) r ≡ at (bad.0 ++ bad.1) s =
            one.lost bad.0 bad.1 lacks_there bad.3.0 bad.3.1
            ∙ sym (two.lost bad.0 bad.1 lacks_there bad.3.0 bad.3.1) in
            ap shown (ap (λ p. at p r) (sym bad.2) ∙ lost ∙ ap (λ p. at p s) bad.2)
      ]

  merged_shown : (path : List Step) (es ms : Entries) → at path n ≡ Some (object es)
      → at path m ≡ Some (object ms) → MeetDownTo path n m → shown (at path r) ≡ shown (at path s)
  merged_shown path es ms in_n in_m all =
      let of_r = one.merged_keys path es ms in_n in_m all in
      let of_s = two.merged_keys path es ms in_n in_m all in
      ap shown of_r.1.0 ∙ ap a_map_there (of_r.1.1 ∙ sym of_s.1.1) ∙ sym (ap shown of_s.1.0)

  map_shown : (path : List Step) (es : Entries) → at path n ≡ Some (object es)
      → shown (at path r) ≡ shown (at path s)
  map_shown path es in_n =
      elim (fronts (λ front. Meet (kind (at front n)) (kind (at front m)))
      (λ front. Meet (kind (at front n)) (kind (at front m)) → ⊥) path
      (λ front. meet (kind (at front n)) (kind (at front m)))) [
        | inl all ↦
            let met : Meet (kind (Some (object es))) (kind (at path m)) =
            subst (λ o. Meet (kind o) (kind (at path m))) in_n (all path [] (append-nil path))
            in
            let there = map_met es (at path m) met in
            merged_shown path es there.0 in_n there.1 all
        | inr bad ↦
            let in_n_there : at (bad.0 ++ bad.1) n ≡ Some (object es) =
            ap (λ p. at p n) bad.2 ∙ in_n in
            let stays : at (bad.0 ++ bad.1) r ≡ at (bad.0 ++ bad.1) s =
            one.other_keys bad.0 bad.1 es in_n_there bad.3
            ∙ sym (two.other_keys bad.0 bad.1 es in_n_there bad.3) in
            ap shown (ap (λ p. at p r) (sym bad.2) ∙ stays ∙ ap (λ p. at p s) bad.2)
      ]

  leaf_shown : (path : List Step) (v : Tree) → at path n ≡ Some v → kind (Some v) ≡ leaf
      → shown (at path r) ≡ shown (at path s)
  leaf_shown path v in_n plain_there =
      ap shown (one.value path v in_n plain_there ∙ sym (two.value path v in_n plain_there))

  value_shown : (path : List Step) (v : Tree) → at path n ≡ Some v
      → shown (at path r) ≡ shown (at path s)
  value_shown path (list ts) in_n =
      list_kind_shown (at path r) (one.container path (list ts) in_n)
      ∙ sym (list_kind_shown (at path s) (two.container path (list ts) in_n))
  value_shown path (object es) in_n = map_shown path es in_n
  value_shown path undefined in_n = leaf_shown path undefined in_n refl
  value_shown path null in_n = leaf_shown path null in_n refl
  value_shown path (bool b) in_n = leaf_shown path (bool b) in_n refl
  value_shown path (whole number) in_n = leaf_shown path (whole number) in_n refl
  value_shown path (text t) in_n = leaf_shown path (text t) in_n refl
  value_shown path foreign in_n = leaf_shown path foreign in_n refl
  value_shown path (callback number) in_n = leaf_shown path (callback number) in_n refl

  shown_as : (path : List Step) (o : Option Tree) → at path n ≡ o
      → shown (at path r) ≡ shown (at path s)
  shown_as path None is = absent_shown path is
  shown_as path (Some v) is = value_shown path v is

  pub same_shown : (path : List Step) → shown (at path r) ≡ shown (at path s)
  same_shown path = shown_as path (at path n) refl

pub After_determines : (n m r s : Tree) → Distinct r → Distinct s → After n m r → After n m s
    → r ≡ s
After_determines n m r s distinct_r distinct_s one two =
    agree r s distinct_r distinct_s (same_shown n m r s one two)
