-- A tree with the value at a dotted path changed: only the value there counts.
use Rattle.std.proofs.Common.{◌≡◌, ℕ, ◌+◌, List, [], ◌∷◌, Option, Some, None, Bool, true, false}
use Rattle.std.proofs.Common.{if◌then◌else◌, refl, sym, ap, subst, ◌∙◌}
use Rattle.std.specs.Prelude.{decimal, option_map, option_and_then, unwrap_or}
use Rattle.std.specs.Str.{bytes_eq}
use Rattle.gtm_data.specs.Tree.{Tree, list, object, Trees, end, item, trees, Entries, none, entry}
use Rattle.gtm_data.specs.Paths.{member, numbered, named, walk}
use Rattle.data_layer.specs.Change.{change_member, change_numbered, change_named, changed_at}
use Rattle.data_layer.specs.Command.{listed, items_in}
use Rattle.data_layer.specs.Target.{with_items}
use Rattle.data_layer.specs.Merge.{put}

-- ---- two changes that agree on the value that is found
abbrev Agree : (Tree → Tree) → (Tree → Tree) → Option Tree → Type 0
Agree change other found = (v : Tree) → found ≡ Some v → change v ≡ other v

module _ (name : List ℕ) (change other : Tree → Tree) where
  member_alike_at : (test : Bool) (key : List ℕ) (t : Tree) (es : Entries)
      → Agree change other (if test then Some t else member name es)
      → (Agree change other (member name es)
      → change_member name change es ≡ change_member name other es)
      → (if test then entry key (change t) es else entry key t (change_member name change es))
      ≡ (if test then entry key (other t) es else entry key t (change_member name other es))
  member_alike_at true key t es agree later = ap (λ s. entry key s es) (agree t refl)
  member_alike_at false key t es agree later = ap (entry key t) (later agree)

  member_alike : (es : Entries) → Agree change other (member name es)
      → change_member name change es ≡ change_member name other es
  member_alike none agree = refl
  member_alike (entry key t es) agree =
      member_alike_at (bytes_eq key name) key t es agree (member_alike es)

  item_alike_at : (test : Bool) (place : ℕ) (t : Tree) (ts : Trees)
      → Agree change other (if test then Some t else numbered place name ts)
      → (Agree change other (numbered place name ts)
      → change_numbered place name change ts ≡ change_numbered place name other ts)
      → (if test then item (change t) ts else item t (change_numbered place name change ts))
      ≡ (if test then item (other t) ts else item t (change_numbered place name other ts))
  item_alike_at true place t ts agree later = ap (λ s. item s ts) (agree t refl)
  item_alike_at false place t ts agree later = ap (item t) (later agree)

  item_alike : (place : ℕ) (ts : Trees) → Agree change other (numbered place name ts)
      → change_numbered place name change ts ≡ change_numbered place name other ts
  item_alike place end agree = refl
  item_alike place (item t ts) agree =
      item_alike_at (bytes_eq (decimal place) name) (place + 1) t ts agree
      (item_alike (place + 1) ts)

  named_alike : (t : Tree) → Agree change other (named name t)
      → change_named name change t ≡ change_named name other t
  named_alike (object es) agree = ap object (member_alike es agree)
  named_alike (list ts) agree = ap list (item_alike 0 ts agree)
  named_alike _ agree = refl

alike : (parts : List (List ℕ)) (change other : Tree → Tree) (t : Tree)
    → Agree change other (walk parts t) → changed_at parts change t ≡ changed_at parts other t
alike [] change other t agree = agree t refl
alike (part ∷ parts) change other t agree =
    named_alike part (changed_at parts change) (changed_at parts other) t
    (λ v found.
    alike parts change other v (λ u is. agree u (ap (option_and_then (walk parts)) found ∙ is)))

-- ---- a change to the same value
abbrev stay : Tree → Tree
stay t = t

entry_stays : (test : Bool) (key : List ℕ) (t : Tree) (es others : Entries) → others ≡ es
    → (if test then entry key t es else entry key t others) ≡ entry key t es
entry_stays true key t es others same = refl
entry_stays false key t es others same = ap (entry key t) same

member_stays : (name : List ℕ) (es : Entries) → change_member name stay es ≡ es
member_stays name none = refl
member_stays name (entry key t es) =
    entry_stays (bytes_eq key name) key t es (change_member name stay es) (member_stays name es)

item_stays_at : (test : Bool) (t : Tree) (ts others : Trees) → others ≡ ts
    → (if test then item t ts else item t others) ≡ item t ts
item_stays_at true t ts others same = refl
item_stays_at false t ts others same = ap (item t) same

item_stays : (place : ℕ) (name : List ℕ) (ts : Trees) → change_numbered place name stay ts ≡ ts
item_stays place name end = refl
item_stays place name (item t ts) =
    item_stays_at (bytes_eq (decimal place) name) t ts (change_numbered (place + 1) name stay ts)
    (item_stays (place + 1) name ts)

named_stays : (name : List ℕ) (t : Tree) → change_named name stay t ≡ t
named_stays name (object es) = ap object (member_stays name es)
named_stays name (list ts) = ap list (item_stays 0 name ts)
named_stays name _ = refl

stays : (parts : List (List ℕ)) (t : Tree) → changed_at parts stay t ≡ t
stays [] t = refl
stays (part ∷ parts) t =
    ap (λ change. change_named part change t) (λ i u. stays parts u i) ∙ named_stays part t

-- ---- no value is found
none_found : (change : Tree → Tree) (found : Option Tree) → found ≡ None → Agree change stay found
none_found change found missing v is = cc

pub absent_stays : (name : List ℕ) (change : Tree → Tree) (es : Entries) → member name es ≡ None
    → change_member name change es ≡ es
absent_stays name change es missing =
    member_alike name change stay es (none_found change (member name es) missing)
    ∙ member_stays name es

pub past_stays : (name : List ℕ) (change : Tree → Tree) (ts : Trees) → numbered 0 name ts ≡ None
    → change_numbered 0 name change ts ≡ ts
past_stays name change ts missing =
    item_alike name change stay 0 ts (none_found change (numbered 0 name ts) missing)
    ∙ item_stays 0 name ts

-- ---- the items of a List at a path
module _ (parts : List (List ℕ)) (change : List Tree → List Tree) (t : Tree) where
  -- the tree after the change, if a List was found
  abbrev with_found : Option Tree → Option Tree
  with_found found =
      option_map (λ old. changed_at parts (λ _. list (trees (change old))) t)
      (option_and_then items_in found)

  abbrev pub after_items : Option Tree
  after_items = with_found (walk parts t)

  nothing_changes : (found : Option Tree) → walk parts t ≡ found
      → Agree (with_items change) stay found → changed_at parts (with_items change) t ≡ t
  nothing_changes found is agree =
      alike parts (with_items change) stay t (λ v e. agree v (sym is ∙ e)) ∙ stays parts t

  found_changes : (found : Option Tree) → walk parts t ≡ found
      → changed_at parts (with_items change) t ≡ unwrap_or (with_found found) t
  found_changes None is = nothing_changes None is (λ v e. cc)
  found_changes (Some (list ts)) is =
      alike parts (with_items change) (λ _. list (trees (change (listed ts)))) t
      (λ v e. let same : list ts ≡ v = cc (is, e) in ap (with_items change) (sym same))
  found_changes (Some other) is =
      nothing_changes (Some other) is
      (λ v e. let same : other ≡ v = cc in subst (λ u. with_items change u ≡ u) same refl)

  pub items_change : changed_at parts (with_items change) t ≡ unwrap_or after_items t
  items_change = found_changes (walk parts t) refl

-- ---- a member that is found is not put last
found_put_at : (test : Bool) (name : List ℕ) (change : Tree → Tree) (t : Tree) (key : List ℕ)
    (m : Tree) (es : Entries) (v : Tree) → (if test then Some m else member name es) ≡ Some v
    → (member name es ≡ Some v → put name change t es ≡ change_member name change es)
    → (if test then entry key (change m) es else entry key m (put name change t es))
    ≡ (if test then entry key (change m) es else entry key m (change_member name change es))
found_put_at true name change t key m es v is later = refl
found_put_at false name change t key m es v is later = ap (entry key m) (later is)

pub found_put : (name : List ℕ) (change : Tree → Tree) (t : Tree) (es : Entries) (v : Tree)
    → member name es ≡ Some v → put name change t es ≡ change_member name change es
found_put name change t none v is = cc
found_put name change t (entry key m es) v is =
    found_put_at (bytes_eq key name) name change t key m es v is (found_put name change t es v)
