-- A change of the value behind one part: where it stands, and that all else stays.
use Rattle.std.proofs.Common.{◌≡◌, ℕ, zero, suc, ◌+◌, List, ◌∷◌, Some, Bool, true, false}
use Rattle.std.proofs.Common.{if◌then◌else◌, ◌⊎◌, inl, inr, true≢false, refl, sym, ap, ◌∙◌, arith}
use Rattle.std.specs.Prelude.{decimal}
use Rattle.std.specs.Str.{bytes_eq}
use Rattle.std.proofs.lemmas.Bool.Decides.{eqb_tells}
use Rattle.std.proofs.lemmas.Slice.Eq.{bytes_eq-Decides}
use Rattle.gtm_data.specs.Tree.{Tree, list, object, Trees, end, item, Entries, none, entry}
use Rattle.gtm_data.specs.Paths.{Step, key, index, member, nth, step, numbered, named, written}
use Rattle.data_layer.specs.After.{keys}
use Rattle.data_layer.specs.Change.{change_member, change_numbered, change_named}
use Rattle.data_layer.specs.Shown.{a_map_there, shown}
use Rattle.data_layer.proofs.Steps.{none_some, some_same, equal_keys}

-- ---- two keys, or two steps, are the same or not
apart_keys_at : (test : Bool) (some other : List ℕ) → bytes_eq some other ≡ test
    → (some ≡ other) ⊎ ((some ≡ other → ⊥) × (bytes_eq some other ≡ false))
apart_keys_at true some other is = inl (equal_keys some other is)
apart_keys_at false some other is =
    inr ((λ same. true≢false (sym ((bytes_eq-Decides some other).1 same) ∙ is)), is)

apart_keys : (some other : List ℕ)
    → (some ≡ other) ⊎ ((some ≡ other → ⊥) × (bytes_eq some other ≡ false))
apart_keys some other = apart_keys_at (bytes_eq some other) some other refl

pub same_step : (s u : Step) → (s ≡ u) ⊎ (s ≡ u → ⊥)
same_step (key name) (key other) =
    elim (apart_keys name other)
    [ inl same ↦ inl (ap key same) | inr apart ↦ inr (λ e. apart.0 (cc)) ]
same_step (key name) (index at) = inr (λ e. cc)
same_step (index at) (key name) = inr (λ e. cc)
same_step (index at) (index other) =
    elim (eqb_tells at other)
    [ inl same ↦ inl (ap index same.1) | inr apart ↦ inr (λ e. apart.1 (cc)) ]

-- ---- at a key
module _ (name : List ℕ) (change : Tree → Tree) where
  there_at : (test : Bool) (other : List ℕ) (t : Tree) (es : Entries) (u : Tree)
      → bytes_eq other name ≡ test → (if test then Some t else member name es) ≡ Some u
      → (member name es ≡ Some u → member name (change_member name change es) ≡ Some (change u))
      → member name
      (if test then entry other (change t) es else entry other t (change_member name change es))
      ≡ Some (change u)
  there_at true other t es u is found later = rw is (ap (λ v. Some (change v)) (some_same found))
  there_at false other t es u is found later = rw is (later found)

  member_there : (es : Entries) (u : Tree) → member name es ≡ Some u
      → member name (change_member name change es) ≡ Some (change u)
  member_there none u found = absurd (none_some found)
  member_there (entry other t es) u found =
      there_at (bytes_eq other name) other t es u refl found (member_there es u)

  else_at : (test : Bool) (sought other : List ℕ) (t : Tree) (es : Entries)
      → bytes_eq other name ≡ test → bytes_eq name sought ≡ false
      → member sought (change_member name change es) ≡ member sought es
      → member sought
      (if test then entry other (change t) es else entry other t (change_member name change es))
      ≡ member sought (entry other t es)
  else_at true sought other t es is apart later =
      let unlike : bytes_eq other sought ≡ false =
      ap (λ k. bytes_eq k sought) (equal_keys other name is) ∙ apart in
      rw unlike refl
  else_at false sought other t es is apart later =
      ap (λ found. if bytes_eq other sought then Some t else found) later

  member_else : (sought : List ℕ) (es : Entries) → bytes_eq name sought ≡ false
      → member sought (change_member name change es) ≡ member sought es
  member_else sought none apart = refl
  member_else sought (entry other t es) apart =
      else_at (bytes_eq other name) sought other t es refl apart (member_else sought es apart)

  keys_at : (test : Bool) (other : List ℕ) (t : Tree) (es : Entries)
      → keys (change_member name change es) ≡ keys es
      → keys (if test then entry other (change t) es
      else entry other t (change_member name change es)) ≡ other ∷ keys es
  keys_at true other t es later = refl
  keys_at false other t es later = ap (λ others. other ∷ others) later

  pub keys_stay : (es : Entries) → keys (change_member name change es) ≡ keys es
  keys_stay none = refl
  keys_stay (entry other t es) = keys_at (bytes_eq other name) other t es (keys_stay es)

-- ---- at an index ts has u at a place, whose number, counted on from another, is written so; and
-- us has the changed u there, and is else the same
record ItemThere (from : ℕ) (name : List ℕ) (change : Tree → Tree) (ts us : Trees) (u : Tree) : Type
    0 where
  place : ℕ
  digits : decimal (from + place) ≡ name
  found : nth place ts ≡ Some u
  changed : nth place us ≡ Some (change u)
  others : (other : ℕ) → (place ≡ other → ⊥) → nth other us ≡ nth other ts

-- all but the first item is the same whatever that is
behind_first : (other : ℕ) (t u : Tree) (ts : Trees) → (zero ≡ other → ⊥)
    → nth other (item u ts) ≡ nth other (item t ts)
behind_first zero t u ts apart = absurd (apart refl)
behind_first (suc other) t u ts apart = refl

-- with an item before both, the others are again the same
with_first : (place other : ℕ) (t : Tree) (ts us : Trees) → (suc place ≡ other → ⊥)
    → ((other : ℕ) → (place ≡ other → ⊥) → nth other us ≡ nth other ts)
    → nth other (item t us) ≡ nth other (item t ts)
with_first place zero t ts us apart later = refl
with_first place (suc other) t ts us apart later = later other (λ e. apart (ap suc e))

item_there_at : (test : Bool) (from : ℕ) (name : List ℕ) (change : Tree → Tree) (t : Tree)
    (ts : Trees) (u : Tree) → bytes_eq (decimal from) name ≡ test
    → (if test then Some t else numbered (from + 1) name ts) ≡ Some u
    → (numbered (from + 1) name ts ≡ Some u
    → ItemThere (from + 1) name change ts (change_numbered (from + 1) name change ts) u)
    → ItemThere from name change (item t ts)
    (if test then item (change t) ts else item t (change_numbered (from + 1) name change ts)) u
item_there_at true from name change t ts u is found later = record {
  place = 0;
  digits = ap decimal (omega arith) ∙ equal_keys (decimal from) name is;
  found = found;
  changed = ap (λ v. Some (change v)) (some_same found);
  others = λ other. behind_first other t (change t) ts;
}
item_there_at false from name change t ts u is found later =
    let it = later found in
    record {
      place = suc it.place;
      digits = ap decimal (omega arith) ∙ it.digits;
      found = it.found;
      changed = it.changed;
      others =
          λ other apart.
          with_first it.place other t ts (change_numbered (from + 1) name change ts) apart
          it.others;
    }

item_there : (from : ℕ) (name : List ℕ) (change : Tree → Tree) (ts : Trees) (u : Tree)
    → numbered from name ts ≡ Some u
    → ItemThere from name change ts (change_numbered from name change ts) u
item_there from name change end u found = absurd (none_some found)
item_there from name change (item t ts) u found =
    item_there_at (bytes_eq (decimal from) name) from name change t ts u refl found
    (item_there (from + 1) name change ts u)

-- ---- at any step t has u at a step that is written so; and the tree changed there has the changed
-- u, is else the same, and shows the same itself
pub record StepThere (part : List ℕ) (change : Tree → Tree) (t u : Tree) : Type 0 where
  pub place : Step
  pub is_written : written place ≡ part
  pub found : step place t ≡ Some u
  pub changed : step place (change_named part change t) ≡ Some (change u)
  pub others : (s : Step) → (place ≡ s → ⊥) → step s (change_named part change t) ≡ step s t
  pub shows : shown (Some (change_named part change t)) ≡ shown (Some t)

key_else : (part : List ℕ) (change : Tree → Tree) (es : Entries) (s : Step) → (key part ≡ s → ⊥)
    → step s (change_named part change (object es)) ≡ step s (object es)
key_else part change es (key sought) apart =
    elim (apart_keys part sought) [
      | inl same ↦ absurd (apart (ap key same))
      | inr unlike ↦ member_else part change sought es
          unlike.1
    ]
key_else part change es (index at) apart = refl

index_else : (part : List ℕ) (change : Tree → Tree) (ts : Trees) (place : ℕ)
    → ((other : ℕ) → (place ≡ other → ⊥)
    → nth other (change_numbered 0 part change ts) ≡ nth other ts)
    → (s : Step) → (index place ≡ s → ⊥)
    → step s (change_named part change (list ts)) ≡ step s (list ts)
index_else part change ts place others (key sought) apart = refl
index_else part change ts place others (index at) apart = others at (λ e. apart (ap index e))

pub step_there : (part : List ℕ) (change : Tree → Tree) (t u : Tree) → named part t ≡ Some u
    → StepThere part change t u
step_there part change (object es) u found = record {
  place = key part;
  is_written = refl;
  found = found;
  changed = member_there part change es u found;
  others = key_else part change es;
  shows = ap a_map_there (keys_stay part change es);
}
step_there part change (list ts) u found =
    let it = item_there 0 part change ts u found in
    record {
      place = index it.place;
      is_written = ap decimal (omega arith) ∙ it.digits;
      found = it.found;
      changed = it.changed;
      others = index_else part change ts it.place it.others;
      shows = refl;
    }
step_there part change _ u found = absurd (none_some found)
