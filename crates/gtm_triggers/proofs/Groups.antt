-- Which triggers fit an event, and the place of a group.
use Rattle.std.proofs.Common.{◌≡◌, ◌<◌, ◌+◌, ℕ, zero, suc, List, [], ◌∷◌, Bool, true, false, Option}
use Rattle.std.proofs.Common.{Some, None, refl, ap, sym, ◌∙◌, arith, slice_get}
use Rattle.std.specs.Prelude.{◌||◌, ◌==◌, if◌then◌else◌}
use Rattle.std.specs.Str.{bytes_eq}
use Rattle.std.proofs.lemmas.Bool.Decides.{nat_tests}
use Rattle.export_model.specs.declared.triggers.Trigger.{Trigger}
use Rattle.export_model.specs.declared.triggers.TriggerKind.{TriggerKind}
use Rattle.export_model.specs.declared.triggers.TriggerKind.TheVariants as kind
use Rattle.gtm_triggers.proofs.Merges.{merged_places}
use Rattle.gtm_triggers.proofs.Places.{more, place_if}
use Rattle.gtm_triggers.specs.Holding.{fits, places_from}
use Rattle.gtm_triggers.specs.Indexed.{customs, group_places, is_custom, is_for, is_group_at}
use Rattle.gtm_triggers.specs.Indexed.{those_for}
use Rattle.gtm_triggers.specs.Merged.{merged}

or_false : (b : Bool) → (b || false) ≡ b
or_false true = refl
or_false false = refl

-- a kind fits in one of three ways
by_ways : (event : List ℕ) (group : Option ℕ) (at : ℕ) (k : TriggerKind)
    → ((is_custom k || is_for event k) || is_group_at group at k) ≡ fits event group at k
by_ways event group at (kind.Event name) = or_false (bytes_eq name event)
by_ways event group at kind.Custom = refl
by_ways event group at kind.Group = refl
by_ways event group at (kind.Never word) = refl

no_custom : (event : List ℕ) (k : TriggerKind) → is_custom k ≡ true → is_for event k ≡ true → ⊥
no_custom event (kind.Event name) custom own = cc custom
no_custom event kind.Custom custom own = cc own
no_custom event kind.Group custom own = cc custom
no_custom event (kind.Never word) custom own = cc custom

no_group : (event : List ℕ) (group : Option ℕ) (at : ℕ) (k : TriggerKind)
    → (is_custom k || is_for event k) ≡ true → is_group_at group at k ≡ true → ⊥
no_group event group at (kind.Event name) other own = cc own
no_group event group at kind.Custom other own = cc own
no_group event group at kind.Group other own = cc other
no_group event group at (kind.Never word) other own = cc own

same_test : (some other : ℕ × Trigger → Bool) → ((e : ℕ × Trigger) → some e ≡ other e)
    → (from : ℕ) (ts : List Trigger) → places_from some from ts ≡ places_from other from ts
same_test some other same from [] = refl
same_test some other same from (t ∷ ts) =
    more some from t ts
    ∙ (λ i. place_if (same (from, t) i) from (same_test some other same (from + 1) ts i))
    ∙ sym (more other from t ts)

-- those that fit are those that fit in one of the three ways
pub fitting_places : (event : List ℕ) (group : Option ℕ) (ts : List Trigger)
    → merged (merged (customs ts) (those_for event ts)) (group_places group ts)
    ≡ places_from (λ e. fits event group e.0 e.1.kind) 0 ts
fitting_places event group ts =
    ap (λ ps. merged ps (group_places group ts))
    (merged_places (λ e. is_custom e.1.kind) (λ e. is_for event e.1.kind)
    (λ e. no_custom event e.1.kind) 0 ts)
    ∙ merged_places (λ e. is_custom e.1.kind || is_for event e.1.kind)
    (λ e. is_group_at group e.0 e.1.kind) (λ e. no_group event group e.0 e.1.kind) 0 ts
    ∙ same_test _ _ (λ e. by_ways event group e.0 e.1.kind) 0 ts

-- a kind is a group's
abbrev pub is_group : TriggerKind → Bool
is_group kind.Group = true
is_group _ = false

nowhere_by : (k : TriggerKind) (at : ℕ) → is_group_at None at k ≡ false
nowhere_by (kind.Event name) at = refl
nowhere_by kind.Custom at = refl
nowhere_by kind.Group at = refl
nowhere_by (kind.Never word) at = refl

-- no group has a message of its own here
pub no_group_places : (from : ℕ) (ts : List Trigger)
    → places_from (λ e. is_group_at None e.0 e.1.kind) from ts ≡ []
no_group_places from [] = refl
no_group_places from (t ∷ ts) =
    more (λ e. is_group_at None e.0 e.1.kind) from t ts
    ∙ (λ i. place_if (nowhere_by t.kind from i) from (no_group_places (from + 1) ts i))

other_place : (own at : ℕ) (k : TriggerKind) → (own == at) ≡ false
    → is_group_at (Some own) at k ≡ false
other_place own at (kind.Event name) e = refl
other_place own at kind.Custom e = refl
other_place own at kind.Group e = e
other_place own at (kind.Never word) e = refl

own_place : (own at : ℕ) (k : TriggerKind) → (own == at) ≡ true
    → is_group_at (Some own) at k ≡ is_group k
own_place own at (kind.Event name) e = refl
own_place own at kind.Custom e = refl
own_place own at kind.Group e = e
own_place own at (kind.Never word) e = refl

-- a place before them is none of theirs
before : (own from : ℕ) (ts : List Trigger) → own < from
    → places_from (λ e. is_group_at (Some own) e.0 e.1.kind) from ts ≡ []
before own from [] less = refl
before own from (t ∷ ts) less =
    let other : (own == from) ≡ false = grind (arith, nat_tests) in
    more (λ e. is_group_at (Some own) e.0 e.1.kind) from t ts
    ∙ (λ i. place_if (other_place own from t.kind other i) from
    (before own (from + 1) ts (omega (arith, less)) i))

-- the place of a group, where one is there
abbrev pub found_place : ℕ → Option Trigger → List ℕ
found_place own None = []
found_place own (Some t) = if is_group t.kind then own ∷ [] else []

alone : (b : Bool) (own : ℕ) → place_if b own [] ≡ (if b then own ∷ [] else [])
alone true own = refl
alone false own = refl

pub at_place : (own at from : ℕ) (ts : List Trigger) → own ≡ from + at
    → places_from (λ e. is_group_at (Some own) e.0 e.1.kind) from ts
    ≡ found_place own (slice_get ts at)
at_place own at from [] is = refl
at_place own zero from (t ∷ ts) is =
    let here : own ≡ from = omega (arith, is) in
    let test : (own == from) ≡ true = grind (arith, nat_tests) in
    let there : from ≡ own = sym here in
    more (λ e. is_group_at (Some own) e.0 e.1.kind) from t ts
    ∙ (λ i. place_if (own_place own from t.kind test i) (there i)
    (before own (from + 1) ts (omega (arith, here)) i))
    ∙ alone (is_group t.kind) own
at_place own (suc at) from (t ∷ ts) is =
    let other : (own == from) ≡ false = grind (arith, nat_tests) in
    more (λ e. is_group_at (Some own) e.0 e.1.kind) from t ts
    ∙ ap (λ b. place_if b from (places_from (λ e. is_group_at (Some own) e.0 e.1.kind)
    (from + 1) ts)) (other_place own from t.kind other)
    ∙ at_place own at (from + 1) ts (omega (arith, is))
