-- The triggers that hold are those that fit and whose conditions hold.
use Rattle.std.proofs.Common.{◌≡◌, ◌<◌, ◌+◌, ℕ, zero, suc, List, [], ◌∷◌, ◌++◌, drop, length}
use Rattle.std.proofs.Common.{get_or}
use Rattle.std.proofs.Common.{Bool, true, false, Option, Some, refl, ap, sym, ◌∙◌, subst, arith}
use Rattle.std.proofs.Common.{◌≤◌, slice_get, append_assoc, append-nil}
use Rattle.std.specs.Prelude.{filter, ◌&&◌}
use Rattle.std.specs.List.{list_all}
use Rattle.std.specs.Option.{option_map_or}
use Rattle.std.proofs.lemmas.List.{drop_more}
use Rattle.export_model.specs.declared.triggers.Trigger.{Trigger}
use Rattle.gtm_triggers.proofs.Places.{more, place_if}
use Rattle.gtm_triggers.specs.Holding.{fits, holds, places_from, trigger_holds}
use Rattle.gtm_triggers.specs.Indexed.{held, put_if}
use Rattle.gtm_variables.specs.Snapshot.{Snapshot}

filter_if : (test : ℕ → Bool) (at : ℕ) (rest : List ℕ) (b : Bool) → test at ≡ b
    → filter test (at ∷ rest) ≡ place_if b at (filter test rest)
filter_if test at rest true e = rw e refl
filter_if test at rest false e = rw e refl

module _ (s : Snapshot) (event : List ℕ) (group : Option ℕ) (all : List Trigger) where
  filtered_from : (from : ℕ) (ts : List Trigger)
      → ((k : ℕ) → slice_get all (from + k) ≡ slice_get ts k)
      → places_from (trigger_holds s event group) from ts
      ≡ filter (held s all) (places_from (λ e. fits event group e.0 e.1.kind) from ts)
  filtered_from from [] seen = refl
  filtered_from from (t ∷ ts) seen =
      let e : from + 0 ≡ from = omega arith in
      let here : slice_get all from ≡ Some t =
      subst (λ n. slice_get all n ≡ Some t) e (seen 0) in
      let is : held s all from ≡ list_all (holds s) t.conditions =
      ap (λ o. option_map_or (λ trigger. list_all (holds s) trigger.conditions) o false) here in
      let later : (k : ℕ) → slice_get all ((from + 1) + k) ≡ slice_get ts k =
      λ k.
      let same : from + suc k ≡ (from + 1) + k = omega arith in
      subst (λ n. slice_get all n ≡ slice_get ts k) same (seen (suc k)) in
      more (trigger_holds s event group) from t ts
      ∙ ap (place_if (fits event group from t.kind && list_all (holds s) t.conditions) from)
      (filtered_from (from + 1) ts later)
      ∙ by_test (fits event group from t.kind) is
      ∙ sym (ap (filter (held s all)) (more (λ e. fits event group e.0 e.1.kind) from t ts)) where
        by_test : (b : Bool) → held s all from ≡ list_all (holds s) t.conditions
            → place_if (b && list_all (holds s) t.conditions) from
            (filter (held s all) (places_from (λ e. fits event group e.0 e.1.kind) (from + 1) ts))
            ≡ filter (held s all)
            (place_if b from (places_from (λ e. fits event group e.0 e.1.kind) (from + 1) ts))
        by_test true is =
            sym (filter_if (held s all) from
            (places_from (λ e. fits event group e.0 e.1.kind) (from + 1) ts)
            (list_all (holds s) t.conditions) is)
        by_test false is = refl

-- of those that fit the ones are left whose conditions hold
pub filtered : (s : Snapshot) (event : List ℕ) (group : Option ℕ) (all : List Trigger)
    → places_from (trigger_holds s event group) 0 all
    ≡ filter (held s all) (places_from (λ e. fits event group e.0 e.1.kind) 0 all)
filtered s event group all =
    filtered_from s event group all 0 all
    (λ k. ap (slice_get all) (let e : 0 + k ≡ k = omega arith in e))

-- one turn of a loop that keeps those that pass
pub kept_turn : (test : ℕ → Bool) (places : List ℕ) (at place : ℕ) (b : Bool)
    (before after : List ℕ) → at < length places → place ≡ get_or places at place
    → test place ≡ b → after ≡ put_if b place before
    → after ++ filter test (drop (at + 1) places) ≡ before ++ filter test (drop at places)
kept_turn test places at place b before after within is passes made =
    ap (λ ps. ps ++ filter test (drop (at + 1) places)) made
    ∙ joined b
    ∙ ap (λ ps. before ++ ps)
    (sym (filter_if test place (drop (at + 1) places) b passes)
    ∙ sym (ap (filter test)
    (drop_more places at place within ∙ ap (λ p. p ∷ drop (at + 1) places) (sym is)))) where
      joined : (b : Bool) → put_if b place before ++ filter test (drop (at + 1) places)
          ≡ before ++ place_if b place (filter test (drop (at + 1) places))
      joined true = append_assoc before (place ∷ []) (filter test (drop (at + 1) places))
      joined false = refl

past : (at : ℕ) (places : List ℕ) → length places ≤ at → drop at places ≡ []
past zero [] within = refl
past zero (place ∷ places) within = absurd (omega (arith, within))
past (suc at) [] within = refl
past (suc at) (place ∷ places) within = past at places (omega (arith, within))

-- the end of such a loop
pub kept_end : (test : ℕ → Bool) (places : List ℕ) (at : ℕ) (made : List ℕ)
    → length places ≤ at
    → made ++ filter test (drop at places) ≡ filter test places → made ≡ filter test places
kept_end test places at made within rest =
    let none : made ++ [] ≡ made = rw append-nil refl in
    sym none ∙ ap (λ ps. made ++ filter test ps) (sym (past at places within)) ∙ rest
