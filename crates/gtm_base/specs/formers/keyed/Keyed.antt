-- How a `Keyed` holds its values, so that a type may hold pairs of itself.
use mathlib.Core.Path.{◌≡◌, refl, sym, ap, ◌∙◌}
use mathlib.Core.List.{List, [], ◌∷◌, map}
use mathlib.Core.Bool.{true, Bool-set}
use mathlib.Core.Former.{Former, this, const, pair, list, such, via, children}
use Prim.Native.Nat.{ℕ}
use denote.RattleType.{RattleType}
use denote.HoleLaws.{Alike}
use denote.HolePlaces.{Recodes, struct_places, struct_Codes, laid, stays}
use denote.Hole.Carrier.{listed}
use denote.Param.Weighed.{Weighed, w_list, w_pair, w_const}
use denote.Struct.Tuple.{Tuple, tuple_type}
use Rattle.gtm_base.specs.contracts.text.Text as text
use Rattle.gtm_base.specs.contracts.key_places.KeyPlaces as places
use Rattle.gtm_base.specs.formers.list.ListOf as list_of
use Rattle.gtm_base.specs.KeyPlaces.{places_of}
use Rattle.gtm_base.specs.Keys.{distinct_keys}
use Rattle.gtm_base.specs.SameKeyed.{same_keyed}
use Rattle.std.specs.Prelude.{None}
use Rattle.gtm_base.specs.KeysStay.{on_value, distinct_keys-map, places_of-map}
use Rattle.gtm_base.specs.declared.keyed.Keyed.{Keyed}
use Rattle.gtm_base.specs.contracts.keyed.Keyed as contracts

-- pairs of a key and what the values are
abbrev pairs_of : Former {0} → Former {0}
pairs_of values = list (pair (const (List ℕ)) values)

-- of them, those with distinct keys: a fact that no change of the values touches
abbrev distinct_of : Former {0} → Former {0}
distinct_of values =
    such (pairs_of values)
    (λ X pairs. distinct_keys pairs ≡ true)
    (λ pairs. distinct_keys pairs ≡ true)
    (λ X _. Bool-set _ _)
    (λ _. Bool-set _ _)
    (λ X pairs distinct. distinct_keys-map (values.shape X) pairs ∙ distinct)
    (λ X pairs distinct. sym (distinct_keys-map (values.shape X) pairs) ∙ distinct)

abbrev pub the_former : Former {0} → Former {0}
the_former values =
    via (distinct_of values) (λ X. Keyed (values.Of X))
    (λ X keyed. (keyed.pairs, keyed.distinct))
    (λ X both. record {
      pairs = both.0;
      places = places_of both.0;
      distinct = both.1;
      kept = refl;
    })
    (λ X keyed. same_keyed _ keyed refl) (λ X _. refl)

abbrev pub the_weighed : {values : Former {0}} → Weighed values → Weighed (the_former values)
the_weighed weighed = record {
  weight =
      λ X measure keyed. (w_list (w_pair (w_const (List ℕ)) weighed)).weight X measure keyed.pairs;
  puts = λ X measure keyed. (w_list (w_pair (w_const (List ℕ)) weighed)).puts X measure keyed.pairs;
}

pub the_empty : Keyed ⊥
the_empty = record { pairs = []; places = None; distinct = refl; kept = refl }

abbrev pub the_items : (X : Type 0) → Keyed X → List X
the_items X keyed = map (λ pair. pair.1) keyed.pairs

values_listed : (X : Type 0) (pairs : List (List ℕ × X))
    → listed _ (children (pairs_of this) X pairs) ≡ map (λ pair. pair.1) pairs
values_listed X [] = refl
values_listed X (pair ∷ pairs) = ap (λ rest. pair.1 ∷ rest) (values_listed X pairs)

pub the_items_listed : (X : Type 0) (keyed : Keyed X)
    → listed _ (children (the_former this) X keyed) ≡ the_items X keyed
the_items_listed X keyed = values_listed X keyed.pairs

abbrev pair_row : RattleType → RattleType
pair_row R = Tuple (text.the_row ∷ R ∷ [])

-- the places stay where the values change
stay : {X Y : Type 0} (along : X → Y) (keyed : Keyed X)
    → places_of (map (on_value along) keyed.pairs) ≡ keyed.places
stay along keyed = places_of-map along keyed.pairs ∙ sym keyed.kept

module _ (R S : RattleType) (along : R.Denot → S.Denot) where
  pairs_alike : Alike R S along → Alike (pair_row R) (pair_row S) (on_value along)
  pairs_alike alike =
      struct_places (tuple_type (text.the_row ∷ R ∷ [])) (tuple_type (text.the_row ∷ S ∷ []))
      ((λ key. key), (along, tt)) (on_value along) (λ _. refl) refl
      (stays text.the_row, (laid R S along alike, tt))

  pub the_places : Alike R S along
      → Alike (contracts.the_row R) (contracts.the_row S)
      ((the_former this).map R.Denot S.Denot along)
  the_places alike =
      struct_places (contracts.the_type R) (contracts.the_type S)
      (map (on_value along), ((λ places. places), tt))
      ((the_former this).map R.Denot S.Denot along) (λ keyed i. (map (on_value along) keyed.pairs, (stay along keyed i, tt))) refl (
        laid _ _ _
            (list_of.the_places (pair_row R) (pair_row S) (on_value along) (pairs_alike alike)),
        (stays places.the_row, tt),
      )

  pairs_recoded : Recodes R S along → Recodes (pair_row R) (pair_row S) (on_value along)
  pairs_recoded same =
      struct_Codes (tuple_type (text.the_row ∷ R ∷ [])) (tuple_type (text.the_row ∷ S ∷ []))
      ((λ key. key), (along, tt)) (on_value along) (λ _. refl) ((λ _. refl), (same, tt))

  pub the_codes_placed : Recodes R S along
      → Recodes (contracts.the_row R) (contracts.the_row S)
      ((the_former this).map R.Denot S.Denot along)
  the_codes_placed same =
      struct_Codes (contracts.the_type R) (contracts.the_type S)
      (map (on_value along), ((λ places. places), tt))
      ((the_former this).map R.Denot S.Denot along) (λ keyed i. (map (on_value along) keyed.pairs, (stay along keyed i, tt))) (
        list_of.the_codes_placed (pair_row R) (pair_row S) (on_value along) (pairs_recoded same),
        ((λ _. refl), tt),
      )
