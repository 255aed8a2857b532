-- How a `ListOf` holds its items, so that a type may hold a list of itself.
use mathlib.Core.Path.{◌≡◌, refl, sym}
use mathlib.Core.List.{List, []}
use mathlib.Core.Former.{Former, this, list, via, children}
use base.Stored.{code_map}
use denote.RattleType.{RattleType}
use denote.HoleLaws.{Alike}
use denote.HolePlaces.{Recodes, struct_places, laid}
use denote.Hole.Carrier.{listed, list-listed}
use denote.Hole.Fix.{over}
use denote.Param.Weighed.{Weighed, w_list}
use denote.Model.Placed.{view_places}
use Rattle.std.specs.formers.vec.Vec as vec
use Rattle.std.specs.declared.alloc.Global.{Global}
use Rattle.std.specs.contracts.alloc.Global as global
use Rattle.std.specs.contracts.impls.GlobalAllocator.TheImpl.{ghosts}
use Rattle.gtm_base.specs.declared.list.ListOf.TheInside.{Inside}
use Rattle.gtm_base.specs.declared.list.ListOf.TheView.{view, invariant}
use Rattle.gtm_base.specs.contracts.list.ListOf as contracts
use Rattle.gtm_base.specs.contracts.list.ListOf.TheInside as inside

-- a list of what the items are
abbrev pub the_former : Former {0} → Former {0}
the_former items = list items

abbrev pub the_weighed : {items : Former {0}} → Weighed items → Weighed (the_former items)
the_weighed weighed = w_list weighed

pub the_empty : List ⊥
the_empty = []

abbrev pub the_items : (X : Type 0) → List X → List X
the_items X items = items

pub the_items_listed : (X : Type 0) (items : List X)
    → listed _ (children (the_former this) X items) ≡ the_items X items
the_items_listed X items = list-listed X items

-- the struct's own field holds them in a `Vec`
abbrev in_fields : Former {0}
in_fields =
    via (vec.the_former this Global) Inside (λ X fields. fields.inner)
    (λ X inner. record { inner = inner }) (λ X fields. refl) (λ X inner. refl)

module _ (R S : RattleType) (along : R.Denot → S.Denot) where
  fields_alike : Alike R S along
      → Alike (inside.the_row R) (inside.the_row S) (in_fields.map R.Denot S.Denot along)
  fields_alike alike =
      struct_places (inside.the_type R) (inside.the_type S) (vec.mapped along, tt) _ (λ _. refl)
      refl (laid _ _ _ (vec.the_places global.the_row ghosts R S along alike), tt)

  pub the_places : Alike R S along
      → Alike (contracts.the_row R) (contracts.the_row S)
      ((the_former this).map R.Denot S.Denot along)
  the_places alike =
      view_places in_fields (list this) view (λ X Y _ _. refl) (λ X _. refl) R.Denot S.Denot along
      (contracts.the_row R).coded (contracts.the_row S).coded (invariant R.Denot)
      (invariant S.Denot)
      (λ _ _ _. refl) (λ _ _ _. refl) (λ _ _. tt) (λ _ _. tt)
      (over (inside.the_row R)) (over (inside.the_row S)) (fields_alike alike)

  pub the_codes_placed : Recodes R S along
      → Recodes (contracts.the_row R) (contracts.the_row S)
      ((the_former this).map R.Denot S.Denot along)
  the_codes_placed same items =
      sym (code_map R.coded.code S.coded.code along (λ x. sym (same x)) items)
