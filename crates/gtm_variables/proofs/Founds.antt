-- What is found once all that is named is kept.
use Rattle.std.proofs.Common.{◌≡◌, ◌<◌, ◌≤◌, ◌+◌, ◌⊎◌, inl, inr, ℕ, zero, suc, List, [], ◌∷◌, ◌++◌}
use Rattle.std.proofs.Common.{false, length, take, get_or, Option, Some, None, refl, subst, sym, ap}
use Rattle.std.proofs.Common.{◌∙◌}
use Rattle.std.specs.Prelude.{Contains}
use Rattle.std.specs.List.{filter_map}
use Rattle.std.proofs.lemmas.List.{take_more}
use Rattle.std.proofs.lemmas.List.Elements.{Contains-push_cases}
use Rattle.export_model.specs.declared.params.NameRef.{NameRef}
use Rattle.export_model.specs.Graphs.{variable_at}
use Rattle.export_model.specs.Names.{names_in}
use Rattle.export_model.specs.Params.{ValueTree}
use Rattle.gtm_data.specs.declared.data.Data.{Data}
use Rattle.gtm_data.proofs.Lists.{take_all}
use Rattle.page_world.specs.World.{WorldState}
use Rattle.variable_kinds.proofs.Agreement.{resolved_same}
use Rattle.variable_kinds.specs.Moment.{Moment, kept_at}
use Rattle.variable_kinds.specs.Resolved.{Agree, resolved}
use Rattle.gtm_variables.specs.declared.values.Values.{Values}
use Rattle.gtm_variables.specs.Calls.{Templates}
use Rattle.gtm_variables.specs.Kept.{moment_of, kept_for, value_by_kept, is_missing, AddsCalls}
use Rattle.gtm_variables.specs.Kept.{AreKept, IsFor, IsTemplateAt, SameMoment}
use Rattle.gtm_variables.specs.Meaning.{value, value_at, resolved_in}
use Rattle.gtm_variables.specs.Snapshot.{snapshot}
use Rattle.gtm_variables.proofs.Chains.{snapshot_on}
use Rattle.gtm_variables.proofs.KeptValues.{by_kept}
use Rattle.gtm_variables.proofs.Unfolding.{names_same}

pub push_none : {A : Type 0} (xs : List (Option A)) (at : ℕ) → get_or xs at None ≡ None
    → get_or (xs ++ None ∷ []) at None ≡ None
push_none [] zero is = refl
push_none [] (suc at) is = refl
push_none (x ∷ xs) zero is = is
push_none (x ∷ xs) (suc at) is = push_none xs at is

-- a caller is for a `Values` that was begun
pub for_begun : {C : Type 0} (meaning : C → Templates) (serves : C → WorldState → Type 0)
    (knows : C → ℕ → Type 0) (caller : C) (a b : Values) → SameMoment a b
    → ((at : ℕ) (kept : Data) → kept_for b at ≡ Some kept → kept_for a at ≡ Some kept)
    → IsFor meaning serves knows caller a → IsFor meaning serves knows caller b
for_begun meaning serves knows caller a b same only is = record {
  kept = subst (λ (m : Moment). AreKept (snapshot m (meaning caller)) (meaning caller).calls
      (kept_for b)) (sym same.moment)
      (record {
        meant = λ at d found. is.kept.meant at d (only at d found);
        called = λ at d found template. is.kept.called at d (only at d found) template;
      });
  world = subst (λ (m : Moment). serves caller m.world) (sym same.moment) is.world;
  known = subst (λ (m : Moment). (at : ℕ) → IsTemplateAt m.container at → knows caller at)
      (sym same.moment) is.known;
}

-- one more place was filled
pub filled_more : (places : List ℕ) (at : ℕ) (P Q : ℕ → Type 0) → at < length places
    → ((p : ℕ) → Contains (take at places) p → P p) → ((p : ℕ) → P p → Q p)
    → Q (get_or places at 0) → (p : ℕ) → Contains (take (at + 1) places) p → Q p
filled_more places at P Q within before on here p has =
    by_case (Contains-push_cases (take at places) (get_or places at 0) p
    (subst (λ ps. Contains ps p) (take_more places at 0 within) has)) where
      by_case : Contains (take at places) p ⊎ (get_or places at 0 ≡ p) → Q p
      by_case (inl old) = on p (before p old)
      by_case (inr same) = subst Q same here

pub filled_all : (places : List ℕ) (at : ℕ) (P : ℕ → Type 0) → length places ≤ at
    → ((p : ℕ) → Contains (take at places) p → P p) → (p : ℕ) → Contains places p → P p
filled_all places at P past before p has =
    before p (subst (λ ps. Contains ps p) (sym (take_all at places past)) has)

module _ (a b : Values) (before now : Templates) (same : SameMoment a b)
    (adds : AddsCalls (snapshot (moment_of a) before) before now)
    (kept : AreKept (snapshot (moment_of b) now) now.calls (kept_for b)) where
  -- names whose places are kept have by what is kept their values
  agree : (names : List NameRef)
      → ((p : ℕ) → Contains (filter_map variable_at names) p → is_missing b p ≡ false)
      → Agree (value_by_kept b) (value (snapshot (moment_of b) now)) names
  agree names there =
      names_same (moment_of b) (kept_at b.kept.items) (value_at (snapshot (moment_of b) now)) names
      (λ p has.
      by_kept b p (value_at (snapshot (moment_of b) now) p) (kept_for b p) refl (there p has)
      (kept.meant p))

  -- where all that a parameter names is kept, its value by what is kept is its value
  pub resolved_kept : (param : ValueTree)
      → ((p : ℕ) → Contains (filter_map variable_at (names_in param)) p
      → is_missing b p ≡ false)
      → resolved (value_by_kept b) param ≡ resolved_in (snapshot (moment_of a) before) param
  resolved_kept param there =
      resolved_same (value_by_kept b) (value (snapshot (moment_of b) now)) param
      (agree (names_in param) there)
      ∙ ap (λ s. resolved_in s param)
      (snapshot_on (moment_of a) (moment_of b) before now same.moment adds)

  -- and so has a name
  pub name_kept : (name : NameRef)
      → ((p : ℕ) → Contains (filter_map variable_at (name ∷ [])) p → is_missing b p ≡ false)
      → value_by_kept b name ≡ value (snapshot (moment_of a) before) name
  name_kept name there =
      (agree (name ∷ []) there).0
      ∙ ap (λ s. value s name)
      (snapshot_on (moment_of a) (moment_of b) before now same.moment adds)
