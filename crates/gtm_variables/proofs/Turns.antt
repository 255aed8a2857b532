-- One turn at a place with no value.
use Rattle.std.proofs.Common.{◌≡◌, ◌⊎◌, inl, inr, ◌<◌, ◌≤◌, ◌+◌, ℕ, suc, List, [], ◌∷◌, ◌++◌, true}
use Rattle.std.proofs.Common.{length, set, get_or, Option, Some, None, refl, subst, sym}
use Rattle.std.proofs.Common.{arith}
use Rattle.std.specs.Prelude.{Contains, IfSome, is_none, if◌then◌else◌}
use Rattle.std.specs.List.{sum_by}
use Rattle.std.specs.Option.{option_map_or}
use Rattle.std.proofs.lemmas.List.Elements.{Contains-append_left, Contains-push}
use Rattle.std.proofs.lemmas.List.Elements.{Contains-push_cases}
use Rattle.std.proofs.lemmas.List.Sums.{sum_by-set}
use Rattle.export_model.specs.declared.container.Container.{Container}
use Rattle.export_model.specs.Graphs.{variable_graph}
use Rattle.gtm_data.specs.declared.data.Data.{Data}
use Rattle.reference_cycles.specs.Graph.{Refers, HasNoCycle}
use Rattle.reference_heights.specs.Along.{height}
use Rattle.reference_heights.proofs.Alongs.{refers_lower, height_within}
use Rattle.gtm_variables.specs.Kept.{left_of}

module _ (waiting mid : List ℕ) (top : ℕ) (pushed : mid ≡ waiting ++ top ∷ []) where
  pub pushed_within : (bound : ℕ) (now : List ℕ) (refers : ℕ → Type 0)
      → ((p : ℕ) → Contains now p → Contains mid p ⊎ refers p)
      → ((p : ℕ) → Contains waiting p → p < bound) → top < bound
      → ((p : ℕ) → refers p → p < bound) → (p : ℕ) → Contains now p → p < bound
  pushed_within bound now refers only old this new p has = by_case (only p has) where
    by_push : Contains waiting p ⊎ (top ≡ p) → p < bound
    by_push (inl before) = old p before
    by_push (inr same) = subst (λ q. q < bound) same this

    by_case : Contains mid p ⊎ refers p → p < bound
    by_case (inl before) =
        by_push (Contains-push_cases waiting top p (subst (λ ps. Contains ps p) pushed before))
    by_case (inr refers_to) = new p refers_to

  pub pushed_pending : (now : List ℕ) → ((p : ℕ) → Contains mid p → Contains now p) → (p : ℕ)
      → (p ≡ top) ⊎ Contains waiting p → Contains now p
  pushed_pending now more p (inl same) =
      more p (subst (λ ps. Contains ps p) (sym pushed)
      (subst (Contains (waiting ++ top ∷ [])) (sym same) (Contains-push waiting top)))
  pushed_pending now more p (inr has) =
      more p (subst (λ ps. Contains ps p) (sym pushed)
      (Contains-append_left waiting (top ∷ []) p has))

pub both_some : (found : Option ℕ) (P Q R : ℕ → Type 0) → IfSome found P → IfSome found Q
    → ((p : ℕ) → Q p → R p) → IfSome found (λ p. P p × R p)
both_some None P Q R first second on = tt
both_some (Some p) P Q R first second on = (first, on p second)

pub lower_next : (c : Container) (kept : List (Option Data)) → HasNoCycle (variable_graph c)
    → (top next : ℕ) → Refers (variable_graph c) top next
    → left_of c kept (Some next) < left_of c kept (Some top)
lower_next c kept none top next refers =
    let lower = refers_lower (variable_graph c) none top next refers in
    omega (arith, lower)

next_within : (c : Container) (next : Option ℕ)
    → option_map_or (height (variable_graph c)) next 0 ≤ suc (length (variable_graph c))
next_within c None = omega arith
next_within c (Some place) = height_within (variable_graph c) place

fewer : (weight : ℕ) (kept : List (Option Data)) (top : ℕ) (value : Data) → top < length kept
    → is_none (get_or kept top None) ≡ true
    → sum_by (λ found. if is_none found then weight else 0) (set kept top (Some value)) + weight
    ≡ sum_by (λ found. if is_none found then weight else 0) kept
fewer weight kept top value within missing =
    let f = λ (found : Option Data). if is_none found then weight else 0 in
    let e : f (get_or kept top None) ≡ weight = (rw missing refl) in
    let h : sum_by f (set kept top (Some value)) + f (get_or kept top None)
    ≡ sum_by f kept + 0 =
    sum_by-set f kept top (Some value) None within in
    omega (arith, h, e)

pub lower_put : (c other : Container) (kept now : List (Option Data)) (top : ℕ) (value : Data)
    (next : Option ℕ) → other ≡ c → now ≡ set kept top (Some value) → top < length kept
    → is_none (get_or kept top None) ≡ true
    → left_of other now next < left_of c kept (Some top)
lower_put c other kept now top value next same put within missing =
    let few = fewer (length (variable_graph c) + 2) kept top value within missing in
    let low = next_within c next in
    let here : left_of c (set kept top (Some value)) next < left_of c kept (Some top) =
    omega (arith, few, low) in
    subst (λ container. left_of container now next < left_of c kept (Some top)) (sym same)
    (subst (λ ks. left_of c ks next < left_of c kept (Some top)) (sym put) here)
