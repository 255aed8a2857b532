-- What a search has reached.
use Rattle.std.proofs.Common.{◌≡◌, ◌<◌, ◌≤◌, ◌↔◌, ◌+◌, inl, inr, ℕ, zero, suc, List, [], ◌∷◌, ◌++◌}
use Rattle.std.proofs.Common.{length, get_or, take, sym, ap, ◌∙◌, subst, arith}
use Rattle.std.specs.Prelude.{Contains}
use Rattle.std.proofs.lemmas.List.{take_more, take_all, take-append-le}
use Rattle.std.proofs.lemmas.List.Elements.{Contains-get_or, Contains-push_cases}
use Rattle.std.proofs.lemmas.List.Elements.{Contains-append_left, Contains-append_cases}
use Rattle.reference_cycles.specs.Graph.{Refers, Chain, Leads}
use Rattle.reference_cycles.specs.Reached.{Grows}
use Rattle.reference_cycles.proofs.Leading.{refers_within, leads_directly, leads_onwards}

-- the places are led to, and those that the start and the first places refer to are among them
pub record IsSearched (graph : List (List ℕ)) (start next : ℕ) (places : List ℕ) : Type 0 where
  pub sound : (place : ℕ) → Contains places place → Leads graph start place
  pub first : (to : ℕ) → Refers graph start to → to < length graph → Contains places to
  pub closed : (from to : ℕ) → Contains (take next places) from → Refers graph from to
      → to < length graph → Contains places to

module _ (graph : List (List ℕ)) (start : ℕ) where
  -- what the start refers to
  pub searched_first : (wanted old new : List ℕ)
      → ((to : ℕ) → Refers graph start to ↔ Contains wanted to) → old ≡ []
      → Grows (length graph) wanted old new → IsSearched graph start 0 new
  searched_first wanted old new refers none grows = record {
    sound = λ place has.
        let all : new ≡ grows.more = grows.behind ∙ ap (λ places. places ++ grows.more) none in
        leads_directly graph start place
        ((refers place).1 (grows.only place (subst (λ places. Contains places place) all has)));
    first = λ to is within. grows.all to within ((refers to).0 is);
    closed = λ from to no. absurd (omega (arith, no.1));
  }

  module _ (next place : ℕ) (wanted old new : List ℕ) (searched : IsSearched graph start next old)
      (within : next < length old) (here : place ≡ get_or old next 0)
      (refers : (to : ℕ) → Refers graph place to ↔ Contains wanted to)
      (grows : Grows (length graph) wanted old new) where
    reached : Contains old place
    reached = subst (Contains old) (sym here) (Contains-get_or old next 0 within)

    kept : (other : ℕ) → Contains old other → Contains new other
    kept other has =
        subst (λ places. Contains places other) (sym grows.behind)
        (Contains-append_left old grows.more other has)

    one_more : take (next + 1) new ≡ take next old ++ place ∷ []
    one_more =
        ap (take (next + 1)) grows.behind
        ∙ take-append-le (next + 1) old grows.more (omega arith)
        ∙ take_more old next 0 within
        ∙ ap (λ last. take next old ++ last ∷ []) (sym here)

    -- what the next place refers to
    pub searched_more : IsSearched graph start (next + 1) new
    searched_more = record {
      sound =
          λ other has.
          elim (Contains-append_cases old grows.more other
          (subst (λ places. Contains places other) grows.behind has)) [
            | inl before ↦ searched.sound other before
            | inr more ↦ leads_onwards graph start place other (searched.sound place reached)
                (leads_directly graph place other ((refers other).1 (grows.only other more)))
          ];
      first = λ to is inside. kept to (searched.first to is inside);
      closed =
          λ from to has is inside.
          elim (Contains-push_cases (take next old) place from
          (subst (λ places. Contains places from) one_more has)) [
            | inl before ↦ kept to (searched.closed from to before is inside)
            | inr same ↦ grows.all to inside
                ((refers to).0 (subst (λ at. Refers graph at to) (sym same) is))
          ];
    }

  module _ (next : ℕ) (places : List ℕ) (searched : IsSearched graph start next places)
      (whole : length places ≤ next) where
    chain_within : (steps from to : ℕ) → Chain graph steps from to → to < length graph
        → from < length graph
    chain_within zero from to same inside = subst (λ at. at < length graph) (sym same) inside
    chain_within (suc steps) from to chain inside = refers_within graph from chain.0 chain.1

    stays : (steps from to : ℕ) → Chain graph steps from to → to < length graph
        → Contains places from → Contains places to
    stays zero from to same inside has = subst (Contains places) same has
    stays (suc steps) from to chain inside has =
        let first = subst (λ list. Contains list from) (sym (take_all next places whole)) has in
        stays steps chain.0 to chain.2 inside
        (searched.closed from chain.0 first chain.1
        (chain_within steps chain.0 to chain.2 inside))

    -- all that the start leads to is reached
    pub searched_all : (to : ℕ) → to < length graph → Leads graph start to → Contains places to
    searched_all to inside leads =
        stays leads.0 leads.1.0 to leads.1.2 inside
        (searched.first leads.1.0 leads.1.1 (chain_within leads.0 leads.1.0 to leads.1.2 inside))
