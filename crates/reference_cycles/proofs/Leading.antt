-- How places lead to one another.
use Rattle.std.proofs.Common.{◌<◌, ◌≤◌, ◌↔◌, ℕ, zero, suc, List, [], ◌∷◌, length, take, refl, sym}
use Rattle.std.proofs.Common.{subst, arith}
use Rattle.std.specs.Prelude.{All, Contains}
use Rattle.std.proofs.lemmas.List.{take_all}
use Rattle.std.proofs.lemmas.List.Elements.{All-contains}
use Rattle.reference_cycles.specs.Graph.{Refers, Chain, Leads}

-- a place that refers is no place behind the last
pub refers_within : (graph : List (List ℕ)) (from to : ℕ) → Refers graph from to
    → from < length graph
refers_within [] from to refers = absurd refers
refers_within (places ∷ graph) zero to refers = omega arith
refers_within (places ∷ graph) (suc from) to refers =
    omega (arith, refers_within graph from to refers)

module _ (graph : List (List ℕ)) where
  pub leads_within : (from to : ℕ) → Leads graph from to → from < length graph
  leads_within from to leads = refers_within graph from leads.1.0 leads.1.1

  -- a place leads to those that it refers to
  pub leads_directly : (from to : ℕ) → Refers graph from to → Leads graph from to
  leads_directly from to refers = (0, (to, refers, refl))

  chain_leads : (steps from via to : ℕ) → Chain graph steps from via → Leads graph via to
      → Leads graph from to
  chain_leads zero from via to same leads = subst (λ place. Leads graph place to) (sym same) leads
  chain_leads (suc steps) from via to chain leads =
      let rest = chain_leads steps chain.0 via to chain.2 leads in
      (suc rest.0, (chain.0, chain.1, rest.1))

  -- what a place leads to leads on
  pub leads_onwards : (from via to : ℕ) → Leads graph from via → Leads graph via to
      → Leads graph from to
  leads_onwards from via to before behind = chain_leads (suc before.0) from via to before.1 behind

-- what holds of the first places of a list, and there are no more in it, holds of each that the
-- place refers to
pub of_all_references : (graph : List (List ℕ)) (place : ℕ) (places : List ℕ) (P : ℕ → Type 0)
    (count : ℕ) → ((to : ℕ) → Refers graph place to ↔ Contains places to)
    → length places ≤ count → All P (take count places) → (to : ℕ) → Refers graph place to → P to
of_all_references graph place places P count same whole holds to refers =
    All-contains P places to (subst (All P) (take_all count places whole) holds)
    ((same to).0 refers)
