-- What levels say of how places lead to one another.
use Rattle.std.proofs.Common.{◌≡◌, ◌<◌, ◌≤◌, ℕ, zero, suc, List, ap, arith}
use Rattle.std.specs.Prelude.{slice_index}
use Rattle.reference_cycles.specs.Graph.{Chain, Leads}
use Rattle.reference_cycles.specs.Levels.{RefersNoHigher, RefersLower}

module _ (graph : List (List ℕ)) (levels : List ℕ)
    (falls : (place : ℕ) → RefersNoHigher graph levels place) where
  chain_falls : (steps from to : ℕ) → Chain graph steps from to
      → slice_index levels to ≤ slice_index levels from
  chain_falls zero from to same =
      let level : slice_index levels from ≡ slice_index levels to = ap (slice_index levels) same in
      omega arith
  chain_falls (suc steps) from to chain =
      let here : slice_index levels chain.0 ≤ slice_index levels from =
      falls from chain.0 chain.1 in
      let rest : slice_index levels to ≤ slice_index levels chain.0 =
      chain_falls steps chain.0 to chain.2 in
      omega arith

  -- where nothing rises, a place that refers to lower ones alone does not lead back to itself
  pub lower_leads_away : (place : ℕ) → RefersLower graph levels place → Leads graph place place → ⊥
  lower_leads_away place lower leads =
      let here : slice_index levels leads.1.0 < slice_index levels place =
      lower leads.1.0 leads.1.1 in
      let rest : slice_index levels place ≤ slice_index levels leads.1.0 =
      chain_falls leads.0 leads.1.0 place leads.1.2 in
      omega arith
