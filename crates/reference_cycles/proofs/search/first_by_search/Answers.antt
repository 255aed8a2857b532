use Rattle.std.proofs.Common.{true≢false, sym, ◌∙◌, arith, below_more}
use Rattle.reference_cycles.proofs.Leading.{leads_within}
use Rattle.reference_cycles.proofs.search.first_by_search.Goals as goal

pub loop-place-preserved : goal.loop-place-preserved
loop-place-preserved c =
    below_more _ _ c.loop-place.invariant
    (λ leads. true≢false (sym (c.in_ok-leads_back.ensures.1 leads) ∙ c.if-branch.false))

pub returns : goal.returns
returns c =
    λ place leads.
    c.loop-place.invariant place (omega (arith, leads_within c.args.graph.now place place leads))
    leads
