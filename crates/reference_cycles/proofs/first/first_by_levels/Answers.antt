use Rattle.reference_cycles.proofs.Levelling.{lower_leads_away}
use Rattle.reference_cycles.proofs.first.first_by_levels.Goals as goal

pub returns-then-branch : goal.returns-then-branch
returns-then-branch c =
    let falls = c.nothing_rises.ensures.0 c.if-nothing_rises.true in
    record {
      leads = c.in_ok-leads_back-in-Some.ensures.0 c.if-branch.true;
      first =
          λ other lower.
          lower_leads_away c.args.graph.now c.as_slice-levels.result.now falls other
          (c.in-Some.ensures.first other lower);
    }

pub returns-in-None : goal.returns-in-None
returns-in-None c = λ place leads.
    let falls = c.nothing_rises.ensures.0 c.if-nothing_rises.true in
    lower_leads_away c.args.graph.now c.as_slice-levels.result.now falls place
    (c.in-None.ensures place) leads
