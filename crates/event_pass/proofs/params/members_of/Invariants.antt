use Rattle.std.proofs.Common.{◌≡◌, drop}
use Rattle.event_pass.proofs.params.members_of.Given as goal
use Rattle.export_model.specs.Params.{params_of}
use Rattle.gtm_data.specs.Tree.{entries_of, none}
use Rattle.gtm_variables.specs.Kept.{Enters, IsFor, moment_of}
use Rattle.gtm_variables.specs.Meaning.{value}
use Rattle.gtm_variables.specs.Snapshot.{snapshot}
use Rattle.variable_kinds.specs.declared.members.Choice.TheVariants.{Last}
use Rattle.variable_kinds.specs.Resolved.{resolved_members}

abbrev pub invariant-loop-param : goal.invariant-loop-param
invariant-loop-param g l =
    let c = g.C.TemplateCaller in
    let s = snapshot (moment_of l.fn.values) (c.meaning l.fn.caller) in
    record {
      rest : resolved_members (value s) Last (params_of (drop l.param-index l.params))
          (entries_of l.members.pairs)
          ≡ resolved_members (value s) Last (params_of l.params) none;
      moment : moment_of l.values ≡ moment_of l.fn.values;
      caller : IsFor c.meaning c.serves c.knows l.caller l.values;
      entered : Enters c.meaning c.serves c.knows c.keeps s l.fn.caller l.caller;
      quiet : g.E.Engines.state l.engines ≡ g.E.Engines.state l.fn.engines;
    }
