use Rattle.std.proofs.Common.{◌≡◌, drop}
use Rattle.std.specs.List.{list_all}
use Rattle.gtm_variables.specs.Kept.{Enters, IsFor, moment_of}
use Rattle.gtm_variables.specs.Snapshot.{snapshot}
use Rattle.gtm_triggers.proofs.triggers.all_hold.Given as goal
use Rattle.gtm_triggers.specs.Holding.{holds}

abbrev pub invariant-loop-condition : goal.invariant-loop-condition
invariant-loop-condition g l =
    let c = g.C.TemplateCaller in
    let s = snapshot (moment_of l.fn.values) (c.meaning l.fn.caller) in
    record {
      rest : list_all (holds s) (drop l.condition-index l.conditions)
          ≡ list_all (holds s) l.conditions;
      moment : moment_of l.values ≡ moment_of l.fn.values;
      caller : IsFor c.meaning c.serves c.knows l.caller l.values;
      entered : Enters c.meaning c.serves c.knows c.keeps s l.fn.caller l.caller;
      quiet : g.E.Engines.state l.engines ≡ g.E.Engines.state l.fn.engines;
    }
