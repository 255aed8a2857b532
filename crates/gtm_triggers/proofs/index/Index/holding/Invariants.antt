use Rattle.std.proofs.Common.{◌≡◌, ◌++◌, drop}
use Rattle.std.specs.Prelude.{filter}
use Rattle.gtm_variables.specs.Kept.{Enters, IsFor, moment_of}
use Rattle.gtm_variables.specs.Snapshot.{snapshot}
use Rattle.gtm_triggers.proofs.index.Index.holding.Given as goal
use Rattle.gtm_triggers.specs.Indexed.{held}

abbrev pub invariant-loop-at : goal.invariant-loop-at
invariant-loop-at g l =
    let c = g.C.TemplateCaller in
    let s = snapshot (moment_of l.fn.values) (c.meaning l.fn.caller) in
    let test = held s l.fn.values.container.now.triggers in
    record {
      rest : l.places ++ filter test (drop l.at-index l.at-items)
          ≡ filter test l.at-items;
      moment : moment_of l.values ≡ moment_of l.fn.values;
      caller : IsFor c.meaning c.serves c.knows l.caller l.values;
      entered : Enters c.meaning c.serves c.knows c.keeps s l.fn.caller l.caller;
      quiet : g.E.Engines.state l.engines ≡ g.E.Engines.state l.fn.engines;
    }
