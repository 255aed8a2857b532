use Rattle.std.proofs.Common.{◌≡◌, ◌++◌, drop, map}
use Rattle.event_pass.proofs.passing.due_tags.Given as goal
use Rattle.event_pass.specs.Due.{due_at}
use Rattle.event_pass.specs.Passing.{due_of}
use Rattle.gtm_variables.specs.Kept.{Enters, IsFor, moment_of}
use Rattle.gtm_variables.specs.Snapshot.{snapshot}

abbrev pub invariant-loop-tag : goal.invariant-loop-tag
invariant-loop-tag g l =
    let c = g.C.TemplateCaller in
    let s = snapshot (moment_of l.fn.values) (c.meaning l.fn.caller) in
    record {
      rest : map due_of l.due ++ map (due_at s) (drop l.tag-index l.tag-items)
          ≡ map (due_at s) l.tag-items;
      moment : moment_of l.values ≡ moment_of l.fn.values;
      caller : IsFor c.meaning c.serves c.knows l.caller l.values;
      entered : Enters c.meaning c.serves c.knows c.keeps s l.fn.caller l.caller;
      quiet : g.E.Engines.state l.engines ≡ g.E.Engines.state l.fn.engines;
    }
