use Rattle.std.proofs.Common.{◌≡◌, ℕ, false, take}
use Rattle.std.specs.Prelude.{Contains}
use Rattle.gtm_variables.proofs.filling.fill_all.Given as goal
use Rattle.gtm_variables.specs.Kept.{Enters, IsBegun, IsFor, SameMoment, is_missing, moment_of}
use Rattle.gtm_variables.specs.Snapshot.{snapshot}

abbrev pub invariant-loop-place : goal.invariant-loop-place
invariant-loop-place g l =
    let c = g.C.TemplateCaller in
    record {
      there : (p : ℕ) → Contains (take l.place-index l.places) p → is_missing l.values p ≡ false;
      begun : IsBegun l.values;
      same : SameMoment l.fn.values l.values;
      caller : IsFor c.meaning c.serves c.knows l.caller l.values;
      entered : Enters c.meaning c.serves c.knows c.keeps
          (snapshot (moment_of l.fn.values) (c.meaning l.fn.caller)) l.fn.caller l.caller;
      quiet : g.E.Engines.state l.engines ≡ g.E.Engines.state l.fn.engines;
    }
