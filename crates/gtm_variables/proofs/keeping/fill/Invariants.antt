use Rattle.std.proofs.Common.{◌≡◌, ◌⊎◌, ◌<◌, ℕ, true, false, length}
use Rattle.std.specs.Prelude.{Contains, MatchOption, IfSome}
use Rattle.gtm_variables.proofs.keeping.fill.Given as goal
use Rattle.gtm_variables.specs.Kept.{Enters, IsBegun, IsFor, SameMoment, is_missing, left}
use Rattle.gtm_variables.specs.Kept.{moment_of}
use Rattle.gtm_variables.specs.Snapshot.{snapshot}

abbrev pub invariant-loop-next : goal.invariant-loop-next
invariant-loop-next g l =
    let c = g.C.TemplateCaller in
    record {
      waiting : (p : ℕ) → Contains l.waiting.items p
          → p < length l.fn.values.container.now.variables;
      missing : IfSome l.next
          (λ p. (is_missing l.values p ≡ true)
          × (p < length l.fn.values.container.now.variables));
      pending : is_missing l.values l.at ≡ true
          → MatchOption l.next ⊥ (λ q. (l.at ≡ q) ⊎ Contains l.waiting.items l.at);
      stays : (p : ℕ) → is_missing l.fn.values p ≡ false → is_missing l.values p ≡ false;
      begun : IsBegun l.values;
      same : SameMoment l.fn.values l.values;
      caller : IsFor c.meaning c.serves c.knows l.caller l.values;
      entered : Enters c.meaning c.serves c.knows c.keeps
          (snapshot (moment_of l.fn.values) (c.meaning l.fn.caller)) l.fn.caller l.caller;
      quiet : g.E.Engines.state l.engines ≡ g.E.Engines.state l.fn.engines;
    }

abbrev pub decreases-loop-next : goal.decreases-loop-next
decreases-loop-next g l = left l.values l.next
