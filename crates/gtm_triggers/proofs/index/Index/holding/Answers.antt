use Rattle.std.proofs.Common.{◌∙◌, sym, ap}
use Rattle.std.specs.Prelude.{filter}
use Rattle.gtm_variables.specs.Kept.{moment_of}
use Rattle.gtm_variables.specs.Snapshot.{snapshot}
use Rattle.gtm_triggers.proofs.Filtered.{filtered, kept_end}
use Rattle.gtm_triggers.proofs.index.Index.holding.Goals as goal
use Rattle.gtm_triggers.specs.Indexed.{held}

pub returns-clause-value : goal.returns-clause-value
returns-clause-value g c =
    let l = c.loop-at in
    let first =
    snapshot (moment_of c.args.values.now) (g.C.TemplateCaller.meaning c.args.caller.now) in
    let ts = c.args.values.now.container.now.triggers in
    kept_end (held first ts) c.as_slice-at-items.result.now l.at-index l.places
    c.loop-at-test.false l.invariant.rest
    ∙ ap (filter (held first ts)) (c.as_slice-at-items.ensures ∙ c.in_ok-fitting.ensures)
    ∙ sym (filtered first c.args.event.now c.args.group ts)
