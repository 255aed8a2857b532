use Rattle.std.proofs.Common.{ap}
use Rattle.gtm_rows.proofs.Held.{holds_both}
use Rattle.gtm_rows.proofs.running.holding.Goals as goal

pub returns-clause-held : goal.returns-clause-held
returns-clause-held c =
    holds_both c.new-files.result c.add.new.self c.add-2.new.self c.args.export.now c.args.trace.now
    (ap (λ made. made.held) c.new-files.ensures) c.in_ok-add.ensures.ok c.in_ok-add-2.ensures.ok
